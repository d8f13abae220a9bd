use Rattle.x509_linter.specs.declared.count.Kept.{Kept}
use Rattle.x509_linter.proofs.count.count.Goals as goal

pub returns : goal.returns
returns g c =
    let empty : Kept = record { text = c.new.result } in (
      empty,
      c.show_all-first.new.writer,
      c.show_all-first.new.errors,
      c.show_all-first.result,
      c.new.ensures.items,
      c.show_all-first.ensures,
      rw c.as_slice.ensures.value at c.sum_up.ensures,
    )
