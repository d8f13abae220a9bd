use Rattle.std.proofs.Common.{sym, inl, inr}
use Rattle.x509_c_calls.proofs.Serials.{found, refused}
use Rattle.x509_c_calls.proofs.payloads.text.serial_number.Goals as goal

pub returns-in-Ok-clause-ok : goal.returns-in-Ok-clause-ok
returns-in-Ok-clause-ok c =
    let read = found c.args.content.now c.in-Ok.serial (rw c.octet.ensures.octet at c.in-Ok.ensures.exact) in
    (sym read.1, read.0)

pub returns-in-Err-clause-err : goal.returns-in-Err-clause-err
returns-in-Err-clause-err c =
    rw c.kind.ensures
    (elim (refused c.args.content.now _ (rw c.octet.ensures.octet at c.in-Err.ensures.exact)) [
      | inl memory ↦ inl (memory, c.in_ok-check_integer.ensures.ok)
      | inr other ↦ inr other
    ])
