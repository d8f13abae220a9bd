use Rattle.std.proofs.Common.{sym, ◌∙◌}
use Rattle.std.proofs.lemmas.Slice.Eq.{bytes_eq-Decides}
use Rattle.x509_check.proofs.PassedExtensions.{one_behind, spells_reason}
use Rattle.x509_check.proofs.lent.entry.is_reason_alone.Goals as goal

pub returns-in-len1-up : goal.returns-in-len1-up
returns-in-len1-up c = λ is.
    let same = (bytes_eq-Decides _ _).0 (sym c.eq.ensures ∙ is) in
    let end = one_behind c.args.bytes.now _ c.in-len1-up.len_at_least same in
    (end.0, spells_reason c.args.bytes.now end.0 end.1)
