use Rattle.std.proofs.Common.{sym, ◌∙◌}
use Rattle.x509_check.proofs.KnownEntries.{some_value}
use Rattle.x509_der.specs.OutcomeLaws.{ok_is}
use Rattle.x509_check.proofs.lent.extension.known_extension.Goals as goal

pub unreachable-requires : goal.unreachable-requires
unreachable-requires c =
    let v = some_value _ c.requires in
    let refused = sym c.in_default.ensures ∙ v.1 in
    absurd cc

pub returns : goal.returns
returns c = λ e read. ok_is _ _ (sym c.in-Ok.ensures ∙ read)
