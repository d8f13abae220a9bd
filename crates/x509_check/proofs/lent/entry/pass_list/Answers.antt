use Rattle.std.proofs.Common.{◌∙◌, ap}
use Rattle.std.specs.List.{list_any}
use Rattle.x509_check.proofs.PassedExtensions.{list_spelled, reason_passes}
use Rattle.x509_check.specs.CrlRefs.{marks}
use Rattle.x509_check.proofs.lent.entry.pass_list.Goals as goal

pub returns-then-is_reason_alone : goal.returns-then-is_reason_alone
returns-then-is_reason_alone c =
    let reason = c.is_reason_alone.ensures c.if-is_reason_alone.true in
    reason_passes _ reason.0 reason.1

pub of_checked-requires : goal.of_checked-requires
of_checked-requires c =
    let list = c.in_ok-list.ensures.exact in
    (list.0, list_spelled _ _ _ list.0 c.requires list.1 list.2)

pub returns : goal.returns
returns c =
    let list = c.in_ok-list.ensures.exact in
    (list.0, list.1, c.has_critical_or.ensures ∙ ap (list_any marks) (c.of_checked.ensures list.0 (list_spelled _ _ _ list.0 c.requires list.1 list.2)))
