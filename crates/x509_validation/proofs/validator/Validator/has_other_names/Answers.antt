use Rattle.std.proofs.Common.{sym}
use Rattle.std.proofs.lemmas.Bool.{true≢false}
use Rattle.x509_path.proofs.Lent.{differ}
use Rattle.x509_path_steps.proofs.AllowedNames.{no_limits}
use Rattle.x509_validation.proofs.validator.Validator.has_other_names.Goals as goal

pub returns-then-not-stand : goal.returns-then-not-stand
returns-then-not-stand g c = λ inputs above before certificate stands knows. (
  (λ never. absurd (true≢false (sym never))),
  (λ (asked, denied). absurd (denied (no_limits inputs before certificate stands.constraints stands.collects (stands.applied.none c.if-not-stand.true)))),
)

pub returns : goal.returns
returns g c = λ inputs above before certificate stands knows.
    let other = differ c.in_ok-are_allowed.are_allowed (c.in_ok-are_allowed.ensures inputs above before certificate stands knows) in
    ((λ is. ((c.is_asked.ensures certificate knows.own).0 c.if-not-is_asked.false, other.0 is)), (λ (asked, denied). other.1 denied))
