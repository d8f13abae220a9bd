use Rattle.std.proofs.Common.{◌≡◌, ◌∙◌, ap, sym, true}
use Rattle.std.proofs.lemmas.Bool.{true≢false}
use Rattle.x509_path.proofs.Lent.{differ}
use Rattle.x509_path_steps.proofs.CommonNames.{no_common_limits}
use Rattle.x509_path_steps.specs.declared.asked.Uses.{Uses}
use Rattle.x509_validation.proofs.validator.Validator.has_other_common_names.Goals as goal

pub returns-then-not-stand-3 : goal.returns-then-not-stand-3
returns-then-not-stand-3 g c = λ inputs above before certificate stands knows. (
  (λ never. absurd (true≢false (sym never))),
  (λ (asked, (last, denied)). absurd (denied (no_common_limits inputs before certificate stands.constraints stands.collects (stands.applied.none c.if-not-stand-3.true)))),
)

pub returns : goal.returns
returns g c = λ inputs above before certificate stands knows.
    let asked : inputs.uses.constrain_common_names ≡ true = ap (λ (u : Uses). u.constrain_common_names) stands.uses ∙ c.if-not-stand.false in
    let other = differ c.in_ok-are_allowed.are_allowed (c.in_ok-are_allowed.ensures inputs above before certificate stands knows) in
    ((λ is. (asked, (c.if-not-stand-2.false, other.0 is))), (λ (_, (_, denied)). other.1 denied))
