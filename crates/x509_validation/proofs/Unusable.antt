-- Constraints of a certificate that can't be used.
use Rattle.std.proofs.Common.{◌≡◌, ◌↔◌, ◌∙◌, Bool, false, not, Option, Some, None, sym, subst}
use Rattle.std.proofs.lemmas.Bool.{true≢false}
use Rattle.std.specs.Bool.{IsTrue}
use Rattle.x509_constraints.specs.Constraints.{IsUsable}
use Rattle.x509_ext.specs.declared.pkix.name_constraints.NameConstraints.{NameConstraints}
use Rattle.x509_path.proofs.Lent.{differ}
use Rattle.x509_path.specs.Certificates.{Certificate}
use Rattle.x509_path_steps.specs.Steps.{AreConstraintsOf}
use Rattle.x509_path_steps.specs.Validation.{HasUnusable}

module _ (c : Certificate) (found : Option NameConstraints) (has : AreConstraintsOf c found) where
  pub unusable : (constraints : NameConstraints) → found ≡ Some constraints → (b : Bool) → IsTrue b ↔ IsUsable constraints → IsTrue (not b) ↔ HasUnusable c
  unusable constraints is b usable = (
    (λ no. (constraints, (has constraints).1 is, (differ b usable).0 no)),
    (λ (other, of_other, never).
        let same : Some constraints ≡ Some other = sym is ∙ (has other).0 of_other in
        let one : constraints ≡ other = cc in
        (differ b usable).1 (λ can. never (subst IsUsable one can))),
  )

  pub none_unusable : found ≡ None → IsTrue false ↔ HasUnusable c
  none_unusable is = (
    (λ never. absurd (true≢false (sym never))),
    (λ (other, of_other, never). let same : None ≡ Some other = sym is ∙ (has other).0 of_other in cc),
  )
