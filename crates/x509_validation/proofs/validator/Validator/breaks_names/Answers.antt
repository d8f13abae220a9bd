use Rattle.std.proofs.Common.{◌∙◌, inl, inr, refl, sym}
use Rattle.std.proofs.lemmas.Bool.{true≢false}
use Rattle.x509_validation.proofs.validator.Validator.breaks_names.Goals as goal

pub returns-then-branch : goal.returns-then-branch
returns-then-branch g c = λ inputs above before n certificate stands knows. (
  (λ is. inl ((c.in_ok-has_other_names.ensures inputs above before certificate stands knows).0 c.if-branch.true)),
  (λ other. refl),
)

pub returns : goal.returns
returns g c = λ inputs above before n certificate stands knows.
    let names = c.in_ok-has_other_names.ensures inputs above before certificate stands knows in
    let common = c.in_ok-has_other.ensures inputs above before certificate stands knows in (
      (λ is. inr (common.0 is)),
      (λ other. elim other [
        | inl h ↦ absurd (true≢false (sym (names.1 h) ∙ c.if-branch.false))
        | inr h ↦ common.1 h
      ]),
    )
