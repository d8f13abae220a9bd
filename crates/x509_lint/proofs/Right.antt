-- What is right on its own, or else has what can't be held.
use Rattle.std.proofs.Common.{◌≡◌, ◌∙◌, Bool, true, false, IsTrue, inl, inr, refl, sym, subst}
use Rattle.std.proofs.lemmas.Bool.{true≢false}
use Rattle.std.specs.Prelude.{◌⊎◌, ◌↔◌}

pub right_first : {P : Type 0} (held : Bool) → P → IsTrue true ↔ (P ⊎ IsTrue held)
right_first held p = ((λ is. inl p), (λ either. refl))

pub right_else : {P : Type 0} (found first held : Bool) → (P → IsTrue first) → first ≡ false → found ≡ held → IsTrue found ↔ (P ⊎ IsTrue held)
right_else {P} found first held so not_first same = (
  (λ is. inr (subst IsTrue same is)),
  (λ either. elim either [ inl p ↦ absurd (true≢false (sym (so p) ∙ not_first)) | inr is ↦ subst IsTrue (sym same) is ]),
)
