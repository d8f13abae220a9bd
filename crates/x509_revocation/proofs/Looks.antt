-- Lists that are gone over member by member.
use Rattle.std.proofs.Common.{◌≡◌, List, [], ◌∷◌, sym, subst}
use Rattle.std.proofs.lemmas.List.Elements.{All-nil, All-cons, All-head, All-tail}
use Rattle.std.specs.List.{All}

-- ---- what holds of all

module _ {X : Type 0} (P : X → Type 0) where
  -- what is left stands for the whole
  abbrev pub StandsFor : List X → List X → Type 0
  StandsFor left whole = (All P left → All P whole) × (All P whole → All P left)

  pub passes : (x : X) (left rest whole : List X) → left ≡ x ∷ rest → P x → StandsFor left whole → StandsFor rest whole
  passes x left rest whole is holds stands = (
    (λ all. stands.0 (subst (All P) (sym is) (All-cons P x rest holds all))),
    (λ all. All-tail P x rest (subst (All P) is (stands.1 all))),
  )

  pub breaks : (x : X) (left rest whole : List X) → left ≡ x ∷ rest → (P x → ⊥) → StandsFor left whole → All P whole → ⊥
  breaks x left rest whole is not_so stands all = not_so (All-head P x rest (subst (All P) is (stands.1 all)))

  pub passed : (left whole : List X) → left ≡ [] → StandsFor left whole → All P whole
  passed left whole none stands = stands.0 (subst (All P) (sym none) (All-nil P))

  pub whole_for : (left whole : List X) → left ≡ whole → StandsFor left whole
  whole_for left whole is = (subst (All P) is, subst (All P) (sym is))
