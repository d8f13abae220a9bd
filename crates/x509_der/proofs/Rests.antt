-- What a lender ends as, where the result holds no `&mut`. Assumes `Logic`.
--     rests         a name that is said to end at a value ends so
--     rests_so      one that ends at a value ends at a value of which P holds, where P holds of that one
use Rattle.std.proofs.Common.{◌≡◌, ◌∷◌, [], sym, subst}
use Rattle.std.specs.Prelude.{⊤}
use base.Fml.{GName, fres}
use base.Logic.{ent}
use mathlib.Core.Option.{none}
use seplogic.Ra.Ura.{Ura}
use types.Logic.{Logic, sem}
use types.Kit.{‵, ◌$◌, ◌∵◌, !, qed, done, fpick, fpack}
use denote.RattleType.{RattleType}
use denote.Follow.{follows_by, such_by, follows_so}

module _ {M : Type 1} {𝓤 : Ura M} (𝓛 : Logic 𝓤) (R : RattleType) (γ : GName) (v : R.Denot) (P : R.Denot → Type 0) (holds : P v) where
  pub rests : ent 𝓤 (𝓛.A.res γ (R.coded.code v)) (sem 𝓛 (follows_so R R γ none (λ _ _. ⊤) P))
  unfolding such_by follows_by
  rests = qed 𝓛 (‵ (fres γ (R.coded.code v)) ∷ []) ∵
      fpack ! ((s : (R.Denot → R.Denot) × R.Denot) × ((w : R.Denot) → ⊤) × P s.1) (λ s. follows_by R.Denot R.Denot R.coded.code R.coded.code γ none s.0.0 s.0.1) (((λ w. w), v), (λ w. tt), holds) $ done !

  pub rests_so : ent 𝓤 (sem 𝓛 (follows_so R R γ none (λ _ _. ⊤) (λ n. n ≡ v))) (sem 𝓛 (follows_so R R γ none (λ _ _. ⊤) P))
  unfolding such_by
  rests_so = qed 𝓛 (‵ (follows_so R R γ none (λ _ _. ⊤) (λ n. n ≡ v)) ∷ []) ∵ fpick ! (λ s.
      fpack ! ((s : (R.Denot → R.Denot) × R.Denot) × ((w : R.Denot) → ⊤) × P s.1) (λ s. follows_by R.Denot R.Denot R.coded.code R.coded.code γ none s.0.0 s.0.1) (s.0, s.1, subst P (sym s.2) holds) $ done !)
