-- The way back through levels finds the policies right below any-policy that lead to the last one.
use Rattle.std.proofs.Common.{◌≡◌, ◌∙◌, ◌↔◌, ◌⊎◌, inl, inr, Bool, true, false, List, ◌∷◌, refl, sym, subst}
use Rattle.x509_policy.specs.Values.{Policy, any_policy, is_any}
use Rattle.x509_policy.specs.Leaves.{first_of_way}
use Rattle.x509_policy.specs.Levels.{In, Level, LeadsTo, last_level, Way, IsBack, GoesBack, at_root, one_back}
use Rattle.x509_policy.proofs.Leaves.{way_of_any, way_of_other}
use Rattle.x509_policy.proofs.Ends.{is_any-same}
use Rattle.x509_policy.proofs.Members.{any_is, other_is}
use Rattle.x509_policy.specs.Stands.{AllHang, root, hangs, Hangs}
use Rattle.x509_policy.proofs.GraphEnds.{reached_by, any_way}

abbrev Found : List Level → List Policy → Policy → Type 0
Found levels reached r = (r ≡ any_policy → ⊥) × ((v : Policy) × In v reached × Way levels r v)

found_here : (level : Level) (levels : List Level) → Hangs level (last_level levels) → AllHang levels → (reached above here : List Policy) → IsBack level reached above here → (r : Policy) → In r here → Found (level ∷ levels) reached r
found_here level levels h more reached above here back r is =
    let (other, alive, lead) = (back.first r).0 is in
    let (w, way) = reached_by more any_policy (h.from_above any_policy r lead) in
    let any = (any_way more w any_policy way).1 refl in
    (other, (r, alive, (any_policy, w, way, lead, sym (way_of_any w r (any_is w any)))))

found_above : (level : Level) (levels : List Level) (reached above here : List Policy) → IsBack level reached above here → (r : Policy) → Found levels above r → Found (level ∷ levels) reached r
found_above level levels reached above here back r (other, (u, is, way)) =
    let (v, alive, lead) = (back.up u).0 is in
    (other, (v, alive, (u, r, way, lead, sym (way_of_other r v (other_is r other)))))

split : (level : Level) (levels : List Level) → AllHang levels → (reached above here : List Policy) → IsBack level reached above here → (r v u w : Policy) → (r ≡ any_policy → ⊥) → In v reached → Way levels w u → LeadsTo level u v → r ≡ first_of_way w v
    → (b : Bool) → is_any w ≡ b → In r here ⊎ Found levels above r
split level levels more reached above here back r v u w other alive way lead from true any =
    let on = (any_way more w u way).0 (is_any-same w any) in
    let same : r ≡ v = from ∙ way_of_any w v any in
    inl ((back.first r).1 (other, subst (λ q. In q reached) (sym same) alive, subst (λ q. LeadsTo level any_policy q) (sym same) (subst (λ q. LeadsTo level q v) on lead)))
split level levels more reached above here back r v u w other alive way lead from false no_any =
    let same : r ≡ w = from ∙ way_of_other w v no_any in
    inr (other, (u, (back.up u).1 (v, alive, lead), subst (λ q. Way levels q u) (sym same) way))

pub goes_back : {levels : List Level} {reached found : List Policy} → GoesBack levels reached found → AllHang levels → (r : Policy) → In r found ↔ Found levels reached r
goes_back at_root root r = ((λ h. absurd h), (λ (other, (v, alive, (first, any))). absurd (other first)))
goes_back {levels = level ∷ levels} {reached} (one_back {above} {here} back before all) (hangs h more) r =
    let earlier = goes_back before more r in (
      (λ is. elim ((all r).0 is) [
        | inl now ↦ found_here level levels h more reached above here back r now
        | inr later ↦ found_above level levels reached above here back r (earlier.0 later)
      ]),
      (λ (other, (v, alive, (u, w, way, lead, from))). elim (split level levels more reached above here back r v u w other alive way lead from (is_any w) refl) [
        | inl now ↦ (all r).1 (inl now)
        | inr later ↦ (all r).1 (inr (earlier.1 later))
      ]),
    )
