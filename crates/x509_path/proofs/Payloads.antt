-- What a look-up of the one value says of what is asked of it.
use Rattle.std.proofs.Common.{◌≡◌, ◌↔◌, ◌≤◌, ℕ, Bool, true, false, not, List, [], Option, Some, None, ap, arith, length, refl, sym, ◌∙◌}
use Rattle.std.proofs.lemmas.Bool.{true≢false}
use Rattle.std.specs.Bool.{IsTrue}

turned : (b : Bool) → not b ≡ true → b ≡ false
turned true e = sym e
turned false e = refl

is_there : {X : Type 0} (xs : List X) (any : Bool) → (any ≡ false → xs ≡ []) → (xs ≡ [] → ⊥) → any ≡ true
is_there xs true none some = refl
is_there xs false none some = absurd (some (none refl))

module _ {T : Type 0} (Has : T → Type 0) (found : Option T) (h : (v : T) → Has v ↔ (found ≡ Some v)) where
  same : (v w : T) → found ≡ Some v → Has w → w ≡ v
  same v w is has = let e : Some w ≡ Some v = sym ((h w).0 has) ∙ is in cc

  pub told : (v : T) → found ≡ Some v → (test : T → Bool) → IsTrue (test v) ↔ ((w : T) × Has w × (test w ≡ true))
  told v is test = ((λ so. (v, (h v).1 is, so)), (λ (w, has, so). rw (same v w is has) at so))

  pub untold : found ≡ None → (test : T → Bool) → IsTrue false ↔ ((w : T) × Has w × (test w ≡ true))
  untold is test = ((λ not_so. absurd (true≢false (sym not_so))), (λ (w, has, so). let e : None ≡ Some w = sym is ∙ (h w).0 has in cc))

  pub limit : (v : T) → found ≡ Some v → (part : T → Option ℕ) → (k : ℕ) → ((w : T) × Has w × (part w ≡ Some k)) ↔ (part v ≡ Some k)
  limit v is part k = ((λ (w, has, at). rw (same v w is has) at at), (λ at. (v, (h v).1 is, at)))

  pub no_limit : found ≡ None → (part : T → Option ℕ) → (k : ℕ) → ((w : T) × Has w × (part w ≡ Some k)) ↔ (None ≡ Some k)
  no_limit is part k = ((λ (w, has, at). let e : None ≡ Some w = sym is ∙ (h w).0 has in cc), (λ not_so. cc))

  pub lacks : {X : Type 0} (xs : List X) → (xs ≡ [] → ⊥) → (v : T) → found ≡ Some v → (test : T → Bool) → IsTrue (not (test v)) ↔ ((xs ≡ [] → ⊥) × ((w : T) → Has w → test w ≡ false))
  lacks xs some v is test = (
    (λ no. (some, λ w has. rw (same v w is has) (turned (test v) no))),
    (λ (more, all). let e = all v ((h v).1 is) in rw e refl),
  )

  pub lacks_none : {X : Type 0} (xs : List X) (any : Bool) → (any ≡ false → xs ≡ []) → (any ≡ true → 1 ≤ length xs) → found ≡ None → (test : T → Bool)
      → IsTrue any ↔ ((xs ≡ [] → ⊥) × ((w : T) → Has w → test w ≡ false))
  lacks_none xs any none some is test = (
    (λ yes. ((λ e. omega (arith, ap length e, some yes)), λ w has. let e : None ≡ Some w = sym is ∙ (h w).0 has in cc)),
    (λ all. is_there xs any none all.0),
  )
