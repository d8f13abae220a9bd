-- Members make one set, whatever their order; and the encodings of its members rise.
use Rattle.std.proofs.Common.{◌≡◌, List, [], ◌∷◌, refl, sym, ◌∙◌, subst, Bool, false}
use Rattle.std.specs.List.{list_any, AllByRecursion}
use Rattle.std.specs.List.Sorted.{IsStrictlySortedBy, IsPermutation}
use Rattle.std.specs.Ordering.{eq_by_cmp}
use Rattle.std.specs.Cmp.{IsTotalOrder}
use Rattle.std.specs.Prelude.{ℕ, map}
use Rattle.std.specs.declared.cmp.Ordering.{Ordering}
use Rattle.std.specs.declared.cmp.Ordering.TheVariants.{Less, Equal, Greater}
use Rattle.std.proofs.lemmas.Cmp.{tied_itself}
use Rattle.std.proofs.lemmas.List.Sorted.{list_any-IsPermutation}
use Rattle.x509_der.specs.Order.{bytes_cmp, IsDerOrder}
use Rattle.x509_der.proofs.RisingLists.{turned}

module _ {X : Type 0} {R : X → X → Ordering} (o : IsTotalOrder R) (exact : (x y : X) → R x y ≡ Equal → x ≡ y) where
  -- whether a member that ties with q is there
  abbrev there : X → List X → Bool
  there q xs = list_any (eq_by_cmp R q) xs

  below_all : (x : X) (xs : List X) → AllByRecursion (λ y. R x y ≡ Less) xs → there x xs ≡ false
  below_all x [] a = refl
  below_all x (y ∷ ys) a = rw (a.0) (below_all x ys a.1)

  further : (x y : X) (ys : List X) → R x y ≡ Less → AllByRecursion (λ z. R y z ≡ Less) ys → AllByRecursion (λ z. R x z ≡ Less) ys
  further x y [] e a = tt
  further x y (z ∷ zs) e a = (o.trans x y z e a.0, further x y zs e a.1)

  -- what is at the front of neither list is in both tails or in neither
  tails : (x y q : X) (xs ys : List X) → x ≡ y → AllByRecursion (λ z. R x z ≡ Less) xs → AllByRecursion (λ z. R y z ≡ Less) ys → there q (x ∷ xs) ≡ there q (y ∷ ys) → there q xs ≡ there q ys
  tails x y q xs ys e a b h = elim (R q x) as (λ r. R q x ≡ r → there q xs ≡ there q ys) [
    | Equal ↦ λ t. let f : q ≡ x = exact q x t in subst (λ v. there v xs ≡ there v ys) (sym f) (below_all x xs a ∙ sym (subst (λ v. there v ys ≡ false) (sym e) (below_all y ys b)))
    | Less ↦ λ t. let u : R q y ≡ Less = subst (λ v. R q v ≡ Less) e t in let k = rw (t, u) at h in k
    | Greater ↦ λ t. let u : R q y ≡ Greater = subst (λ v. R q v ≡ Greater) e t in let k = rw (t, u) at h in k
  ] refl

  unique : (xs ys : List X) → IsStrictlySortedBy R xs → IsStrictlySortedBy R ys → ((q : X) → there q xs ≡ there q ys) → xs ≡ ys
  unfolding IsStrictlySortedBy
  unique [] [] s t h = refl
  unique [] (y ∷ ys) s t h = absurd (let e = h y in let f = tied_itself o y in cc)
  unique (x ∷ xs) [] s t h = absurd (let e = h x in let f = tied_itself o x in cc)
  unique (x ∷ xs) (y ∷ ys) s t h = elim (R x y) as (λ r. R x y ≡ r → (x ∷ xs) ≡ (y ∷ ys)) [
    | Equal ↦ λ e.
        let f : x ≡ y = exact x y e in
        let rest = unique xs ys s.1 t.1 (λ q. tails x y q xs ys f s.0 t.0 (h q)) in
        cc
    | Less ↦ λ e. absurd (let k = h x in let own = tied_itself o x in let none = below_all x ys (further x y ys e t.0) in let k2 = rw (own, e, none) at k in cc)
    | Greater ↦ λ e. absurd (let k = h y in let own = tied_itself o y in let turn = turned o x y e in let none = below_all y xs (further y x xs turn s.0) in let k2 = rw (own, turn, none) at k in cc)
  ] refl

  -- rising lists of the same members are one
  pub one_set : (xs ys : List X) → IsStrictlySortedBy R xs → IsStrictlySortedBy R ys → IsPermutation xs ys → xs ≡ ys
  one_set xs ys s t p = unique xs ys s t (λ q. list_any-IsPermutation (eq_by_cmp R q) xs ys p)

module _ {X : Type 0} {Has : X → Type 0} {text : X → List ℕ} {order : X → X → Ordering} (o : IsDerOrder Has text order) where
  texts_above : (x : X) (ys : List X) → Has x → AllByRecursion Has ys → AllByRecursion (λ y. order x y ≡ Less) ys → AllByRecursion (λ b. bytes_cmp (text x) b ≡ Less) (map text ys)
  texts_above x [] p q h = tt
  texts_above x (y ∷ ys) p q h = (sym (o.agrees x y p q.0) ∙ h.0, texts_above x ys p q.1 h.1)

  -- the texts of rising members rise
  pub texts_rise : (xs : List X) → AllByRecursion Has xs → IsStrictlySortedBy order xs → IsStrictlySortedBy bytes_cmp (map text xs)
  unfolding IsStrictlySortedBy
  texts_rise [] p s = tt
  texts_rise (x ∷ xs) p s = (texts_above x xs p.0 p.1 s.0, texts_rise xs p.1 s.1)
