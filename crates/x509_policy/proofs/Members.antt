-- Members of lists of leaves and policies.
use Rattle.std.proofs.Common.{◌≡◌, ◌∙◌, ◌⊎◌, inl, inr, Bool, true, false, not, ◌&&◌, ◌||◌, cond, List, [], ◌∷◌, ◌++◌, filter, refl, sym, ap, subst}
use Rattle.std.specs.List.{list_any, flat_map}
use Rattle.std.specs.Str.{bytes_eq}
use Rattle.std.proofs.lemmas.Slice.Eq.{bytes_eq-Decides}
use Rattle.x509_policy.specs.Values.{Policy, any_policy, is_any, has}
use Rattle.x509_policy.specs.Tree.{Nodes, none, node, child, has_node, named_children, other_children}
use Rattle.x509_policy.specs.Leaves.{Leaf, first_of_way, leaves}
use Rattle.x509_policy.specs.Levels.{In}
use Rattle.x509_policy.proofs.Ends.{is_any-any, is_any-same, has_one}

-- ---- lists

pub In-left : {X : Type 0} (x : X) (xs ys : List X) → In x xs → In x (xs ++ ys)
In-left x [] ys h = absurd h
In-left x (y ∷ xs) ys (inl e) = inl e
In-left x (y ∷ xs) ys (inr h) = inr (In-left x xs ys h)

pub In-right : {X : Type 0} (x : X) (xs ys : List X) → In x ys → In x (xs ++ ys)
In-right x [] ys h = h
In-right x (y ∷ xs) ys h = inr (In-right x xs ys h)

pub In-cases : {X : Type 0} (x : X) (xs ys : List X) → In x (xs ++ ys) → In x xs ⊎ In x ys
In-cases x [] ys h = inr h
In-cases x (y ∷ xs) ys (inl e) = inl (inl e)
In-cases x (y ∷ xs) ys (inr h) = elim (In-cases x xs ys h) [ inl a ↦ inl (inr a) | inr b ↦ inr b ]

pub In-flat_map : {X Y : Type 0} (f : X → List Y) (y : Y) (xs : List X) → In y (flat_map f xs) → (x : X) × In x xs × In y (f x)
In-flat_map f y [] h = absurd h
In-flat_map f y (x ∷ xs) h = elim (In-cases y (f x) (flat_map f xs) h) [
  | inl a ↦ (x, inl refl, a)
  | inr b ↦ let (z, is, from) = In-flat_map f y xs b in (z, inr is, from)
]

pub flat_map-In : {X Y : Type 0} (f : X → List Y) (y : Y) (x : X) (xs : List X) → In x xs → In y (f x) → In y (flat_map f xs)
flat_map-In f y x [] h a = absurd h
flat_map-In f y x (z ∷ xs) (inl e) a = In-left y (f z) (flat_map f xs) (subst (λ w. In y (f w)) (sym e) a)
flat_map-In f y x (z ∷ xs) (inr h) a = In-right y (f z) (flat_map f xs) (flat_map-In f y x xs h a)

In-cond_cons : {X : Type 0} (b : Bool) (x y : X) (xs : List X) → In y (cond b (x ∷ xs) xs) → ((b ≡ true) × (x ≡ y)) ⊎ In y xs
In-cond_cons true x y xs (inl e) = inl (refl, e)
In-cond_cons true x y xs (inr h) = inr h
In-cond_cons false x y xs h = inr h

cond_cons-head : {X : Type 0} (b : Bool) (x : X) (xs : List X) → b ≡ true → In x (cond b (x ∷ xs) xs)
cond_cons-head true x xs h = inl refl
cond_cons-head false x xs h = cc

cond_cons-tail : {X : Type 0} (b : Bool) (x y : X) (xs : List X) → In y xs → In y (cond b (x ∷ xs) xs)
cond_cons-tail true x y xs h = inr h
cond_cons-tail false x y xs h = h

pub In-filter : {X : Type 0} (test : X → Bool) (x : X) (xs : List X) → In x (filter test xs) → In x xs × (test x ≡ true)
In-filter test x [] h = absurd h
In-filter test x (y ∷ xs) h = elim (In-cond_cons (test y) y x (filter test xs) h) [
  | inl (b, e) ↦ (inl e, subst (λ z. test z ≡ true) e b)
  | inr more ↦ let (is, passes) = In-filter test x xs more in (inr is, passes)
]

pub filter-In : {X : Type 0} (test : X → Bool) (x : X) (xs : List X) → In x xs → test x ≡ true → In x (filter test xs)
filter-In test x [] h t = absurd h
filter-In test x (y ∷ xs) (inl e) t = subst (λ z. In z (filter test (y ∷ xs))) e (cond_cons-head (test y) y (filter test xs) (subst (λ z. test z ≡ true) (sym e) t))
filter-In test x (y ∷ xs) (inr h) t = cond_cons-tail (test y) y x (filter test xs) (filter-In test x xs h t)

pub or_cases : (a b : Bool) → (a || b) ≡ true → (a ≡ true) ⊎ (b ≡ true)
or_cases true b h = inl refl
or_cases false b h = inr h

pub or_left : (a b : Bool) → a ≡ true → (a || b) ≡ true
or_left true b h = refl
or_left false b h = cc

pub or_right : (a b : Bool) → b ≡ true → (a || b) ≡ true
or_right true b h = refl
or_right false b h = h

pub any_In : {X : Type 0} (test : X → Bool) (xs : List X) → list_any test xs ≡ true → (x : X) × In x xs × (test x ≡ true)
any_In test [] h = cc
any_In test (x ∷ xs) h = elim (or_cases (test x) (list_any test xs) h) [
  | inl a ↦ (x, inl refl, a)
  | inr b ↦ let (y, is, t) = any_In test xs b in (y, inr is, t)
]

pub In_any : {X : Type 0} (test : X → Bool) (x : X) (xs : List X) → In x xs → test x ≡ true → list_any test xs ≡ true
In_any test x [] h t = absurd h
In_any test x (y ∷ xs) (inl e) t = or_left (test y) (list_any test xs) (subst (λ z. test z ≡ true) (sym e) t)
In_any test x (y ∷ xs) (inr h) t = or_right (test y) (list_any test xs) (In_any test x xs h t)

-- ---- policies

pub has-In : (p : Policy) (xs : List Policy) → has xs p ≡ true → In p xs
unfolding has
has-In p xs h = let (q, is, same) = any_In (λ q. bytes_eq q p) xs h in subst (λ z. In z xs) ((bytes_eq-Decides q p).0 same) is

pub In-has : (p : Policy) (xs : List Policy) → In p xs → has xs p ≡ true
unfolding has
In-has p xs h = In_any (λ q. bytes_eq q p) p xs h ((bytes_eq-Decides p p).1 refl)

pub is_false : (b : Bool) → (b ≡ true → ⊥) → b ≡ false
is_false true h = absurd (h refl)
is_false false h = refl

pub not_both : (b : Bool) → b ≡ true → b ≡ false → ⊥
not_both b h k = cc

pub any_is : (p : Policy) → p ≡ any_policy → is_any p ≡ true
any_is p e = ap is_any e ∙ is_any-any

pub other_is : (p : Policy) → (p ≡ any_policy → ⊥) → is_any p ≡ false
other_is p h = is_false (is_any p) (λ is. h (is_any-same p is))

pub is_other : (p : Policy) → is_any p ≡ false → p ≡ any_policy → ⊥
is_other p h e = not_both (is_any p) (any_is p e) h

-- ---- children of one node, 6.1.3 (d)

abbrev pub made : Policy → Policy → Leaf
made f q = record { first = first_of_way f q; valid = q; expected = q ∷ [] }

module _ (matched : Policy → Bool) (v : Policy) (e : List Policy) (f : Policy) where
  abbrev pub test : Policy → Bool
  test q = not (is_any q) && (has e q || (not (matched q) && is_any v))

  leaves-choice : (b : Bool) (q : Policy) (s : Nodes) → leaves 0 f (cond b (child q s) s) ≡ cond b (made f q ∷ leaves 0 f s) (leaves 0 f s)
  leaves-choice true q s = refl
  leaves-choice false q s = refl

  pub In-named : (l : Leaf) (ps : List Policy) → In l (leaves 0 f (named_children matched v e ps)) → (q : Policy) × (made f q ≡ l) × In q ps × (test q ≡ true)
  In-named l [] h = absurd h
  In-named l (p ∷ ps) h =
      let rest = named_children matched v e ps in
      elim (In-cond_cons (test p) (made f p) l (leaves 0 f rest) (subst (λ ls. In l ls) (leaves-choice (test p) p rest) h)) [
        | inl (b, same) ↦ (p, same, inl refl, b)
        | inr more ↦ let (q, same, is, t) = In-named l ps more in (q, same, inr is, t)
      ]

  pub named-In : (q : Policy) (ps : List Policy) → In q ps → test q ≡ true → In (made f q) (leaves 0 f (named_children matched v e ps))
  named-In q [] h t = absurd h
  named-In q (p ∷ ps) (inl same) t =
      let rest = named_children matched v e ps in
      subst (λ ls. In (made f q) ls) (sym (leaves-choice (test p) p rest)) (subst (λ z. In (made f z) (cond (test p) (made f p ∷ leaves 0 f rest) (leaves 0 f rest))) same (cond_cons-head (test p) (made f p) (leaves 0 f rest) (subst (λ z. test z ≡ true) (sym same) t)))
  named-In q (p ∷ ps) (inr h) t =
      let rest = named_children matched v e ps in
      subst (λ ls. In (made f q) ls) (sym (leaves-choice (test p) p rest)) (cond_cons-tail (test p) (made f p) (made f q) (leaves 0 f rest) (named-In q ps h t))

module _ (f : Policy) where
  -- all are made so
  abbrev pub AreMade : Nodes → Type 0
  AreMade s = (l : Leaf) → In l (leaves 0 f s) → made f l.valid ≡ l

  leaves-unless : (b : Bool) (q : Policy) (s : Nodes) → leaves 0 f (cond b s (child q s)) ≡ cond (not b) (made f q ∷ leaves 0 f s) (leaves 0 f s)
  leaves-unless true q s = refl
  leaves-unless false q s = refl

  pub In-others : (l : Leaf) (named : Nodes) (e : List Policy) → In l (leaves 0 f (other_children e named)) → ((q : Policy) × (made f q ≡ l) × In q e) ⊎ In l (leaves 0 f named)
  In-others l named [] h = inr h
  In-others l named (p ∷ e) h =
      let rest = other_children e named in
      elim (In-cond_cons (not (has_node 0 p rest)) (made f p) l (leaves 0 f rest) (subst (λ ls. In l ls) (leaves-unless (has_node 0 p rest) p rest) h)) [
        | inl (b, same) ↦ inl (p, same, inl refl)
        | inr more ↦ elim (In-others l named e more) [ inl (q, same, is) ↦ inl (q, same, inr is) | inr old ↦ inr old ]
      ]

  pub old-In : (l : Leaf) (named : Nodes) (e : List Policy) → In l (leaves 0 f named) → In l (leaves 0 f (other_children e named))
  old-In l named [] h = h
  old-In l named (p ∷ e) h =
      let rest = other_children e named in
      subst (λ ls. In l ls) (sym (leaves-unless (has_node 0 p rest) p rest)) (cond_cons-tail (not (has_node 0 p rest)) (made f p) l (leaves 0 f rest) (old-In l named e h))

  others-made : (named : Nodes) (e : List Policy) → AreMade named → AreMade (other_children e named)
  others-made named e all l h = elim (In-others l named e h) [
    | inl (q, same, is) ↦ subst (λ m. made f m.valid ≡ m) same refl
    | inr old ↦ all l old
  ]

  found : (p : Policy) (s : Nodes) → has_node 0 p s ≡ true → (l : Leaf) × In l (leaves 0 f s) × (l.valid ≡ p)
  found p none h = cc
  found p (node v x c s) h = elim (or_cases (has (v ∷ []) p) (has_node 0 p s) h) [
    | inl a ↦ (record { first = first_of_way f v; valid = v; expected = x }, inl refl, has_one v p a)
    | inr b ↦ let (l, is, same) = found p s b in (l, inr is, same)
  ]

  new_one : (p : Policy) (s : Nodes) (b : Bool) → b ≡ has_node 0 p s → AreMade s → In (made f p) (leaves 0 f (cond b s (child p s)))
  new_one p s true h all = let (l, is, same) = found p s (sym h) in subst (λ z. In z (leaves 0 f s)) (sym (all l is) ∙ ap (made f) same) is
  new_one p s false h all = inl refl

  pub others-In : (q : Policy) (named : Nodes) (e : List Policy) → AreMade named → In q e → In (made f q) (leaves 0 f (other_children e named))
  others-In q named [] all h = absurd h
  others-In q named (p ∷ e) all (inl same) =
      let rest = other_children e named in
      subst (λ z. In (made f z) (leaves 0 f (cond (has_node 0 p rest) rest (child p rest)))) same (new_one p rest (has_node 0 p rest) refl (others-made named e all))
  others-In q named (p ∷ e) all (inr h) =
      let rest = other_children e named in
      subst (λ ls. In (made f q) ls) (sym (leaves-unless (has_node 0 p rest) p rest)) (cond_cons-tail (not (has_node 0 p rest)) (made f p) (made f q) (leaves 0 f rest) (others-In q named e all h))
