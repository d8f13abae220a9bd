-- Keys of attributes say where one stands that can't be compared.
use Rattle.std.proofs.Common.{◌≡◌, ◌==◌, ◌⊎◌, inl, inr, ◌↔◌, ℕ, zero, suc, ◌+◌, ◌/◌, ◌%◌, ◌<◌, Bool, true, false, ◌||◌, List, [], ◌∷◌, ◌++◌, map, take, length, get_or, refl, sym, ◌∙◌, ap, subst, arith, append_assoc, if◌then◌else◌}
use Rattle.std.proofs.lemmas.Bool.{cases_Bool, or_cases}
use Rattle.std.proofs.lemmas.Bool.Decides.{eqb_tells, nat_tests}
use Rattle.std.proofs.lemmas.List.{append-nil, length-take-le, take_more}
use Rattle.std.proofs.lemmas.List.Folds.{Any-from_list_any, list_any-append, list_any-from_Any}
use Rattle.std.specs.List.{Any, flat_map, list_any}
use Rattle.x509_ext.specs.declared.pkix.general_subtree.GeneralSubtree.{GeneralSubtree}
use Rattle.x509_ext.specs.declared.pkix.name.general_name.GeneralName.{GeneralName}
use Rattle.x509_ext.specs.declared.pkix.name.general_name.GeneralName.TheVariants.{DirectoryName}
use Rattle.x509_match.specs.Matching.{is_compared}
use Rattle.x509_name.specs.declared.attr.type_and_value.AttributeTypeAndValue.{AttributeTypeAndValue}
use Rattle.x509_constraints.specs.Constraints.{AreUnclear, AreUnclearSomewhere, IsUnclear}
use Rattle.x509_constraints.specs.Keys.{stop, symbols}
use Rattle.x509_constraints.specs.Marks.{base_marks, mark, mark_at, marks_against, marks_in, marks_of, marks_of_base, name_marks, place_symbols}
use Rattle.x509_constraints.specs.Prefixes.{begins, has_prefix}
use Rattle.x509_constraints.specs.Stacks.{in_some}
use Rattle.x509_constraints.proofs.Anys.{Any-by, has_prefix-flat_map, one_of_all}
use Rattle.x509_constraints.proofs.KeyLaws.{has_prefix-one, has_prefix-two, stops_meet, stops_same}

-- ---- one mark and another

first_and_rest : (x p : ℕ) (xs ps : List ℕ) → begins (x ∷ xs) (p ∷ ps) ≡ true → (x ≡ p) × (begins xs ps ≡ true)
first_and_rest x p xs ps h = grind (arith, nat_tests)

begins_behind : (front xs ys : List ℕ) → begins (front ++ xs) (front ++ ys) ≡ begins xs ys
begins_behind [] xs ys = refl
begins_behind (f ∷ front) xs ys = grind (arith, nat_tests, begins_behind front xs ys)

same_place : (i j : ℕ) (xs ys : List ℕ) → begins (place_symbols i ++ xs) (place_symbols j ++ ys) ≡ true → i ≡ j
same_place i j xs ys h =
    let a = first_and_rest (i / 65536 / 65536 / 65536) (j / 65536 / 65536 / 65536)
    (((i / 65536 / 65536) % 65536) ∷ ((i / 65536) % 65536) ∷ (i % 65536) ∷ xs) (((j / 65536 / 65536) % 65536) ∷ ((j / 65536) % 65536) ∷ (j % 65536) ∷ ys) h in
    let b = first_and_rest ((i / 65536 / 65536) % 65536) ((j / 65536 / 65536) % 65536)
    (((i / 65536) % 65536) ∷ (i % 65536) ∷ xs) (((j / 65536) % 65536) ∷ (j % 65536) ∷ ys) a.1 in
    let c = first_and_rest ((i / 65536) % 65536) ((j / 65536) % 65536) ((i % 65536) ∷ xs) ((j % 65536) ∷ ys) b.1 in
    let d = first_and_rest (i % 65536) (j % 65536) xs ys c.1 in
    omega (arith, a.0, b.0, c.0, d.0)

other_place : (i j : ℕ) (c d : Bool) (x y : List ℕ) → (i ≡ j → ⊥) → begins (mark i c x) (mark j d y) ≡ false
other_place i j c d x y apart = elim (cases_Bool (begins (mark i c x) (mark j d y))) [
  | inl h ↦ absurd (apart (same_place i j ((if c then 1 else 0) ∷ (symbols x ++ stop ∷ [])) ((if d then 1 else 0) ∷ (symbols y ++ stop ∷ [])) h))
  | inr h ↦ h
]

oid_answers : (x y : List ℕ) → (begins (symbols x ++ stop ∷ []) (symbols y ++ stop ∷ []) ≡ true) ↔ (x ≡ y)
oid_answers x y = (
  (λ h. (stops_meet x y [] [] h).0),
  (λ same. ap (λ l. begins (symbols l ++ stop ∷ []) (symbols y ++ stop ∷ [])) same ∙ stops_same y [] [] refl),
)

-- at one place
here_answers : (k : ℕ) (c : Bool) (x y : List ℕ) → (begins (mark k c x) (mark k c y) ≡ true) ↔ (x ≡ y)
here_answers k c x y =
    let behind = begins_behind (place_symbols k ++ (if c then 1 else 0) ∷ []) (symbols x ++ stop ∷ []) (symbols y ++ stop ∷ []) in
    ((λ h. (oid_answers x y).0 (sym behind ∙ h)), (λ same. behind ∙ (oid_answers x y).1 same))

other_flag : (k : ℕ) (c d : Bool) (x y : List ℕ) → c ≡ true → d ≡ false → begins (mark k c x) (mark k d y) ≡ false
other_flag k true false x y h i = begins_behind (place_symbols k) (1 ∷ (symbols x ++ stop ∷ [])) (0 ∷ (symbols y ++ stop ∷ []))
other_flag k true true x y h i = absurd (cc)
other_flag k false d x y h i = absurd (cc)

other_flag_back : (k : ℕ) (c d : Bool) (x y : List ℕ) → c ≡ false → d ≡ true → begins (mark k c x) (mark k d y) ≡ false
other_flag_back k false true x y h i = begins_behind (place_symbols k) (0 ∷ (symbols x ++ stop ∷ [])) (1 ∷ (symbols y ++ stop ∷ []))
other_flag_back k false false x y h i = absurd (cc)
other_flag_back k true d x y h i = absurd (cc)

-- ---- one attribute and another

never : (b : Bool) → b ≡ false → (b ≡ true) ↔ ⊥
never b none = ((λ h. let e : false ≡ true = sym none ∙ h in absurd (cc)), (λ nothing. absurd nothing))

pair_by : (k : ℕ) (a b : AttributeTypeAndValue) (s t : Bool) → is_compared a ≡ s → is_compared b ≡ t →
    (has_prefix (mark k false b.oid ∷ (if t then [] else mark k true b.oid ∷ [])) (mark k s a.oid) ≡ true)
    ↔ ((a.oid ≡ b.oid) × ((s ≡ false) ⊎ (t ≡ false)))
pair_by k a b true true is are =
    let one = has_prefix-one (mark k true a.oid) (mark k false b.oid) ⊥ (never _ (other_flag k true false a.oid b.oid refl refl)) in
    ((λ h. absurd (one.0 h)), (λ both. absurd (nothing both.1)))
  where
    nothing : (true ≡ false) ⊎ (true ≡ false) → ⊥
    nothing (inl h) = cc
    nothing (inr h) = cc
pair_by k a b true false is are =
    let two = has_prefix-two (mark k true a.oid) (mark k false b.oid) (mark k true b.oid) ⊥ (a.oid ≡ b.oid)
    (never _ (other_flag k true false a.oid b.oid refl refl)) (here_answers k true a.oid b.oid) in
    ((λ h. (forth (two.0 h), inr refl)), (λ both. two.1 (inr both.0)))
  where
    forth : ⊥ ⊎ (a.oid ≡ b.oid) → a.oid ≡ b.oid
    forth (inl nothing) = absurd nothing
    forth (inr same) = same
pair_by k a b false true is are =
    let one = has_prefix-one (mark k false a.oid) (mark k false b.oid) (a.oid ≡ b.oid) (here_answers k false a.oid b.oid) in
    ((λ h. (one.0 h, inl refl)), (λ both. one.1 both.0))
pair_by k a b false false is are =
    let two = has_prefix-two (mark k false a.oid) (mark k false b.oid) (mark k true b.oid) (a.oid ≡ b.oid) ⊥
    (here_answers k false a.oid b.oid) (never _ (other_flag_back k false true a.oid b.oid refl refl)) in
    ((λ h. (forth (two.0 h), inl refl)), (λ both. two.1 (inl both.0)))
  where
    forth : (a.oid ≡ b.oid) ⊎ ⊥ → a.oid ≡ b.oid
    forth (inl same) = same
    forth (inr nothing) = absurd nothing

pair_answers : (k : ℕ) (a b : AttributeTypeAndValue) → (has_prefix (marks_against k b) (mark_at k a) ≡ true) ↔ AreUnclear a b
pair_answers k a b = pair_by k a b (is_compared a) (is_compared b) refl refl

-- ---- an attribute at one place, and those of a subtree at others

apart_one : (i k : ℕ) (c : Bool) (x : List ℕ) (b : AttributeTypeAndValue) → (i ≡ k → ⊥) → has_prefix (marks_against k b) (mark i c x) ≡ false
apart_one i k c x b apart = by_test (is_compared b)
  where
    by_test : (t : Bool) → has_prefix (mark k false b.oid ∷ (if t then [] else mark k true b.oid ∷ [])) (mark i c x) ≡ false
    by_test true = rw (other_place i k c false x b.oid apart) refl
    by_test false = rw (other_place i k c false x b.oid apart, other_place i k c true x b.oid apart) refl

apart_rdn : (i k : ℕ) (c : Bool) (x : List ℕ) (rdn : List AttributeTypeAndValue) → (i ≡ k → ⊥) →
    has_prefix (flat_map (λ b. marks_against k b) rdn) (mark i c x) ≡ false
apart_rdn i k c x [] apart = refl
apart_rdn i k c x (b ∷ rdn) apart =
    list_any-append (λ p. begins (mark i c x) p) (marks_against k b) (flat_map (λ b. marks_against k b) rdn)
    ∙ (ap (λ t. t || has_prefix (flat_map (λ b. marks_against k b) rdn) (mark i c x)) (apart_one i k c x b apart) ∙ apart_rdn i k c x rdn apart)

before_base : (i k : ℕ) (c : Bool) (x : List ℕ) (base : List (List AttributeTypeAndValue)) → i < k → has_prefix (base_marks k base) (mark i c x) ≡ false
before_base i k c x [] h = refl
before_base i k c x (y ∷ ys) h =
    list_any-append (λ p. begins (mark i c x) p) (flat_map (λ b. marks_against k b) y) (base_marks (k + 1) ys)
    ∙ (ap (λ t. t || has_prefix (base_marks (k + 1) ys) (mark i c x)) (apart_rdn i k c x y (λ same. absurd (omega (arith, same, h))))
    ∙ before_base i (k + 1) c x ys (omega (arith, h)))

or_none : (b : Bool) → (b || false) ≡ b
or_none true = refl
or_none false = refl

at_base : (k : ℕ) (c : Bool) (x : List ℕ) (y : List AttributeTypeAndValue) (ys : List (List AttributeTypeAndValue)) →
    has_prefix (base_marks k (y ∷ ys)) (mark k c x) ≡ has_prefix (flat_map (λ b. marks_against k b) y) (mark k c x)
at_base k c x y ys =
    list_any-append (λ p. begins (mark k c x) p) (flat_map (λ b. marks_against k b) y) (base_marks (k + 1) ys)
    ∙ (ap (λ t. has_prefix (flat_map (λ b. marks_against k b) y) (mark k c x) || t) (before_base k (k + 1) c x ys (omega arith))
    ∙ or_none (has_prefix (flat_map (λ b. marks_against k b) y) (mark k c x)))

behind_base : (j k : ℕ) (c : Bool) (x : List ℕ) (y : List AttributeTypeAndValue) (ys : List (List AttributeTypeAndValue)) → k < j →
    has_prefix (base_marks k (y ∷ ys)) (mark j c x) ≡ has_prefix (base_marks (k + 1) ys) (mark j c x)
behind_base j k c x y ys h =
    list_any-append (λ p. begins (mark j c x) p) (flat_map (λ b. marks_against k b) y) (base_marks (k + 1) ys)
    ∙ ap (λ t. t || has_prefix (base_marks (k + 1) ys) (mark j c x)) (apart_rdn j k c x y (λ same. absurd (omega (arith, same, h))))

-- ---- those of a name

pub any_alike : {X : Type 0} (p q : X → Bool) (xs : List X) → ((x : X) → p x ≡ q x) → list_any p xs ≡ list_any q xs
any_alike p q [] same = refl
any_alike p q (x ∷ xs) same = ap (λ t. t || list_any p xs) (same x) ∙ ap (λ t. q x || t) (any_alike p q xs same)

pub any_map : {X Y : Type 0} (p : Y → Bool) (f : X → Y) (xs : List X) → list_any p (map f xs) ≡ list_any (λ x. p (f x)) xs
any_map p f [] = refl
any_map p f (x ∷ xs) = ap (λ t. p (f x) || t) (any_map p f xs)

any_none : {X : Type 0} (xs : List X) → list_any (λ x. false) xs ≡ false
any_none [] = refl
any_none (x ∷ xs) = any_none xs

any_or : {X : Type 0} (p q : X → Bool) (xs : List X) → list_any (λ x. p x || q x) xs ≡ (list_any p xs || list_any q xs)
any_or p q [] = refl
any_or p q (x ∷ xs) = ap (λ t. (p x || q x) || t) (any_or p q xs) ∙ mixed (p x) (q x) (list_any p xs) (list_any q xs)
  where
    mixed : (a b c d : Bool) → ((a || b) || (c || d)) ≡ ((a || c) || (b || d))
    mixed true b c d = refl
    mixed false true true d = refl
    mixed false true false d = refl
    mixed false false c d = refl

pub any_swap : {X Y : Type 0} (f : X → Y → Bool) (xs : List X) (ys : List Y) →
    list_any (λ x. list_any (λ y. f x y) ys) xs ≡ list_any (λ y. list_any (λ x. f x y) xs) ys
any_swap f xs [] = any_none xs
any_swap f xs (y ∷ ys) = any_or (λ x. f x y) (λ x. list_any (λ y. f x y) ys) xs
    ∙ ap (λ t. list_any (λ x. f x y) xs || t) (any_swap f xs ys)

later_marks : (j k : ℕ) (y : List AttributeTypeAndValue) (ys xs : List (List AttributeTypeAndValue)) → k < j →
    list_any (has_prefix (base_marks k (y ∷ ys))) (name_marks j xs) ≡ list_any (has_prefix (base_marks (k + 1) ys)) (name_marks j xs)
later_marks j k y ys [] h = refl
later_marks j k y ys (x ∷ xs) h =
    list_any-append (has_prefix (base_marks k (y ∷ ys))) (map (λ a. mark_at j a) x) (name_marks (j + 1) xs)
    ∙ (ap (λ t. t || list_any (has_prefix (base_marks k (y ∷ ys))) (name_marks (j + 1) xs)) first
    ∙ (ap (λ t. list_any (has_prefix (base_marks (k + 1) ys)) (map (λ a. mark_at j a) x) || t) (later_marks (j + 1) k y ys xs (omega (arith, h)))
    ∙ sym (list_any-append (has_prefix (base_marks (k + 1) ys)) (map (λ a. mark_at j a) x) (name_marks (j + 1) xs))))
  where
    first : list_any (has_prefix (base_marks k (y ∷ ys))) (map (λ a. mark_at j a) x) ≡ list_any (has_prefix (base_marks (k + 1) ys)) (map (λ a. mark_at j a) x)
    first = any_map (has_prefix (base_marks k (y ∷ ys))) (λ a. mark_at j a) x
        ∙ (any_alike _ _ x (λ a. behind_base j k (is_compared a) a.oid y ys h) ∙ sym (any_map (has_prefix (base_marks (k + 1) ys)) (λ a. mark_at j a) x))

none_in_base : (marks : List (List ℕ)) → list_any (has_prefix []) marks ≡ false
none_in_base marks = any_none marks

rdn_answers : (k : ℕ) (x y : List AttributeTypeAndValue) →
    (list_any (λ a. has_prefix (flat_map (λ b. marks_against k b) y) (mark_at k a)) x ≡ true) ↔ Any (λ a. Any (λ b. AreUnclear a b) y) x
rdn_answers k x y = (
  (λ h. Any-by (λ a. has_prefix (flat_map (λ b. marks_against k b) y) (mark_at k a) ≡ true) (λ a. Any (λ b. AreUnclear a b) y) (λ a. (one a).0) x
      (Any-from_list_any (λ a. has_prefix (flat_map (λ b. marks_against k b) y) (mark_at k a)) x h)),
  (λ any. list_any-from_Any (λ a. has_prefix (flat_map (λ b. marks_against k b) y) (mark_at k a)) x
      (Any-by (λ a. Any (λ b. AreUnclear a b) y) (λ a. has_prefix (flat_map (λ b. marks_against k b) y) (mark_at k a) ≡ true) (λ a. (one a).1) x any)),
)
  where
    one : (a : AttributeTypeAndValue) → (has_prefix (flat_map (λ b. marks_against k b) y) (mark_at k a) ≡ true) ↔ Any (λ b. AreUnclear a b) y
    one a = one_of_all (λ b. marks_against k b) (mark_at k a) (λ b. AreUnclear a b) (λ b. pair_answers k a b) y

or_answers : (a b : Bool) (P Q : Type 0) → (a ≡ true) ↔ P → (b ≡ true) ↔ Q → ((a || b) ≡ true) ↔ (P ⊎ Q)
or_answers a b P Q p q = ((λ h. forth (or_cases a b h)), back)
  where
    forth : (a ≡ true) ⊎ (b ≡ true) → P ⊎ Q
    forth (inl h) = inl (p.0 h)
    forth (inr h) = inr (q.0 h)

    left : (s t : Bool) → s ≡ true → (s || t) ≡ true
    left true t h = refl
    left false t h = absurd (cc)

    right : (s t : Bool) → t ≡ true → (s || t) ≡ true
    right true t h = refl
    right false t h = h

    back : P ⊎ Q → (a || b) ≡ true
    back (inl h) = left a b (p.1 h)
    back (inr h) = right a b (q.1 h)

pub somewhere_answers : (k : ℕ) (name base : List (List AttributeTypeAndValue)) →
    (list_any (has_prefix (base_marks k base)) (name_marks k name) ≡ true) ↔ AreUnclearSomewhere name base
somewhere_answers k [] [] = ((λ h. absurd (cc)), (λ nothing. absurd nothing))
somewhere_answers k [] (y ∷ ys) = ((λ h. absurd (cc)), (λ nothing. absurd nothing))
somewhere_answers k (x ∷ xs) [] = never _ (none_in_base (name_marks k (x ∷ xs)))
somewhere_answers k (x ∷ xs) (y ∷ ys) =
    let B : Bool → Type 0 = λ t. (t ≡ true) ↔ (Any (λ a. Any (λ b. AreUnclear a b) y) x ⊎ AreUnclearSomewhere xs ys) in
    subst B (sym whole) (or_answers _ _ _ _ (rdn_answers k x y) (somewhere_answers (k + 1) xs ys))
  where
    first : list_any (has_prefix (base_marks k (y ∷ ys))) (map (λ a. mark_at k a) x)
        ≡ list_any (λ a. has_prefix (flat_map (λ b. marks_against k b) y) (mark_at k a)) x
    first = any_map (has_prefix (base_marks k (y ∷ ys))) (λ a. mark_at k a) x ∙ any_alike _ _ x (λ a. at_base k (is_compared a) a.oid y ys)

    whole : list_any (has_prefix (base_marks k (y ∷ ys))) (name_marks k (x ∷ xs))
        ≡ (list_any (λ a. has_prefix (flat_map (λ b. marks_against k b) y) (mark_at k a)) x
        || list_any (has_prefix (base_marks (k + 1) ys)) (name_marks (k + 1) xs))
    whole = list_any-append (has_prefix (base_marks k (y ∷ ys))) (map (λ a. mark_at k a) x) (name_marks (k + 1) xs)
        ∙ (ap (λ t. t || list_any (has_prefix (base_marks k (y ∷ ys))) (name_marks (k + 1) xs)) first
        ∙ ap (λ t. list_any (λ a. has_prefix (flat_map (λ b. marks_against k b) y) (mark_at k a)) x || t) (later_marks (k + 1) k y ys xs (omega arith)))

-- ---- a name and the subtrees of a set

no_marks : (marks : List (List ℕ)) (P : Type 0) → (P → ⊥) → (list_any (has_prefix []) marks ≡ true) ↔ P
no_marks marks P nothing = ((λ h. absurd ((never _ (none_in_base marks)).0 h)), (λ p. absurd (nothing p)))

pub unclear_answers : (name base : GeneralName) → (list_any (has_prefix (marks_of_base base)) (marks_in name) ≡ true) ↔ IsUnclear name base
unclear_answers (DirectoryName n) (DirectoryName b) = somewhere_answers 0 n b
unclear_answers (DirectoryName n) _ = no_marks (name_marks 0 n) ⊥ (λ nothing. nothing)
unclear_answers _ _ = ((λ h. absurd (cc)), (λ nothing. absurd nothing))

pub marked_answers : (name : GeneralName) (subtrees : List GeneralSubtree) →
    (list_any (λ key. has_prefix (marks_of subtrees) key) (marks_in name) ≡ true) ↔ Any (λ s. IsUnclear name s.base) subtrees
marked_answers name subtrees = (
  (λ h. Any-by (λ s. list_any (has_prefix (marks_of_base s.base)) (marks_in name) ≡ true) (λ s. IsUnclear name s.base)
      (λ s. (unclear_answers name s.base).0) subtrees
      (Any-from_list_any (λ s. list_any (has_prefix (marks_of_base s.base)) (marks_in name)) subtrees (sym turned_round ∙ h))),
  (λ any. turned_round ∙ list_any-from_Any (λ s. list_any (has_prefix (marks_of_base s.base)) (marks_in name)) subtrees
      (Any-by (λ s. IsUnclear name s.base) (λ s. list_any (has_prefix (marks_of_base s.base)) (marks_in name) ≡ true)
      (λ s. (unclear_answers name s.base).1) subtrees any)),
)
  where
    turned_round : list_any (λ key. has_prefix (marks_of subtrees) key) (marks_in name)
        ≡ list_any (λ s. list_any (has_prefix (marks_of_base s.base)) (marks_in name)) subtrees
    turned_round = any_alike _ _ (marks_in name) (λ key. has_prefix-flat_map (λ s. marks_of_base s.base) key subtrees)
        ∙ any_swap (λ key s. has_prefix (marks_of_base s.base) key) (marks_in name) subtrees

-- ---- one RDN after the other, as loops ask and gather them

first_of : (a b : Bool) → a ≡ true → (a || b) ≡ true
first_of true b h = refl
first_of false b h = absurd (cc)

second_of : (a b : Bool) → b ≡ true → (a || b) ≡ true
second_of true b h = refl
second_of false b h = h

name_marks_push : (xs : List (List AttributeTypeAndValue)) (k n : ℕ) (x : List AttributeTypeAndValue) → n ≡ k + length xs →
    name_marks k (xs ++ x ∷ []) ≡ name_marks k xs ++ map (λ a. mark_at n a) x
name_marks_push [] k n x is = append-nil (map (λ a. mark_at k a) x) ∙ ap (λ m. map (λ a. mark_at m a) x) (let e : k ≡ n = omega (arith, is) in e)
name_marks_push (y ∷ ys) k n x is =
    ap (λ l. map (λ a. mark_at k a) y ++ l) (name_marks_push ys (k + 1) n x (omega (arith, is)))
    ∙ sym (append_assoc (map (λ a. mark_at k a) y) (name_marks (k + 1) ys) (map (λ a. mark_at n a) x))

base_marks_push : (xs : List (List AttributeTypeAndValue)) (k n : ℕ) (x : List AttributeTypeAndValue) → n ≡ k + length xs →
    base_marks k (xs ++ x ∷ []) ≡ base_marks k xs ++ flat_map (λ b. marks_against n b) x
base_marks_push [] k n x is =
    append-nil (flat_map (λ b. marks_against k b) x) ∙ ap (λ m. flat_map (λ b. marks_against m b) x) (let e : k ≡ n = omega (arith, is) in e)
base_marks_push (y ∷ ys) k n x is =
    ap (λ l. flat_map (λ b. marks_against k b) y ++ l) (base_marks_push ys (k + 1) n x (omega (arith, is)))
    ∙ sym (append_assoc (flat_map (λ b. marks_against k b) y) (base_marks (k + 1) ys) (flat_map (λ b. marks_against n b) x))

one_more : (xs : List (List AttributeTypeAndValue)) (i : ℕ) (x : List AttributeTypeAndValue) → i < length xs → x ≡ get_or xs i x →
    take (i + 1) xs ≡ take i xs ++ x ∷ []
one_more xs i x inside at = take_more xs i x inside ∙ ap (λ z. take i xs ++ z ∷ []) (sym at)

pub base_more : (xs : List (List AttributeTypeAndValue)) (i : ℕ) (x : List AttributeTypeAndValue) (start so more : List (List ℕ)) → i < length xs →
    x ≡ get_or xs i x → so ≡ start ++ base_marks 0 (take i xs) → more ≡ so ++ flat_map (λ b. marks_against i b) x →
    more ≡ start ++ base_marks 0 (take (i + 1) xs)
base_more xs i x start so more inside at so_far is =
    let count : length (take i xs) ≡ i = length-take-le i xs (omega (arith, inside)) in
    is ∙ (ap (λ l. l ++ flat_map (λ b. marks_against i b) x) so_far
    ∙ (append_assoc start (base_marks 0 (take i xs)) (flat_map (λ b. marks_against i b) x)
    ∙ ap (λ l. start ++ l) (sym (base_marks_push (take i xs) 0 i x (omega (arith, count))) ∙ ap (base_marks 0) (sym (one_more xs i x inside at)))))

pub no_more_marks : (p : List ℕ → Bool) (xs : List (List AttributeTypeAndValue)) (i : ℕ) (x : List AttributeTypeAndValue) (b : Bool) → i < length xs →
    x ≡ get_or xs i x → list_any p (name_marks 0 (take i xs)) ≡ false → b ≡ list_any (λ a. p (mark_at i a)) x → b ≡ false →
    list_any p (name_marks 0 (take (i + 1) xs)) ≡ false
no_more_marks p xs i x b inside at so_far is none =
    let count : length (take i xs) ≡ i = length-take-le i xs (omega (arith, inside)) in
    ap (λ l. list_any p (name_marks 0 l)) (one_more xs i x inside at)
    ∙ (ap (list_any p) (name_marks_push (take i xs) 0 i x (omega (arith, count)))
    ∙ (list_any-append p (name_marks 0 (take i xs)) (map (λ a. mark_at i a) x)
    ∙ (ap (λ t. t || list_any p (map (λ a. mark_at i a) x)) so_far ∙ (any_map p (λ a. mark_at i a) x ∙ (sym is ∙ none)))))

marks_at : (p : List ℕ → Bool) (xs : List (List AttributeTypeAndValue)) (k i n : ℕ) (x : List AttributeTypeAndValue) → i < length xs → x ≡ get_or xs i x →
    n ≡ k + i → list_any p (map (λ a. mark_at n a) x) ≡ true → list_any p (name_marks k xs) ≡ true
marks_at p [] k i n x inside at is h = absurd (omega (arith, inside))
marks_at p (y ∷ ys) k zero n x inside at is h =
    let here : k ≡ n = omega (arith, is) in
    list_any-append p (map (λ a. mark_at k a) y) (name_marks (k + 1) ys)
    ∙ first_of _ _ (ap (λ m. list_any p (map (λ a. mark_at m a) y)) here ∙ (ap (λ l. list_any p (map (λ a. mark_at n a) l)) (sym at) ∙ h))
marks_at p (y ∷ ys) k (suc i) n x inside at is h =
    list_any-append p (map (λ a. mark_at k a) y) (name_marks (k + 1) ys)
    ∙ second_of _ _ (marks_at p ys (k + 1) i n x (omega (arith, inside)) at (omega (arith, is)) h)

pub marks_found : (p : List ℕ → Bool) (xs : List (List AttributeTypeAndValue)) (i : ℕ) (x : List AttributeTypeAndValue) (b : Bool) → i < length xs →
    x ≡ get_or xs i x → b ≡ list_any (λ a. p (mark_at i a)) x → b ≡ true → true ≡ list_any p (name_marks 0 xs)
marks_found p xs i x b inside at is found =
    sym (marks_at p xs 0 i i x inside at (omega arith) (any_map p (λ a. mark_at i a) x ∙ (sym is ∙ found)))

pub no_sets : (sets : List (List (List ℕ))) (marks : List (List ℕ)) → sets ≡ [] → false ≡ list_any (in_some sets) marks
no_sets sets marks none = sym (ap (λ s. list_any (in_some s) marks) none ∙ any_none marks)

pub none_of : (sets : List (List (List ℕ))) → true ≡ (length sets == 0) → sets ≡ []
none_of [] h = refl
none_of (s ∷ sets) h = elim (eqb_tells (length (s ∷ sets)) 0) [
  | inl (test, is) ↦ absurd (omega (arith, is))
  | inr (test, other) ↦ absurd (let e : true ≡ false = h ∙ test in cc)
]
