-- The graph grows by no more than what certificates say.
use Rattle.std.proofs.Common.{◌≡◌, ◌∙◌, ℕ, ◌+◌, ◌≤◌, inl, inr, Bool, true, false, not, ◌&&◌, ◌||◌, cond, List, [], ◌∷◌, ◌++◌, length, map, filter, Option, Some, None, refl, sym, ap, subst, arith, length-append}
use Rattle.std.specs.List.{flat_map, filter_map, cons_option}
use Rattle.x509_policy.specs.Values.{Policy, any_policy, is_any, has, is_repeated, Mapping}
use Rattle.x509_policy.specs.Tree.{subjects}
use Rattle.x509_policy.specs.Levels.{In, Entry, Level, IsAt}
use Rattle.x509_policy.specs.Graph.{is_at, some_expects, expecting, entry, named_entry, with_new, next_level, is_issuer, mapped_entry, parents_of_any, prepared_level, count_expected}
use Rattle.x509_policy.proofs.Ends.{has_one}
use Rattle.x509_policy.proofs.Members.{In-cases, In-has, not_both}
use Rattle.x509_policy.proofs.Graphs.{In-map, In-filter_map, not_at}

count-append : (xs ys : Level) → count_expected (xs ++ ys) ≡ count_expected xs + count_expected ys
count-append [] ys = omega arith
count-append (e ∷ xs) ys = let rest = count-append xs ys in omega arith

all_expected : (level : Level) → length (flat_map (λ (e : Entry). e.expected) level) ≡ count_expected level
all_expected [] = refl
all_expected (e ∷ level) =
    let both = length-append e.expected (flat_map (λ (k : Entry). k.expected) level) in
    let rest = all_expected level in
    omega arith

-- ---- each policy once

abbrev pub AreDistinct : Level → Type 0
AreDistinct [] = Unit {0}
AreDistinct (e ∷ level) = (IsAt level e.valid → ⊥) × AreDistinct level

distinct-push : (level : Level) (e : Entry) → AreDistinct level → (IsAt level e.valid → ⊥) → AreDistinct (level ++ e ∷ [])
distinct-push [] e d free = ((λ at. at.1), tt)
distinct-push (k ∷ level) e (first, more) free = (
  (λ (j, is, same). elim (In-cases j level (e ∷ []) is) [
    | inl old ↦ first (j, old, same)
    | inr new ↦ elim new [ inl here ↦ free (k, inl refl, sym same ∙ sym (ap (λ (i : Entry). i.valid) here)) | inr none ↦ absurd none ]
  ]),
  distinct-push level e more (λ (j, is, same). free (j, inr is, same)),
)

module _ (make : Policy → Entry) (named : (p : Policy) → (make p).valid ≡ p) where
  distinct-step : (b : Bool) (p : Policy) (level : Level) → is_at level p ≡ b → AreDistinct level → AreDistinct (cond b level (level ++ make p ∷ []))
  distinct-step true p level is d = d
  distinct-step false p level is d = distinct-push level (make p) d (λ at. not_at level p is (subst (IsAt level) (named p) at))

  pub distinct-with_new : (ps : List Policy) (level : Level) → AreDistinct level → AreDistinct (with_new make ps level)
  distinct-with_new [] level d = d
  distinct-with_new (p ∷ ps) level d = distinct-with_new ps (cond (is_at level p) level (level ++ make p ∷ [])) (distinct-step (is_at level p) p level refl d)

-- ---- 6.1.3 (d)

module _ (above : Level) where
  abbrev Named : Bool → Bool → Bool → Policy → Option Entry
  Named a b c p = cond a None (cond b (Some (entry p (expecting above p))) (cond c (Some (entry p (any_policy ∷ []))) None))

  one_named : (a b c : Bool) (p : Policy) (level : Level) → count_expected (cons_option (Named a b c p) level) ≤ 1 + count_expected level
  one_named true b c p level = omega arith
  one_named false true c p level = omega arith
  one_named false false true p level = omega arith
  one_named false false false p level = omega arith

  names_count : (ps : List Policy) → count_expected (filter_map (named_entry above) ps) ≤ length ps
  names_count [] = omega arith
  names_count (p ∷ ps) =
      let one = one_named (is_any p) (some_expects above p) (is_at above any_policy) p (filter_map (named_entry above) ps) in
      let rest = names_count ps in
      omega arith

  named_valid : (a b c : Bool) (p : Policy) (e : Entry) → Named a b c p ≡ Some e → p ≡ e.valid
  named_valid true b c p e h = cc
  named_valid false true c p e h = let same : entry p (expecting above p) ≡ e = cc in ap (λ (k : Entry). k.valid) same
  named_valid false false true p e h = let same : entry p (any_policy ∷ []) ≡ e = cc in ap (λ (k : Entry). k.valid) same
  named_valid false false false p e h = cc

  names_at : (ps : List Policy) (v : Policy) → IsAt (filter_map (named_entry above) ps) v → In v ps
  names_at ps v (e, is, same) =
      let (p, there, made) = In-filter_map (named_entry above) e ps is in
      subst (λ q. In q ps) (named_valid (is_any p) (some_expects above p) (is_at above any_policy) p e made ∙ same) there

  distinct_one : (o : Option Entry) (p : Policy) (level : Level) → ((e : Entry) → o ≡ Some e → p ≡ e.valid) → (IsAt level p → ⊥) → AreDistinct level → AreDistinct (cons_option o level)
  distinct_one None p level valid free d = d
  distinct_one (Some e) p level valid free d = ((λ at. free (subst (IsAt level) (sym (valid e refl)) at)), d)

  names_distinct : (ps : List Policy) → is_repeated ps ≡ false → AreDistinct (filter_map (named_entry above) ps)
  names_distinct [] once = tt
  names_distinct (p ∷ ps) once =
      let more : is_repeated ps ≡ false = right (has ps p) (is_repeated ps) once in
      let alone : has ps p ≡ false = left (has ps p) (is_repeated ps) once in
      distinct_one (named_entry above p) p (filter_map (named_entry above) ps) (named_valid (is_any p) (some_expects above p) (is_at above any_policy) p)
      (λ at. not_both (has ps p) (In-has p ps (names_at ps p at)) alone) (names_distinct ps more)
    where
      left : (a b : Bool) → (a || b) ≡ false → a ≡ false
      left true b h = h
      left false b h = refl

      right : (a b : Bool) → (a || b) ≡ false → b ≡ false
      right true b h = cc
      right false b h = h

  abbrev Make : Policy → Entry
  Make p = entry p (expecting above p)

  step_count : (b : Bool) (p : Policy) (level : Level) → count_expected (cond b level (level ++ Make p ∷ [])) ≤ count_expected level + 1
  step_count true p level = omega arith
  step_count false p level = let both = count-append level (Make p ∷ []) in omega arith

  others_count : (ps : List Policy) (level : Level) → count_expected (with_new Make ps level) ≤ count_expected level + length ps
  others_count [] level = omega arith
  others_count (p ∷ ps) level =
      let one = step_count (is_at level p) p level in
      let rest = others_count ps (cond (is_at level p) level (level ++ Make p ∷ [])) in
      omega arith

  module _ (policies : List Policy) where
    abbrev Names : Level
    Names = filter_map (named_entry above) policies

    abbrev WithOthers : Level
    WithOthers = with_new Make (flat_map (λ (e : Entry). e.expected) above) Names

    next-count-case : (b : Bool) → count_expected (cond b WithOthers Names) ≤ count_expected above + length policies
    next-count-case true =
        let names = names_count policies in
        let all = all_expected above in
        let others = others_count (flat_map (λ (e : Entry). e.expected) above) Names in
        omega arith
    next-count-case false = let names = names_count policies in omega arith

    next-distinct-case : (b : Bool) → is_repeated policies ≡ false → AreDistinct (cond b WithOthers Names)
    next-distinct-case true once = distinct-with_new Make (λ p. refl) (flat_map (λ (e : Entry). e.expected) above) Names (names_distinct policies once)
    next-distinct-case false once = names_distinct policies once

    pub next_count : (others : Bool) → count_expected (next_level (Some policies) others above) ≤ count_expected above + length policies
    next_count others = next-count-case (others && has policies any_policy)

    pub next_distinct : (others : Bool) → is_repeated policies ≡ false → AreDistinct (next_level (Some policies) others above)
    next_distinct others once = next-distinct-case (others && has policies any_policy) once

-- ---- 6.1.4 (b)

-- how many policies the mappings have for the policies of a level
abbrev to_count : List Mapping → Level → ℕ
to_count ms [] = 0
to_count ms (e ∷ level) = length (subjects ms e.valid) + to_count ms level

to_count-append : (ms : List Mapping) (xs ys : Level) → to_count ms (xs ++ ys) ≡ to_count ms xs + to_count ms ys
to_count-append ms [] ys = omega arith
to_count-append ms (e ∷ xs) ys = let rest = to_count-append ms xs ys in omega arith

-- a mapping is for one of them at most
ones : Policy → Level → ℕ
ones id [] = 0
ones id (e ∷ level) = cond (has (id ∷ []) e.valid) 1 0 + ones id level

ones-none : (id : Policy) (level : Level) → (IsAt level id → ⊥) → ones id level ≡ 0
unfolding ones
ones-none id [] free = refl
ones-none id (e ∷ level) free =
    let rest = ones-none id level (λ (k, is, same). free (k, inr is, same)) in
    by (has (id ∷ []) e.valid) refl rest
  where
    by : (b : Bool) → has (id ∷ []) e.valid ≡ b → ones id level ≡ 0 → cond b 1 0 + ones id level ≡ 0
    by true h rest = absurd (free (e, inl refl, sym (has_one id e.valid h)))
    by false h rest = omega arith

ones-distinct : (id : Policy) (level : Level) → AreDistinct level → ones id level ≤ 1
unfolding ones
ones-distinct id [] d = omega arith
ones-distinct id (e ∷ level) (free, d) = by (has (id ∷ []) e.valid) refl (ones-distinct id level d)
  where
    by : (b : Bool) → has (id ∷ []) e.valid ≡ b → ones id level ≤ 1 → cond b 1 0 + ones id level ≤ 1
    by true h rest = let zero_left = ones-none id level (λ at. free (subst (IsAt level) (has_one id e.valid h) at)) in omega arith
    by false h rest = omega arith

more_subjects : (m : Mapping) (ms : List Mapping) (v : Policy) (b : Bool)
    → length (cond b (m.subject_domain_policy ∷ subjects ms v) (subjects ms v)) ≡ cond b 1 0 + length (subjects ms v)
more_subjects m ms v true = omega arith
more_subjects m ms v false = omega arith

to_count-cons : (m : Mapping) (ms : List Mapping) (level : Level) → to_count (m ∷ ms) level ≡ ones m.issuer_domain_policy level + to_count ms level
unfolding ones
to_count-cons m ms [] = omega arith
to_count-cons m ms (e ∷ level) =
    let one = more_subjects m ms e.valid (has (m.issuer_domain_policy ∷ []) e.valid) in
    let rest = to_count-cons m ms level in
    omega arith

to_count-none : (level : Level) → to_count [] level ≡ 0
to_count-none [] = refl
to_count-none (e ∷ level) = let rest = to_count-none level in omega arith

to_count-distinct : (ms : List Mapping) (level : Level) → AreDistinct level → to_count ms level ≤ length ms
to_count-distinct [] level d = let none_there = to_count-none level in omega arith
to_count-distinct (m ∷ ms) level d =
    let one = ones-distinct m.issuer_domain_policy level d in
    let more = to_count-cons m ms level in
    let rest = to_count-distinct ms level d in
    omega arith

module _ (ms : List Mapping) (level : Level) where
  abbrev Kept : Level → Level
  Kept l = map (mapped_entry ms) l

  kept-one : (b : Bool) (to expected : List Policy) → length (cond b to expected) ≤ length expected + length to
  kept-one true to expected = omega arith
  kept-one false to expected = omega arith

  kept_count : (l : Level) → count_expected (Kept l) ≤ count_expected l + to_count ms (Kept l)
  kept_count [] = omega arith
  kept_count (e ∷ l) =
      let one = kept-one (is_issuer ms e.valid) (subjects ms e.valid) e.expected in
      let rest = kept_count l in
      omega arith

  kept_distinct : (l : Level) → AreDistinct l → AreDistinct (Kept l)
  kept_distinct [] d = tt
  kept_distinct (e ∷ l) (free, d) = (
    (λ (k, is, same). let (j, there, made) = In-map (mapped_entry ms) k l is in free (j, there, ap (λ (i : Entry). i.valid) made ∙ same)),
    kept_distinct l d,
  )

  abbrev NewEntry : Policy → Entry
  NewEntry p = record { valid = p; expected = subjects ms p; parents = parents_of_any level }

  new-step : (b : Bool) (p : Policy) (l : Level) (n : ℕ) → count_expected l ≤ n + to_count ms l → count_expected (cond b l (l ++ NewEntry p ∷ [])) ≤ n + to_count ms (cond b l (l ++ NewEntry p ∷ []))
  new-step true p l n h = h
  new-step false p l n h =
      let one = count-append l (NewEntry p ∷ []) in
      let two = to_count-append ms l (NewEntry p ∷ []) in
      omega arith

  new_count : (ps : List Policy) (l : Level) (n : ℕ) → count_expected l ≤ n + to_count ms l → count_expected (with_new NewEntry ps l) ≤ n + to_count ms (with_new NewEntry ps l)
  new_count [] l n h = h
  new_count (p ∷ ps) l n h = new_count ps (cond (is_at l p) l (l ++ NewEntry p ∷ [])) n (new-step (is_at l p) p l n h)

  abbrev Issuers : List Policy
  Issuers = map (λ (m : Mapping). m.issuer_domain_policy) ms

  mapped-case : (b : Bool) → AreDistinct level → count_expected (cond b (with_new NewEntry Issuers (Kept level)) (Kept level)) ≤ count_expected level + length ms
  mapped-case true d =
      let kept = kept_count level in
      let all = new_count Issuers (Kept level) (count_expected level) kept in
      let few = to_count-distinct ms (with_new NewEntry Issuers (Kept level)) (distinct-with_new NewEntry (λ p. refl) Issuers (Kept level) (kept_distinct level d)) in
      omega arith
  mapped-case false d =
      let kept = kept_count level in
      let few = to_count-distinct ms (Kept level) (kept_distinct level d) in
      omega arith

  left-one : (b : Bool) (e : Entry) (l : Level) → count_expected (cond b (e ∷ l) l) ≤ length e.expected + count_expected l
  left-one true e l = omega arith
  left-one false e l = omega arith

  left_count : (l : Level) → count_expected (filter (λ (e : Entry). not (is_issuer ms e.valid)) l) ≤ count_expected l
  left_count [] = omega arith
  left_count (e ∷ l) =
      let one = left-one (not (is_issuer ms e.valid)) e (filter (λ (k : Entry). not (is_issuer ms k.valid)) l) in
      let rest = left_count l in
      omega arith

  pub prepared_count : (b : Bool) → AreDistinct level → count_expected (prepared_level ms b level) ≤ count_expected level + length ms
  prepared_count true d = let less = left_count level in omega arith
  prepared_count false d = mapped-case (is_at level any_policy) d

pub grows_by : (policies : List Policy) (others : Bool) (mappings : List Mapping) (inhibited : Bool) (above : Level) → is_repeated policies ≡ false
    → count_expected (prepared_level mappings inhibited (next_level (Some policies) others above)) ≤ count_expected above + length policies + length mappings
grows_by policies others mappings inhibited above once =
    let one = next_count above policies others in
    let two = prepared_count mappings (next_level (Some policies) others above) inhibited (next_distinct above policies others once) in
    omega arith
