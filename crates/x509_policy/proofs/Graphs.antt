-- The levels of the graph are right.
use Rattle.std.proofs.Common.{◌≡◌, ◌∙◌, ◌⊎◌, inl, inr, Bool, true, false, not, ◌&&◌, cond, List, [], ◌∷◌, ◌++◌, map, filter, Option, Some, None, refl, sym, ap, subst}
use Rattle.std.specs.List.{flat_map, filter_map, cons_option}
use Rattle.x509_policy.specs.Values.{Policy, any_policy, is_any, has, Mapping}
use Rattle.x509_policy.specs.Tree.{subjects}
use Rattle.x509_policy.specs.Levels.{In, Entry, Level, IsAt, Expects, LeadsTo, MayFollow, IsProcessed, IsNext, IsIssuer, IsMapped, IsUnmapped, IsPrepared}
use Rattle.x509_policy.specs.Graph.{is_at, some_expects, expecting, entry, named_entry, with_new, next_level, is_issuer, mapped_entry, parents_of_any, prepared_level}
use Rattle.x509_policy.proofs.Ends.{is_any-same, has_one}
use Rattle.x509_policy.proofs.Members.{In-left, In-right, In-cases, In-flat_map, flat_map-In, In-filter, filter-In, any_In, In_any, has-In, In-has, is_false, not_both, any_is, is_other}
use Rattle.x509_policy.proofs.Mappings.{has_same}

-- ---- lists

pub In-map : {X Y : Type 0} (f : X → Y) (y : Y) (xs : List X) → In y (map f xs) → (x : X) × In x xs × (f x ≡ y)
In-map f y [] h = absurd h
In-map f y (x ∷ xs) (inl e) = (x, inl refl, e)
In-map f y (x ∷ xs) (inr h) = let (z, is, same) = In-map f y xs h in (z, inr is, same)

pub map-In : {X Y : Type 0} (f : X → Y) (x : X) (xs : List X) → In x xs → In (f x) (map f xs)
map-In f x [] h = absurd h
map-In f x (z ∷ xs) (inl e) = inl (ap f e)
map-In f x (z ∷ xs) (inr h) = inr (map-In f x xs h)

In-cons_option : {Y : Type 0} (o : Option Y) (y : Y) (ys : List Y) → In y (cons_option o ys) → (o ≡ Some y) ⊎ In y ys
In-cons_option None y ys h = inr h
In-cons_option (Some z) y ys (inl e) = inl (ap Some e)
In-cons_option (Some z) y ys (inr h) = inr h

cons_option-head : {Y : Type 0} (o : Option Y) (y : Y) (ys : List Y) → o ≡ Some y → In y (cons_option o ys)
cons_option-head o y ys e = subst (λ q. In y (cons_option q ys)) (sym e) (inl refl)

cons_option-tail : {Y : Type 0} (o : Option Y) (y : Y) (ys : List Y) → In y ys → In y (cons_option o ys)
cons_option-tail None y ys h = h
cons_option-tail (Some z) y ys h = inr h

pub In-filter_map : {X Y : Type 0} (f : X → Option Y) (y : Y) (xs : List X) → In y (filter_map f xs) → (x : X) × In x xs × (f x ≡ Some y)
In-filter_map f y [] h = absurd h
In-filter_map f y (x ∷ xs) h = elim (In-cons_option (f x) y (filter_map f xs) h) [
  | inl e ↦ (x, inl refl, e)
  | inr more ↦ let (z, is, same) = In-filter_map f y xs more in (z, inr is, same)
]

pub filter_map-In : {X Y : Type 0} (f : X → Option Y) (y : Y) (x : X) (xs : List X) → In x xs → f x ≡ Some y → In y (filter_map f xs)
filter_map-In f y x [] h e = absurd h
filter_map-In f y x (z ∷ xs) (inl same) e = cons_option-head (f z) y (filter_map f xs) (ap f same ∙ e)
filter_map-In f y x (z ∷ xs) (inr h) e = cons_option-tail (f z) y (filter_map f xs) (filter_map-In f y x xs h e)

pub if_yes : {X : Type 0} (b : Bool) (x y : X) → b ≡ true → cond b x y ≡ x
if_yes b x y h = ap (λ c. cond c x y) h

pub if_no : {X : Type 0} (b : Bool) (x y : X) → b ≡ false → cond b x y ≡ y
if_no b x y h = ap (λ c. cond c x y) h

-- ---- tests

pub at_is : (level : Level) (p : Policy) → is_at level p ≡ true → IsAt level p
at_is level p h = let (e, is, t) = any_In (λ (k : Entry). has (k.valid ∷ []) p) level h in (e, is, has_one e.valid p t)

pub is_at_of : (level : Level) (p : Policy) → IsAt level p → is_at level p ≡ true
is_at_of level p (e, is, same) = In_any (λ (k : Entry). has (k.valid ∷ []) p) e level is (has_same e.valid p same)

pub not_at : (level : Level) (p : Policy) → is_at level p ≡ false → IsAt level p → ⊥
not_at level p h at = not_both (is_at level p) (is_at_of level p at) h

pub expects_some : (level : Level) (p : Policy) → some_expects level p ≡ true → (w : Policy) × Expects level w p
expects_some level p h = let (e, is, t) = any_In (λ (k : Entry). has k.expected p) level h in (e.valid, (e, is, refl, has-In p e.expected t))

pub some_expect : (level : Level) (w p : Policy) → Expects level w p → some_expects level p ≡ true
some_expect level w p (e, is, same, ex) = In_any (λ (k : Entry). has k.expected p) e level is (In-has p e.expected ex)

pub In-expecting : (level : Level) (u p : Policy) → In u (expecting level p) → Expects level u p
In-expecting level u p h =
    let (e, is, same) = In-map (λ (k : Entry). k.valid) u (filter (λ (k : Entry). has k.expected p) level) h in
    let (there, t) = In-filter (λ (k : Entry). has k.expected p) e level is in
    (e, there, same, has-In p e.expected t)

pub expecting-In : (level : Level) (u p : Policy) → Expects level u p → In u (expecting level p)
expecting-In level u p (e, is, same, ex) =
    subst (λ q. In q (expecting level p)) same (map-In (λ (k : Entry). k.valid) e (filter (λ (k : Entry). has k.expected p) level) (filter-In (λ (k : Entry). has k.expected p) e level is (In-has p e.expected ex)))

pub issuer_is : (ms : List Mapping) (p : Policy) → is_issuer ms p ≡ true → IsIssuer ms p
issuer_is ms p h = let (m, is, t) = any_In (λ (k : Mapping). has (k.issuer_domain_policy ∷ []) p) ms h in (m, is, has_one m.issuer_domain_policy p t)

pub is_issuer_of : (ms : List Mapping) (p : Policy) → IsIssuer ms p → is_issuer ms p ≡ true
is_issuer_of ms p (m, is, same) = In_any (λ (k : Mapping). has (k.issuer_domain_policy ∷ []) p) m ms is (has_same m.issuer_domain_policy p same)

-- ---- policies that are added

new-step : (b : Bool) (e : Entry) (make : Entry) (level : Level) → In e (cond b level (level ++ make ∷ [])) → In e level ⊎ ((b ≡ false) × (make ≡ e))
new-step true e make level h = inl h
new-step false e make level h = elim (In-cases e level (make ∷ []) h) [ inl old ↦ inl old | inr new ↦ elim new [ inl same ↦ inr (refl, same) | inr none ↦ absurd none ] ]

step-old : (b : Bool) (e : Entry) (make : Entry) (level : Level) → In e level → In e (cond b level (level ++ make ∷ []))
step-old true e make level h = h
step-old false e make level h = In-left e level (make ∷ []) h

module _ (make : Policy → Entry) (named : (p : Policy) → (make p).valid ≡ p) where
  pub In-with_new : (e : Entry) (ps : List Policy) (level : Level) → In e (with_new make ps level) → In e level ⊎ ((p : Policy) × In p ps × (make p ≡ e) × (IsAt level p → ⊥))
  In-with_new e [] level h = inl h
  In-with_new e (p ∷ ps) level h = elim (In-with_new e ps (cond (is_at level p) level (level ++ make p ∷ [])) h) [
    | inl old ↦ elim (new-step (is_at level p) e (make p) level old) [
      | inl before ↦ inl before
      | inr (free, same) ↦ inr (p, inl refl, same, not_at level p free)
    ]
    | inr (q, is, same, free) ↦ inr (q, inr is, same, λ (k, there, at). free (k, step-old (is_at level p) k (make p) level there, at))
  ]

  pub old-with_new : (e : Entry) (ps : List Policy) (level : Level) → In e level → In e (with_new make ps level)
  old-with_new e [] level h = h
  old-with_new e (p ∷ ps) level h = old-with_new e ps (cond (is_at level p) level (level ++ make p ∷ [])) (step-old (is_at level p) e (make p) level h)

  step-at : (b : Bool) (p : Policy) (level : Level) → is_at level p ≡ b → IsAt (cond b level (level ++ make p ∷ [])) p
  step-at true p level is = at_is level p is
  step-at false p level is = (make p, In-right (make p) level (make p ∷ []) (inl refl), named p)

  pub with_new-at : (p : Policy) (ps : List Policy) (level : Level) → In p ps → IsAt (with_new make ps level) p
  with_new-at p [] level h = absurd h
  with_new-at p (q ∷ ps) level (inl same) =
      let (e, is, at) = step-at (is_at level q) q level refl in
      (e, old-with_new e ps (cond (is_at level q) level (level ++ make q ∷ [])) is, at ∙ same)
  with_new-at p (q ∷ ps) level (inr h) = with_new-at p ps (cond (is_at level q) level (level ++ make q ∷ [])) h

-- ---- 6.1.3 (d)

module _ (policies : List Policy) (others : Bool) (above : Level) where
  -- an entry of the level
  record Right (e : Entry) : Type 0 where
    itself : e.expected ≡ e.valid ∷ []
    to : (u : Policy) → In u e.parents → MayFollow policies others above u e.valid
    from : (u : Policy) → MayFollow policies others above u e.valid → In u e.parents
    some : (u : Policy) × In u e.parents

  expected_right : (p : Policy) → ((u : Policy) → Expects above u p → MayFollow policies others above u p) → (w : Policy) × Expects above w p → Right (entry p (expecting above p))
  expected_right p may (w, by) = record {
    itself = refl;
    to = λ u h. may u (In-expecting above u p h);
    from = λ u h. elim h [
      | inl (is, other, why) ↦ elim why [ inl ex ↦ expecting-In above u p ex | inr (at, any, nobody) ↦ absurd (nobody w by) ]
      | inr (o, any, ex) ↦ expecting-In above u p ex
    ];
    some = (w, expecting-In above w p by);
  }

  any_right : (p : Policy) → In p policies → (p ≡ any_policy → ⊥) → IsAt above any_policy → ((w : Policy) → Expects above w p → ⊥) → Right (entry p (any_policy ∷ []))
  any_right p is other at nobody = record {
    itself = refl;
    to = λ u. elim [ inl same ↦ inl (is, other, inr (subst (IsAt above) same at, sym same, nobody)) | inr h ↦ absurd h ];
    from = λ u h. elim h [
      | inl (there, apart, why) ↦ elim why [ inl ex ↦ absurd (nobody u ex) | inr (on, any, free) ↦ inl (sym any) ]
      | inr (o, any, ex) ↦ absurd (nobody u ex)
    ];
    some = (any_policy, inl refl);
  }

  abbrev Named : Bool → Bool → Bool → Policy → Option Entry
  Named a b c p = cond a None (cond b (Some (entry p (expecting above p))) (cond c (Some (entry p (any_policy ∷ []))) None))

  some_is : (e k : Entry) → Some k ≡ Some e → k ≡ e
  some_is e k h = cc

  named_right : (p : Policy) → In p policies → (a b c : Bool) → is_any p ≡ a → some_expects above p ≡ b → is_at above any_policy ≡ c → (e : Entry) → Named a b c p ≡ Some e → Right e × (e.valid ≡ p)
  named_right p is true b c any _ _ e h = cc
  named_right p is false true c any ex _ e h =
      let same = some_is e (entry p (expecting above p)) h in
      (subst Right same (expected_right p (λ u by. inl (is, is_other p any, inl by)) (expects_some above p ex)), sym (ap (λ (k : Entry). k.valid) same))
  named_right p is false false true any free at e h =
      let same = some_is e (entry p (any_policy ∷ [])) h in
      (subst Right same (any_right p is (is_other p any) (at_is above any_policy at) (λ w by. not_both (some_expects above p) (some_expect above w p by) free)), sym (ap (λ (k : Entry). k.valid) same))
  named_right p is false false false any free at e h = cc

  abbrev Names : Level
  Names = filter_map (named_entry above) policies

  names_right : (e : Entry) → In e Names → Right e
  names_right e h =
      let (p, is, made) = In-filter_map (named_entry above) e policies h in
      (named_right p is (is_any p) (some_expects above p) (is_at above any_policy) refl refl refl e made).0

  named_there : (u p : Policy) → (a b c : Bool) → is_any p ≡ a → some_expects above p ≡ b → is_at above any_policy ≡ c → (p ≡ any_policy → ⊥)
      → (Expects above u p ⊎ (IsAt above u × (u ≡ any_policy) × ((w : Policy) → Expects above w p → ⊥))) → (e : Entry) × (Named a b c p ≡ Some e) × (e.valid ≡ p)
  named_there u p true b c any _ _ other why = absurd (other (is_any-same p any))
  named_there u p false true c any ex _ other why = (entry p (expecting above p), refl, refl)
  named_there u p false false true any free at other why = (entry p (any_policy ∷ []), refl, refl)
  named_there u p false false false any free at other (inl by) = absurd (not_both (some_expects above p) (some_expect above u p by) free)
  named_there u p false false false any free at other (inr (on, same, nobody)) = absurd (not_at above any_policy at (subst (IsAt above) same on))

  names_at : (u p : Policy) → In p policies → (p ≡ any_policy → ⊥) → (Expects above u p ⊎ (IsAt above u × (u ≡ any_policy) × ((w : Policy) → Expects above w p → ⊥))) → IsAt Names p
  names_at u p is other why =
      let (e, made, same) = named_there u p (is_any p) (some_expects above p) (is_at above any_policy) refl refl refl other why in
      (e, filter_map-In (named_entry above) e p policies is made, same)

  abbrev AllExpected : List Policy
  AllExpected = flat_map (λ (e : Entry). e.expected) above

  abbrev Make : Policy → Entry
  Make p = entry p (expecting above p)

  abbrev WithOthers : Level
  WithOthers = with_new Make AllExpected Names

  both_true : (a b : Bool) → (a && b) ≡ true → (a ≡ true) × (b ≡ true)
  both_true true b h = (refl, h)
  both_true false b h = cc

  abbrev LevelIf : Bool → Level
  LevelIf b = cond b WithOthers Names

  level_right : (b : Bool) → b ≡ (others && has policies any_policy) → (e : Entry) → In e (LevelIf b) → Right e
  level_right true is e h = elim (In-with_new Make (λ p. refl) e AllExpected Names h) [
    | inl old ↦ names_right e old
    | inr (p, there, made, free) ↦
        let (o, any) = both_true others (has policies any_policy) (sym is) in
        let (k, on, ex) = In-flat_map (λ (j : Entry). j.expected) p above there in
        subst Right made (expected_right p (λ u by. inr (o, has-In any_policy policies any, by)) (k.valid, (k, on, refl, ex)))
  ]
  level_right false is e h = names_right e h

  level_at : (b : Bool) → b ≡ (others && has policies any_policy) → (u v : Policy) → MayFollow policies others above u v → IsAt (LevelIf b) v
  level_at true is u v (inl (there, other, why)) = let (e, on, same) = names_at u v there other why in (e, old-with_new Make (λ p. refl) e AllExpected Names on, same)
  level_at true is u v (inr (o, any, (e, on, same, ex))) = with_new-at Make (λ p. refl) v AllExpected Names (flat_map-In (λ (j : Entry). j.expected) v e above on ex)
  level_at false is u v (inl (there, other, why)) = names_at u v there other why
  level_at false is u v (inr (o, any, ex)) = absurd (not_both (others && has policies any_policy) (and_true others (has policies any_policy) o (In-has any_policy policies any)) (sym is))
    where
      and_true : (a b : Bool) → a ≡ true → b ≡ true → (a && b) ≡ true
      and_true true b h k = k
      and_true false b h k = cc

  abbrev Made : Level
  Made = LevelIf (others && has policies any_policy)

  made_right : (e : Entry) → In e Made → Right e
  made_right e h = level_right (others && has policies any_policy) refl e h

  pub made_processed : IsProcessed policies others above Made
  made_processed = record {
    leads = λ u v. (
      (λ (e, is, same, by). subst (MayFollow policies others above u) same ((made_right e is).to u by)),
      (λ may.
          let (e, is, same) = level_at (others && has policies any_policy) refl u v may in
          (e, is, same, (made_right e is).from u (subst (MayFollow policies others above u) (sym same) may))),
    );
    expects = λ v x. (
      (λ (e, is, same, ex).
          let one : In x (e.valid ∷ []) = subst (In x) (made_right e is).itself ex in
          ((e, is, same), elim one [ inl here ↦ sym same ∙ here | inr h ↦ absurd h ])),
      (λ ((e, is, same), here). (e, is, same, subst (In x) (sym (made_right e is).itself) (inl (same ∙ here)))),
    );
    follows = λ v (e, is, same). let (u, by) = (made_right e is).some in (u, (e, is, same, by));
  }

pub next_right : (policies : Option (List Policy)) (others : Bool) (above : Level) → IsNext policies others above (next_level policies others above)
next_right None others above = refl
next_right (Some policies) others above = made_processed policies others above

-- ---- 6.1.4 (b)

module _ (ms : List Mapping) (level : Level) (follows : (v : Policy) → IsAt level v → (u : Policy) × LeadsTo level u v) where
  abbrev Left : Level
  Left = filter (λ (e : Entry). not (is_issuer ms e.valid)) level

  not_issuer : (v : Policy) → not (is_issuer ms v) ≡ true → IsIssuer ms v → ⊥
  not_issuer v t issuer = by (is_issuer ms v) (is_issuer_of ms v issuer) t
    where
      by : (b : Bool) → b ≡ true → not b ≡ true → ⊥
      by true h k = not_both false k refl
      by false h k = not_both false h refl

  other_issuer : (v : Policy) → (IsIssuer ms v → ⊥) → not (is_issuer ms v) ≡ true
  other_issuer v other = ap not (is_false (is_issuer ms v) (λ h. other (issuer_is ms v h)))

  left_of : (e : Entry) → In e Left → In e level × (IsIssuer ms e.valid → ⊥)
  left_of e h = let (is, t) = In-filter (λ (k : Entry). not (is_issuer ms k.valid)) e level h in (is, not_issuer e.valid t)

  of_left : (e : Entry) → In e level → (IsIssuer ms e.valid → ⊥) → In e Left
  of_left e is other = filter-In (λ (k : Entry). not (is_issuer ms k.valid)) e level is (other_issuer e.valid other)

  pub left_unmapped : IsUnmapped ms level Left
  left_unmapped = record {
    leads = λ u v. (
      (λ (e, is, same, by). let (there, other) = left_of e is in ((e, there, same, by), λ issuer. other (subst (IsIssuer ms) (sym same) issuer))),
      (λ ((e, is, same, by), other). (e, of_left e is (λ issuer. other (subst (IsIssuer ms) same issuer)), same, by)),
    );
    expects = λ v x. (
      (λ (e, is, same, ex). let (there, other) = left_of e is in ((e, there, same, ex), λ issuer. other (subst (IsIssuer ms) (sym same) issuer))),
      (λ ((e, is, same, ex), other). (e, of_left e is (λ issuer. other (subst (IsIssuer ms) same issuer)), same, ex)),
    );
    follows = λ v (e, is, same).
        let (there, other) = left_of e is in
        let (u, (k, on, named, by)) = follows v (e, there, same) in
        (u, (k, of_left k on (λ issuer. other (subst (IsIssuer ms) (named ∙ sym same) issuer)), named, by));
  }

  abbrev Kept : Level
  Kept = map (mapped_entry ms) level

  abbrev Issuers : List Policy
  Issuers = map (λ (m : Mapping). m.issuer_domain_policy) ms

  abbrev NewEntry : Policy → Entry
  NewEntry p = record { valid = p; expected = subjects ms p; parents = parents_of_any level }

  abbrev MappedIf : Bool → Level
  MappedIf b = cond b (with_new NewEntry Issuers Kept) Kept

  in_parents : (u : Policy) → In u (parents_of_any level) → LeadsTo level u any_policy
  in_parents u h =
      let (e, is, by) = In-flat_map (λ (k : Entry). k.parents) u (filter (λ (k : Entry). is_any k.valid) level) h in
      let (there, any) = In-filter (λ (k : Entry). is_any k.valid) e level is in
      (e, there, is_any-same e.valid any, by)

  parents_in : (u : Policy) → LeadsTo level u any_policy → In u (parents_of_any level)
  parents_in u (e, is, same, by) = flat_map-In (λ (k : Entry). k.parents) u e (filter (λ (k : Entry). is_any k.valid) level) (filter-In (λ (k : Entry). is_any k.valid) e level is (any_is e.valid same)) by

  -- an entry is one of before, or a new one for a policy that is mapped
  abbrev Source : Entry → Type 0
  Source e = ((k : Entry) × In k level × (mapped_entry ms k ≡ e)) ⊎ ((p : Policy) × IsIssuer ms p × (NewEntry p ≡ e) × (IsAt level p → ⊥) × IsAt level any_policy)

  kept_source : (e : Entry) → In e Kept → Source e
  kept_source e h = let (k, is, same) = In-map (mapped_entry ms) e level h in inl (k, is, same)

  kept_at : (p : Policy) → IsAt level p → IsAt Kept p
  kept_at p (e, is, same) = (mapped_entry ms e, map-In (mapped_entry ms) e level is, same)

  issuer_in : (p : Policy) → In p Issuers → IsIssuer ms p
  issuer_in p h = let (m, is, same) = In-map (λ (k : Mapping). k.issuer_domain_policy) p ms h in (m, is, same)

  in_issuers : (p : Policy) → IsIssuer ms p → In p Issuers
  in_issuers p (m, is, same) = subst (λ q. In q Issuers) same (map-In (λ (k : Mapping). k.issuer_domain_policy) m ms is)

  source : (b : Bool) → is_at level any_policy ≡ b → (e : Entry) → In e (MappedIf b) → Source e
  source true any e h = elim (In-with_new NewEntry (λ p. refl) e Issuers Kept h) [
    | inl old ↦ kept_source e old
    | inr (p, is, same, free) ↦ inr (p, issuer_in p is, same, (λ at. free (kept_at p at)), at_is level any_policy any)
  ]
  source false any e h = kept_source e h

  old_there : (b : Bool) (k : Entry) → In k level → In (mapped_entry ms k) (MappedIf b)
  old_there true k is = old-with_new NewEntry (λ p. refl) (mapped_entry ms k) Issuers Kept (map-In (mapped_entry ms) k level is)
  old_there false k is = map-In (mapped_entry ms) k level is

  new_there : (b : Bool) → is_at level any_policy ≡ b → (p : Policy) → IsIssuer ms p → IsAt level any_policy → IsAt (MappedIf b) p
  new_there true any p issuer at = with_new-at NewEntry (λ q. refl) p Issuers Kept (in_issuers p issuer)
  new_there false any p issuer at = absurd (not_at level any_policy any at)

  abbrev Mapped : Level
  Mapped = MappedIf (is_at level any_policy)

  source_of : (e : Entry) → In e Mapped → Source e
  source_of e h = source (is_at level any_policy) refl e h

  issuer_expected : (k : Entry) → IsIssuer ms k.valid → (mapped_entry ms k).expected ≡ subjects ms k.valid
  issuer_expected k issuer = if_yes (is_issuer ms k.valid) (subjects ms k.valid) k.expected (is_issuer_of ms k.valid issuer)

  other_expected : (k : Entry) → (IsIssuer ms k.valid → ⊥) → (mapped_entry ms k).expected ≡ k.expected
  other_expected k other = if_no (is_issuer ms k.valid) (subjects ms k.valid) k.expected (is_false (is_issuer ms k.valid) (λ h. other (issuer_is ms k.valid h)))

  -- what an entry of a mapped policy expects
  mapped_expected : (e : Entry) → Source e → IsIssuer ms e.valid → e.expected ≡ subjects ms e.valid
  mapped_expected e (inl (k, is, same)) issuer =
      subst (λ (j : Entry). IsIssuer ms j.valid → j.expected ≡ subjects ms j.valid) same (λ i. issuer_expected k i) issuer
  mapped_expected e (inr (p, i, same, free, at)) issuer = subst (λ (j : Entry). j.expected ≡ subjects ms j.valid) same refl

  lead_of : (u : Policy) (e : Entry) → Source e → In u e.parents → LeadsTo level u e.valid ⊎ (IsIssuer ms e.valid × (IsAt level e.valid → ⊥) × LeadsTo level u any_policy)
  lead_of u e (inl (k, is, same)) by =
      let old : In u k.parents = subst (In u) (sym (ap (λ (j : Entry). j.parents) same)) by in
      inl (k, is, ap (λ (j : Entry). j.valid) same, old)
  lead_of u e (inr (p, issuer, same, free, at)) by =
      let v = ap (λ (j : Entry). j.valid) same in
      let any : In u (parents_of_any level) = subst (In u) (sym (ap (λ (j : Entry). j.parents) same)) by in
      inr (subst (IsIssuer ms) v issuer, (λ there. free (subst (IsAt level) (sym v) there)), in_parents u any)

  new_lead : (u v : Policy) → (IsAt level v → ⊥) → LeadsTo level u any_policy → (e : Entry) → e.valid ≡ v → Source e → In u e.parents
  new_lead u v free by e same (inl (k, is, made)) = absurd (free (k, is, ap (λ (j : Entry). j.valid) made ∙ same))
  new_lead u v free by e same (inr (p, issuer, made, none_there, at)) = subst (λ (j : Entry). In u j.parents) made (parents_in u by)

  other_expects : (v x : Policy) → (IsIssuer ms v → ⊥) → (e : Entry) → e.valid ≡ v → In x e.expected → Source e → Expects level v x
  other_expects v x other e same ex (inl (k, is, made)) =
      let valid = ap (λ (j : Entry). j.valid) made ∙ same in
      let own : In x (mapped_entry ms k).expected = subst (λ (j : Entry). In x j.expected) (sym made) ex in
      (k, is, valid, subst (In x) (other_expected k (λ i. other (subst (IsIssuer ms) valid i))) own)
  other_expects v x other e same ex (inr (p, issuer, made, free, at)) = absurd (other (subst (IsIssuer ms) (ap (λ (j : Entry). j.valid) made ∙ same) issuer))

  mapped_follows : (e : Entry) → In e Mapped → Source e → (u : Policy) × LeadsTo Mapped u e.valid
  mapped_follows e there (inl (k, is, made)) =
      let (u, (j, on, same, by)) = follows k.valid (k, is, refl) in
      (u, (mapped_entry ms j, old_there (is_at level any_policy) j on, same ∙ ap (λ (i : Entry). i.valid) made, by))
  mapped_follows e there (inr (p, issuer, made, free, at)) =
      let (u, by) = follows any_policy at in
      (u, (e, there, refl, subst (λ (j : Entry). In u j.parents) made (parents_in u by)))

  pub mapped_right : IsMapped ms level Mapped
  mapped_right = record {
    leads = λ u v. (
      (λ (e, is, same, by). subst (λ w. LeadsTo level u w ⊎ (IsIssuer ms w × (IsAt level w → ⊥) × LeadsTo level u any_policy)) same (lead_of u e (source_of e is) by)),
      (elim [
        | inl (k, is, same, by) ↦ (mapped_entry ms k, old_there (is_at level any_policy) k is, same, by)
        | inr (issuer, free, by) ↦
            let (k, on, named, from) = by in
            let (e, is, same) = new_there (is_at level any_policy) refl v issuer (k, on, named) in
            (e, is, same, new_lead u v free by e same (source_of e is))
      ]),
    );
    expects_mapped = λ v x issuer. (
      (λ (e, is, same, ex). ((e, is, same), subst (λ w. In x (subjects ms w)) same (subst (In x) (mapped_expected e (source_of e is) (subst (IsIssuer ms) (sym same) issuer)) ex))),
      (λ ((e, is, same), ex). (e, is, same, subst (In x) (sym (mapped_expected e (source_of e is) (subst (IsIssuer ms) (sym same) issuer))) (subst (λ w. In x (subjects ms w)) (sym same) ex))),
    );
    expects_other = λ v x other. (
      (λ (e, is, same, ex). other_expects v x other e same ex (source_of e is)),
      (λ (k, is, same, ex). (mapped_entry ms k, old_there (is_at level any_policy) k is, same, subst (In x) (sym (other_expected k (λ i. other (subst (IsIssuer ms) same i)))) ex)),
    );
    follows = λ v (e, is, same). subst (λ w. (u : Policy) × LeadsTo Mapped u w) same (mapped_follows e is (source_of e is));
  }

pub prepared_right : (ms : List Mapping) (b : Bool) (level : Level) → ((v : Policy) → IsAt level v → (u : Policy) × LeadsTo level u v) → IsPrepared ms b level (prepared_level ms b level)
prepared_right ms true level follows = left_unmapped ms level follows
prepared_right ms false level follows = mapped_right ms level follows
