-- The leaves of the tree and the levels say the same behind policy mappings (RFC 5280 6.1.4 (b)).
use Rattle.std.proofs.Common.{◌≡◌, ◌∙◌, ◌⊎◌, inl, inr, ℕ, Bool, true, false, cond, if◌then◌else◌, List, [], ◌∷◌, ◌++◌, refl, sym, ap, subst}
use Rattle.std.specs.List.{flat_map}
use Rattle.x509_policy.specs.Values.{Policy, any_policy, is_any, has, Mapping}
use Rattle.x509_policy.specs.Tree.{Nodes, none, node, has_node, subjects, replaced, expecting, beside_any, without, mapped_one, mapped, unmapped, pruned}
use Rattle.x509_policy.specs.Leaves.{Leaf, first_of_way, leaves, some_has_policy}
use Rattle.x509_policy.specs.Levels.{In, IsIssuer}
use Rattle.x509_policy.proofs.Leaves.{way_of_any, way_of_other, Replaces, leaves-replaced, leaves-pruned, has_node-leaves}
use Rattle.x509_policy.proofs.Ends.{is_any-any, is_any-same, has_one, has_itself}
use Rattle.x509_policy.proofs.Members.{In-flat_map, flat_map-In, any_In, In_any, is_false, not_both}

-- ---- lists of leaves

abbrev pub to_expecting : Policy → List Policy → Leaf → List Leaf
to_expecting id to l = record { first = l.first; valid = l.valid; expected = if has (l.valid ∷ []) id then to else l.expected } ∷ []

abbrev pub to_beside : Policy → List Policy → Leaf → List Leaf
to_beside id to l = if is_any l.valid then record { first = first_of_way l.first id; valid = id; expected = to } ∷ l ∷ [] else l ∷ []

abbrev pub to_without : Policy → Leaf → List Leaf
to_without id l = if has (l.valid ∷ []) id then [] else l ∷ []

expecting-replaces : (id : Policy) (to : List Policy) → Replaces (expecting id to) (to_expecting id to)
expecting-replaces id to above v e s = refl

pub way_through_any : (above v id : Policy) (b : Bool) → is_any above ≡ b → is_any v ≡ true → first_of_way (first_of_way above v) id ≡ first_of_way above id
way_through_any above v id true is any = ap (λ q. first_of_way q id) (way_of_any above v is) ∙ (way_of_any v id any ∙ sym (way_of_any above id is))
way_through_any above v id false is any = ap (λ q. first_of_way q id) (way_of_other above v is)

beside-case : (id : Policy) (to : List Policy) (above v : Policy) (e : List Policy) (s : Nodes) (b : Bool) → is_any v ≡ b
    → leaves 0 above (cond b (node id to none (node v e none s)) (node v e none s))
    ≡ cond b (record { first = first_of_way (first_of_way above v) id; valid = id; expected = to } ∷ record { first = first_of_way above v; valid = v; expected = e } ∷ []) (record { first = first_of_way above v; valid = v; expected = e } ∷ []) ++ leaves 0 above s
beside-case id to above v e s true any =
    ap (λ q. record { first = q; valid = id; expected = to } ∷ record { first = first_of_way above v; valid = v; expected = e } ∷ leaves 0 above s) (sym (way_through_any above v id (is_any above) refl any))
beside-case id to above v e s false other = refl

beside-replaces : (id : Policy) (to : List Policy) → Replaces (beside_any id to) (to_beside id to)
beside-replaces id to above v e s = beside-case id to above v e s (is_any v) refl

without-case : (above v : Policy) (e : List Policy) (s : Nodes) (b : Bool)
    → leaves 0 above (cond b s (node v e none s)) ≡ cond b [] (record { first = first_of_way above v; valid = v; expected = e } ∷ []) ++ leaves 0 above s
without-case above v e s true = refl
without-case above v e s false = refl

without-replaces : (id : Policy) → Replaces (without id) (to_without id)
without-replaces id above v e s = without-case above v e s (has (v ∷ []) id)

abbrev pub one_mapped : Policy → List Policy → List Leaf → List Leaf
one_mapped id to ls = if some_has_policy id ls then flat_map (to_expecting id to) ls else flat_map (to_beside id to) ls

abbrev pub leaves_mapped : List Mapping → List Mapping → List Leaf → List Leaf
leaves_mapped all [] ls = ls
leaves_mapped all (m ∷ ms) ls = leaves_mapped all ms (one_mapped m.issuer_domain_policy (subjects all m.issuer_domain_policy) ls)

abbrev pub leaves_unmapped : List Mapping → List Leaf → List Leaf
leaves_unmapped [] ls = ls
leaves_unmapped (m ∷ ms) ls = leaves_unmapped ms (flat_map (to_without m.issuer_domain_policy) ls)

one-case : (depth : ℕ) (above id : Policy) (to : List Policy) (tree : Nodes) (b : Bool)
    → leaves depth above (cond b (replaced depth (expecting id to) tree) (replaced depth (beside_any id to) tree))
    ≡ cond b (flat_map (to_expecting id to) (leaves depth above tree)) (flat_map (to_beside id to) (leaves depth above tree))
one-case depth above id to tree true = leaves-replaced (expecting id to) (to_expecting id to) (expecting-replaces id to) depth above tree
one-case depth above id to tree false = leaves-replaced (beside_any id to) (to_beside id to) (beside-replaces id to) depth above tree

leaves-mapped_one : (depth : ℕ) (above id : Policy) (to : List Policy) (tree : Nodes) → leaves depth above (mapped_one depth id to tree) ≡ one_mapped id to (leaves depth above tree)
leaves-mapped_one depth above id to tree =
    let same = has_node-leaves id depth above tree in
    let ls = leaves depth above tree in
    one-case depth above id to tree (has_node depth id tree) ∙ ap (λ b. cond b (flat_map (to_expecting id to) ls) (flat_map (to_beside id to) ls)) same

pub leaves-mapped : (depth : ℕ) (above : Policy) (all ms : List Mapping) (tree : Nodes) → leaves depth above (mapped depth all ms tree) ≡ leaves_mapped all ms (leaves depth above tree)
leaves-mapped depth above all [] tree = refl
leaves-mapped depth above all (m ∷ ms) tree =
    let id = m.issuer_domain_policy in
    leaves-mapped depth above all ms (mapped_one depth id (subjects all id) tree) ∙ ap (leaves_mapped all ms) (leaves-mapped_one depth above id (subjects all id) tree)

pub leaves-unmapped : (depth : ℕ) (above : Policy) (ms : List Mapping) (tree : Nodes) → leaves depth above (unmapped depth ms tree) ≡ leaves_unmapped ms (leaves depth above tree)
leaves-unmapped depth above [] tree = refl
leaves-unmapped depth above (m ∷ ms) tree =
    let id = m.issuer_domain_policy in
    leaves-unmapped depth above ms (pruned depth (replaced depth (without id) tree))
    ∙ ap (leaves_unmapped ms) (leaves-pruned depth above (replaced depth (without id) tree) ∙ leaves-replaced (without id) (to_without id) (without-replaces id) depth above tree)

-- ---- which leaves there are behind one mapped policy

abbrev pub Mem : List Leaf → Policy → Policy → List Policy → Type 0
Mem ls r v e = In (record { first = r; valid = v; expected = e }) ls

abbrev pub Nowhere : List Leaf → Policy → Type 0
Nowhere ls v = (l : Leaf) → In l ls → l.valid ≡ v → ⊥

abbrev One : Policy → List Policy → List Leaf → Policy → Policy → List Policy → Type 0
One id to ls r v e =
    ((old : List Policy) × Mem ls r v old × (((v ≡ id) × (e ≡ to)) ⊎ ((v ≡ id → ⊥) × (e ≡ old))))
    ⊎ ((v ≡ id) × Nowhere ls id × ((w : Policy) × (old : List Policy) × Mem ls w any_policy old × (r ≡ first_of_way w id)) × (e ≡ to))

pub same_or_not : (v id : Policy) → (v ≡ id) ⊎ (v ≡ id → ⊥)
same_or_not v id = decide (has (v ∷ []) id) refl
  where
    decide : (b : Bool) → has (v ∷ []) id ≡ b → (v ≡ id) ⊎ (v ≡ id → ⊥)
    decide true h = inl (has_one v id h)
    decide false h = inr (λ e. not_both (has (v ∷ []) id) (subst (λ q. has (v ∷ []) q ≡ true) e (has_itself v)) h)

pub has_same : (v id : Policy) → v ≡ id → has (v ∷ []) id ≡ true
has_same v id e = subst (λ q. has (v ∷ []) q ≡ true) e (has_itself v)

pub has_other : (v id : Policy) → (v ≡ id → ⊥) → has (v ∷ []) id ≡ false
has_other v id h = is_false (has (v ∷ []) id) (λ k. h (has_one v id k))

nowhere : (ls : List Leaf) (id : Policy) → some_has_policy id ls ≡ false → Nowhere ls id
nowhere ls id h l is same = not_both (some_has_policy id ls) (In_any (λ (k : Leaf). has (k.valid ∷ []) id) l ls is (has_same l.valid id same)) h

somewhere : (ls : List Leaf) (id : Policy) → some_has_policy id ls ≡ true → Nowhere ls id → ⊥
somewhere ls id h nobody = let (l, is, t) = any_In (λ (k : Leaf). has (k.valid ∷ []) id) ls h in nobody l is (has_one l.valid id t)

if_true : {X : Type 0} (b : Bool) (x y : X) → b ≡ true → cond b x y ≡ x
if_true b x y h = ap (λ c. cond c x y) h

if_false : {X : Type 0} (b : Bool) (x y : X) → b ≡ false → cond b x y ≡ y
if_false b x y h = ap (λ c. cond c x y) h

module _ (id : Policy) (to : List Policy) (ls : List Leaf) where
  abbrev OneOf : Leaf → Type 0
  OneOf l = One id to ls l.first l.valid l.expected

  expecting_one : (k : Leaf) → In k ls → (b : (k.valid ≡ id) ⊎ (k.valid ≡ id → ⊥)) → (l : Leaf) → In l (to_expecting id to k) → OneOf l
  expecting_one k there (inl same) l (inr h) = absurd h
  expecting_one k there (inr other) l (inr h) = absurd h
  expecting_one k there (inl same) l (inl e) =
      subst OneOf e (inl (k.expected, there, inl (same, if_true (has (k.valid ∷ []) id) to k.expected (has_same k.valid id same))))
  expecting_one k there (inr other) l (inl e) =
      subst OneOf e (inl (k.expected, there, inr (other, if_false (has (k.valid ∷ []) id) to k.expected (has_other k.valid id other))))

  beside_one : Nowhere ls id → (k : Leaf) → In k ls → (b : Bool) → is_any k.valid ≡ b
      → (l : Leaf) → In l (cond b (record { first = first_of_way k.first id; valid = id; expected = to } ∷ k ∷ []) (k ∷ [])) → OneOf l
  beside_one nobody k there true any l (inl e) =
      let any_k : Mem ls k.first any_policy k.expected = subst (λ q. Mem ls k.first q k.expected) (is_any-same k.valid any) there in
      subst OneOf e (inr (refl, nobody, (k.first, k.expected, any_k, refl), refl))
  beside_one nobody k there true any l (inr (inl e)) = subst OneOf e (inl (k.expected, there, inr ((λ same. nobody k there same), refl)))
  beside_one nobody k there true any l (inr (inr h)) = absurd h
  beside_one nobody k there false any l (inl e) = subst OneOf e (inl (k.expected, there, inr ((λ same. nobody k there same), refl)))
  beside_one nobody k there false any l (inr h) = absurd h

  one_case : (b : Bool) → some_has_policy id ls ≡ b → (l : Leaf) → In l (cond b (flat_map (to_expecting id to) ls) (flat_map (to_beside id to) ls)) → OneOf l
  one_case true is l h =
      let (k, there, below) = In-flat_map (to_expecting id to) l ls h in
      expecting_one k there (same_or_not k.valid id) l below
  one_case false is l h =
      let (k, there, below) = In-flat_map (to_beside id to) l ls h in
      beside_one (nowhere ls id is) k there (is_any k.valid) refl l below

  pub In-one : (l : Leaf) → In l (one_mapped id to ls) → OneOf l
  In-one l h = one_case (some_has_policy id ls) refl l h

  abbrev Result : Bool → List Leaf
  Result b = cond b (flat_map (to_expecting id to) ls) (flat_map (to_beside id to) ls)

  expected_at : (r v : Policy) (e old : List Policy) → Mem ls r v old → e ≡ (if has (v ∷ []) id then to else old) → In (record { first = r; valid = v; expected = e }) (flat_map (to_expecting id to) ls)
  expected_at r v e old there is = flat_map-In (to_expecting id to) (record { first = r; valid = v; expected = e }) (record { first = r; valid = v; expected = old }) ls there
      (inl (ap (λ x. record { first = r; valid = v; expected = x }) (sym is)))

  itself_beside : (k : Leaf) (b : Bool) → In k (cond b (record { first = first_of_way k.first id; valid = id; expected = to } ∷ k ∷ []) (k ∷ []))
  itself_beside k true = inr (inl refl)
  itself_beside k false = inl refl

  one_back : (r v : Policy) (e : List Policy) (b : Bool) → some_has_policy id ls ≡ b → One id to ls r v e → In (record { first = r; valid = v; expected = e }) (Result b)
  one_back r v e true is (inl (old, there, inl (same, ex))) = expected_at r v e old there (ex ∙ sym (if_true (has (v ∷ []) id) to old (has_same v id same)))
  one_back r v e true is (inl (old, there, inr (other, ex))) = expected_at r v e old there (ex ∙ sym (if_false (has (v ∷ []) id) to old (has_other v id other)))
  one_back r v e true is (inr (same, nobody, more, ex)) = absurd (somewhere ls id is nobody)
  one_back r v e false is (inl (old, there, inl (same, ex))) = absurd (nowhere ls id is (record { first = r; valid = v; expected = old }) there same)
  one_back r v e false is (inl (old, there, inr (other, ex))) =
      let k : Leaf = record { first = r; valid = v; expected = e } in
      let is_there : In k ls = subst (λ x. Mem ls r v x) (sym ex) there in
      flat_map-In (to_beside id to) k k ls is_there (itself_beside k (is_any v))
  one_back r v e false is (inr (same, nobody, (w, old, there, from), ex)) =
      let k : Leaf = record { first = w; valid = any_policy; expected = old } in
      let new : Leaf = record { first = first_of_way w id; valid = id; expected = to } in
      let first_in : In new (to_beside id to k) = subst (λ ks. In new ks) (sym (if_true (is_any any_policy) (new ∷ k ∷ []) (k ∷ []) is_any-any)) (inl refl) in
      let found = flat_map-In (to_beside id to) new k ls there first_in in
      let a = subst (λ q. In (record { first = q; valid = id; expected = to }) (Result false)) (sym from) found in
      let b = subst (λ q. In (record { first = r; valid = q; expected = to }) (Result false)) (sym same) a in
      subst (λ q. In (record { first = r; valid = v; expected = q }) (Result false)) (sym ex) b

  pub one-In : (r v : Policy) (e : List Policy) → One id to ls r v e → In (record { first = r; valid = v; expected = e }) (one_mapped id to ls)
  one-In r v e h = one_back r v e (some_has_policy id ls) refl h

-- ---- behind all of them

pub issuer_or_not : (ms : List Mapping) (v : Policy) → IsIssuer ms v ⊎ (IsIssuer ms v → ⊥)
issuer_or_not [] v = inr (λ (m, is, same). is)
issuer_or_not (m ∷ ms) v = elim (same_or_not m.issuer_domain_policy v) [
  | inl same ↦ inl (m, inl refl, same)
  | inr other ↦ elim (issuer_or_not ms v) [
    | inl (k, is, same) ↦ inl (k, inr is, same)
    | inr not_there ↦ inr (λ (k, is, same). elim is [ inl e ↦ other (subst (λ (j : Mapping). j.issuer_domain_policy ≡ v) (sym e) same) | inr there ↦ not_there (k, there, same) ])
  ]
]

issuer_later : (m : Mapping) (ms : List Mapping) (v : Policy) → IsIssuer ms v → IsIssuer (m ∷ ms) v
issuer_later m ms v (k, is, same) = (k, inr is, same)

issuer_first : (m : Mapping) (ms : List Mapping) (v : Policy) → v ≡ m.issuer_domain_policy → IsIssuer (m ∷ ms) v
issuer_first m ms v same = (m, inl refl, sym same)

issuer_cases : (m : Mapping) (ms : List Mapping) (v : Policy) → IsIssuer (m ∷ ms) v → (v ≡ m.issuer_domain_policy) ⊎ IsIssuer ms v
issuer_cases m ms v (k, inl e, same) = inl (sym (ap (λ (j : Mapping). j.issuer_domain_policy) e ∙ same))
issuer_cases m ms v (k, inr is, same) = inr (k, is, same)

-- no mapping is from any-policy
abbrev pub NoneFromAny : List Mapping → Type 0
NoneFromAny ms = IsIssuer ms any_policy → ⊥

abbrev pub Behind : List Mapping → List Mapping → List Leaf → Policy → Policy → List Policy → Type 0
Behind all ms ls r v e =
    ((old : List Policy) × Mem ls r v old × ((IsIssuer ms v × (e ≡ subjects all v)) ⊎ ((IsIssuer ms v → ⊥) × (e ≡ old))))
    ⊎ (IsIssuer ms v × Nowhere ls v × ((w : Policy) × (old : List Policy) × Mem ls w any_policy old × (r ≡ first_of_way w v)) × (e ≡ subjects all v))

module _ (all : List Mapping) where
  -- the first mapping, and then the others
  module _ (m : Mapping) (ms : List Mapping) (free : NoneFromAny (m ∷ ms)) (ls : List Leaf) where
    abbrev Id : Policy
    Id = m.issuer_domain_policy

    abbrev To : List Policy
    To = subjects all m.issuer_domain_policy

    abbrev Then : List Leaf
    Then = one_mapped m.issuer_domain_policy (subjects all m.issuer_domain_policy) ls

    to_same : (v : Policy) (e : List Policy) → v ≡ Id → e ≡ To → e ≡ subjects all v
    to_same v e same is = is ∙ ap (subjects all) (sym same)

    any_other : any_policy ≡ Id → ⊥
    any_other same = free (issuer_first m ms any_policy same)

    old_any : (w : Policy) (x : List Policy) → Mem Then w any_policy x → (old : List Policy) × Mem ls w any_policy old
    old_any w x h = elim (In-one Id To ls (record { first = w; valid = any_policy; expected = x }) h) [
      | inl (old, there, why) ↦ (old, there)
      | inr (same, nobody, more, ex) ↦ absurd (any_other same)
    ]

    still_there : (v r : Policy) (old : List Policy) → Mem ls r v old → (x : List Policy) × Mem Then r v x × (((v ≡ Id) × (x ≡ To)) ⊎ ((v ≡ Id → ⊥) × (x ≡ old)))
    still_there v r old there = elim (same_or_not v Id) [
      | inl same ↦ (To, one-In Id To ls r v To (inl (old, there, inl (same, refl))), inl (same, refl))
      | inr other ↦ (old, one-In Id To ls r v old (inl (old, there, inr (other, refl))), inr (other, refl))
    ]

    nowhere_before : (v : Policy) → Nowhere Then v → Nowhere ls v
    nowhere_before v nobody l there same =
        let (x, is, why) = still_there l.valid l.first l.expected there in
        nobody (record { first = l.first; valid = l.valid; expected = x }) is same

    nowhere_then : (v : Policy) → (v ≡ Id → ⊥) → Nowhere ls v → Nowhere Then v
    nowhere_then v other nobody l there same = elim (In-one Id To ls l there) [
      | inl (old, is, why) ↦ nobody (record { first = l.first; valid = l.valid; expected = old }) is same
      | inr (here, none_there, more, ex) ↦ other (sym same ∙ here)
    ]

    forth : (r v : Policy) (e : List Policy) → Behind all ms Then r v e → Behind all (m ∷ ms) ls r v e
    forth r v e (inl (x, there, why)) = elim (In-one Id To ls (record { first = r; valid = v; expected = x }) there) [
      | inl (old, is, inl (same, ex)) ↦ inl (old, is, inl (issuer_first m ms v same, elim why [ inl (issuer, mapped) ↦ mapped | inr (other, kept) ↦ to_same v e same (kept ∙ ex) ]))
      | inl (old, is, inr (differs, ex)) ↦ elim why [
        | inl (issuer, mapped) ↦ inl (old, is, inl (issuer_later m ms v issuer, mapped))
        | inr (other, kept) ↦ inl (old, is, inr ((λ issuer. elim (issuer_cases m ms v issuer) [ inl same ↦ differs same | inr later ↦ other later ]), kept ∙ ex))
      ]
      | inr (same, nobody, (w, old, is, from), ex) ↦ inr (issuer_first m ms v same, (λ l h s. nobody l h (s ∙ same)), (w, old, is, from ∙ ap (first_of_way w) (sym same)), elim why [ inl (issuer, mapped) ↦ mapped | inr (other, kept) ↦ to_same v e same (kept ∙ ex) ])
    ]
    forth r v e (inr (issuer, nobody, (w, x, there, from), ex)) = let (old, is) = old_any w x there in inr (issuer_later m ms v issuer, nowhere_before v nobody, (w, old, is, from), ex)

    back : (r v : Policy) (e : List Policy) → Behind all (m ∷ ms) ls r v e → Behind all ms Then r v e
    back r v e (inl (old, there, inl (issuer, ex))) =
        let (x, is, why) = still_there v r old there in
        elim (issuer_or_not ms v) [
          | inl later ↦ inl (x, is, inl (later, ex))
          | inr never ↦ inl (x, is, inr (never, elim why [ inl (same, to) ↦ ex ∙ sym (to_same v x same to) | inr (differs, kept) ↦ absurd (elim (issuer_cases m ms v issuer) [ inl same ↦ differs same | inr later ↦ never later ]) ]))
        ]
    back r v e (inl (old, there, inr (other, ex))) =
        let (x, is, why) = still_there v r old there in
        inl (x, is, inr ((λ later. other (issuer_later m ms v later)), elim why [ inl (same, to) ↦ absurd (other (issuer_first m ms v same)) | inr (differs, kept) ↦ ex ∙ sym kept ]))
    back r v e (inr (issuer, nobody, (w, old, there, from), ex)) = elim (same_or_not v Id) [
      | inl same ↦
          let new = one-In Id To ls r v To (inr (same, (λ l h s. nobody l h (s ∙ sym same)), (w, old, there, from ∙ ap (first_of_way w) same), refl)) in
          elim (issuer_or_not ms v) [ inl later ↦ inl (To, new, inl (later, ex)) | inr never ↦ inl (To, new, inr (never, ex ∙ ap (subjects all) same)) ]
      | inr differs ↦
          let later : IsIssuer ms v = elim (issuer_cases m ms v issuer) [ inl same ↦ absurd (differs same) | inr later ↦ later ] in
          inr (later, nowhere_then v differs nobody, (w, old, one-In Id To ls w any_policy old (inl (old, there, inr (any_other, refl))), from), ex)
    ]

  free_later : (m : Mapping) (ms : List Mapping) → NoneFromAny (m ∷ ms) → NoneFromAny ms
  free_later m ms free issuer = free (issuer_later m ms any_policy issuer)

  pub In-mapped : (ms : List Mapping) → NoneFromAny ms → (ls : List Leaf) (r v : Policy) (e : List Policy) → Mem (leaves_mapped all ms ls) r v e → Behind all ms ls r v e
  In-mapped [] free ls r v e h = inl (e, h, inr ((λ (m, is, same). is), refl))
  In-mapped (m ∷ ms) free ls r v e h = forth m ms free ls r v e (In-mapped ms (free_later m ms free) (one_mapped m.issuer_domain_policy (subjects all m.issuer_domain_policy) ls) r v e h)

  pub mapped-In : (ms : List Mapping) → NoneFromAny ms → (ls : List Leaf) (r v : Policy) (e : List Policy) → Behind all ms ls r v e → Mem (leaves_mapped all ms ls) r v e
  mapped-In [] free ls r v e (inl (old, there, inl ((m, is, same), ex))) = absurd is
  mapped-In [] free ls r v e (inl (old, there, inr (other, ex))) = subst (λ x. Mem ls r v x) (sym ex) there
  mapped-In [] free ls r v e (inr ((m, is, same), nobody, more, ex)) = absurd is
  mapped-In (m ∷ ms) free ls r v e h = mapped-In ms (free_later m ms free) (one_mapped m.issuer_domain_policy (subjects all m.issuer_domain_policy) ls) r v e (back m ms free ls r v e h)

-- ---- behind deletion

without_cases : (id : Policy) (k l : Leaf) (b : Bool) → has (k.valid ∷ []) id ≡ b → In l (cond b [] (k ∷ [])) → (k ≡ l) × (k.valid ≡ id → ⊥)
without_cases id k l true is h = absurd h
without_cases id k l false is (inl e) = (e, λ same. not_both (has (k.valid ∷ []) id) (has_same k.valid id same) is)
without_cases id k l false is (inr h) = absurd h

pub In-unmapped : (ms : List Mapping) (ls : List Leaf) (l : Leaf) → In l (leaves_unmapped ms ls) → In l ls × (IsIssuer ms l.valid → ⊥)
In-unmapped [] ls l h = (h, λ (m, is, same). is)
In-unmapped (m ∷ ms) ls l h =
    let id = m.issuer_domain_policy in
    let (is, later) = In-unmapped ms (flat_map (to_without id) ls) l h in
    let (k, there, below) = In-flat_map (to_without id) l ls is in
    let (same, other) = without_cases id k l (has (k.valid ∷ []) id) refl below in
    (subst (λ j. In j ls) same there, λ issuer. elim (issuer_cases m ms l.valid issuer) [ inl here ↦ other (ap (λ (j : Leaf). j.valid) same ∙ here) | inr more ↦ later more ])

pub unmapped-In : (ms : List Mapping) (ls : List Leaf) (l : Leaf) → In l ls → (IsIssuer ms l.valid → ⊥) → In l (leaves_unmapped ms ls)
unmapped-In [] ls l h other = h
unmapped-In (m ∷ ms) ls l h other =
    let id = m.issuer_domain_policy in
    let apart : l.valid ≡ id → ⊥ = λ same. other (issuer_first m ms l.valid same) in
    let here : In l (to_without id l) = subst (λ ks. In l ks) (sym (if_false (has (l.valid ∷ []) id) [] (l ∷ []) (has_other l.valid id apart))) (inl refl) in
    unmapped-In ms (flat_map (to_without id) ls) l (flat_map-In (to_without id) l l ls h here) (λ issuer. other (issuer_later m ms l.valid issuer))
