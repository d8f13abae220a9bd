-- The leaves of the tree and the levels say the same, at the start and behind 6.1.3 (d), (e).
use Rattle.std.proofs.Common.{◌≡◌, ◌∙◌, ◌↔◌, ◌⊎◌, inl, inr, Bool, true, false, not, ◌&&◌, ◌||◌, if◌then◌else◌, List, [], ◌∷◌, refl, sym, ap, subst}
use Rattle.std.specs.List.{flat_map}
use Rattle.x509_policy.specs.Values.{Policy, any_policy, is_any, has}
use Rattle.x509_policy.specs.Tree.{Nodes, initial_tree, child, named_children, other_children, children_of}
use Rattle.x509_policy.specs.Leaves.{Leaf, first_of_way, leaves, some_expects}
use Rattle.x509_policy.specs.Levels.{In, Entry, Level, IsAt, Expects, LeadsTo, initial_level, last_level, MayFollow, IsProcessed, Way}
use Rattle.x509_policy.proofs.Leaves.{way_of_any, way_of_other}
use Rattle.x509_policy.proofs.Ends.{is_any-any, is_any-same}
use Rattle.x509_policy.proofs.Members.{In-flat_map, flat_map-In, any_In, In_any, has-In, In-has, is_false, not_both, any_is, other_is, is_other, made, test, In-named, named-In, AreMade, In-others, old-In, others-In}

pub record Holds (ls : List Leaf) (levels : List Level) : Type 0 where
  pub to_way : (l : Leaf) → In l ls → Way levels l.first l.valid
  pub expects : (l : Leaf) → In l ls → (x : Policy) → In x l.expected ↔ Expects (last_level levels) l.valid x
  pub to_leaf : (r v : Policy) → Way levels r v → (e : List Policy) × In (record { first = r; valid = v; expected = e }) ls
  pub reached : (v : Policy) → IsAt (last_level levels) v → (r : Policy) × Way levels r v
  pub any_expected : (v : Policy) → Expects (last_level levels) v any_policy → v ≡ any_policy
  pub any_first : (r v : Policy) → Way levels r v → (r ≡ any_policy) ↔ (v ≡ any_policy)

pub at_of_expects : (level : Level) (v x : Policy) → Expects level v x → IsAt level v
at_of_expects level v x (e, is, same, ex) = (e, is, same)

pub at_of_leads : (level : Level) (u v : Policy) → LeadsTo level u v → IsAt level v
at_of_leads level u v (e, is, same, from) = (e, is, same)

pub way_at : (levels : List Level) (r v : Policy) → Way levels r v → IsAt (last_level levels) v
way_at [] r v (first, any) = (record { valid = any_policy; expected = any_policy ∷ []; parents = [] }, inl refl, sym any)
way_at (level ∷ levels) r v (u, w, way, lead, from) = at_of_leads level u v lead

pub first_any : (w v : Policy) (b : Bool) → is_any w ≡ b → first_of_way w v ≡ any_policy → v ≡ any_policy
first_any w v true is e = sym (way_of_any w v is) ∙ e
first_any w v false is e = absurd (is_other w is (sym (way_of_other w v is) ∙ e))

-- ---- the root

any_on : first_of_way any_policy any_policy ≡ any_policy
any_on = way_of_any any_policy any_policy is_any-any

pub start : Holds (leaves 0 any_policy initial_tree) []
start = record {
  to_way = λ l. elim [ inl e ↦ (sym (ap (λ (k : Leaf). k.first) e) ∙ any_on, sym (ap (λ (k : Leaf). k.valid) e)) | inr h ↦ absurd h ];
  expects = λ l. elim [ inl e ↦ λ x. subst (λ (k : Leaf). In x k.expected ↔ Expects initial_level k.valid x) e (root x) | inr h ↦ absurd h ];
  to_leaf = λ r v (first, any). (any_policy ∷ [], subst (λ q. In (record { first = q; valid = v; expected = any_policy ∷ [] }) (leaves 0 any_policy initial_tree)) (sym first) (subst (λ q. In (record { first = any_policy; valid = q; expected = any_policy ∷ [] }) (leaves 0 any_policy initial_tree)) (sym any) (inl (ap (λ q. record { first = q; valid = any_policy; expected = any_policy ∷ [] }) any_on))));
  reached = λ v (e, is, same). elim is [ inl here ↦ (any_policy, (refl, sym same ∙ sym (ap (λ (k : Entry). k.valid) here))) | inr h ↦ absurd h ];
  any_expected = λ v (e, is, same, ex). elim is [ inl here ↦ sym same ∙ sym (ap (λ (k : Entry). k.valid) here) | inr h ↦ absurd h ];
  any_first = λ r v (first, any). ((λ h. any), (λ h. first));
}
  where
    root : (x : Policy) → In x (any_policy ∷ []) ↔ Expects initial_level any_policy x
    root x = (
      (λ h. (record { valid = any_policy; expected = any_policy ∷ []; parents = [] }, inl refl, refl, h)),
      (λ (e, is, same, ex). elim is [ inl here ↦ subst (λ (k : Entry). In x k.expected) (sym here) ex | inr h ↦ absurd h ]),
    )

-- ---- children of one leaf

abbrev pub Child : (Policy → Bool) → List Policy → Bool → Policy → List Policy → Policy → Type 0
Child matched policies others v e q =
    (In q policies × (q ≡ any_policy → ⊥) × (In q e ⊎ ((matched q ≡ false) × (v ≡ any_policy))))
    ⊎ ((others ≡ true) × In any_policy policies × In q e)

test_true : (a b m c : Bool) → (not a && (b || (not m && c))) ≡ true → (a ≡ false) × ((b ≡ true) ⊎ ((m ≡ false) × (c ≡ true)))
test_true true b m c h = cc
test_true false true m c h = (refl, inl refl)
test_true false false true c h = cc
test_true false false false c h = (refl, inr (refl, h))

true_test : (a b m c : Bool) → a ≡ false → (b ≡ true) ⊎ ((m ≡ false) × (c ≡ true)) → (not a && (b || (not m && c))) ≡ true
true_test true b m c f h = cc
true_test false true m c f h = refl
true_test false false m c f (inl h) = cc
true_test false false true c f (inr h) = let (g, k) = h in cc
true_test false false false c f (inr h) = h.1

both_true : (a b : Bool) → (a && b) ≡ true → (a ≡ true) × (b ≡ true)
both_true true b h = (refl, h)
both_true false b h = cc

true_both : (a b : Bool) → a ≡ true → b ≡ true → (a && b) ≡ true
true_both true b h k = k
true_both false b h k = cc

module _ (matched : Policy → Bool) (policies : List Policy) (others : Bool) (v : Policy) (e : List Policy) (f : Policy) where
  abbrev Named : Nodes
  Named = named_children matched v e policies

  named_child : (q : Policy) → In q policies → test matched v e f q ≡ true → Child matched policies others v e q
  named_child q is t =
      let (other, why) = test_true (is_any q) (has e q) (matched q) (is_any v) t in
      inl (is, is_other q other, elim why [ inl expects ↦ inl (has-In q e expects) | inr (free, any) ↦ inr (free, is_any-same v any) ])

  choice-In : (l : Leaf) (b : Bool) → b ≡ (others && has policies any_policy) → In l (leaves 0 f (if b then other_children e Named else Named)) → (q : Policy) × (made f q ≡ l) × Child matched policies others v e q
  choice-In l true is h = elim (In-others f l Named e h) [
    | inl (q, same, ex) ↦ let (o, any) = both_true others (has policies any_policy) (sym is) in (q, same, inr (o, has-In any_policy policies any, ex))
    | inr old ↦ let (q, same, there, t) = In-named matched v e f l policies old in (q, same, named_child q there t)
  ]
  choice-In l false is h = let (q, same, there, t) = In-named matched v e f l policies h in (q, same, named_child q there t)

  pub In-children : (l : Leaf) → In l (leaves 0 f (children_of matched policies others v e)) → (q : Policy) × (made f q ≡ l) × Child matched policies others v e q
  In-children l h = choice-In l (others && has policies any_policy) refl h

  named-made : AreMade f Named
  named-made l h = let (q, same, there, t) = In-named matched v e f l policies h in subst (λ m. made f m.valid ≡ m) same refl

  In-choice : (q : Policy) (b : Bool) → b ≡ (others && has policies any_policy) → Child matched policies others v e q → In (made f q) (leaves 0 f (if b then other_children e Named else Named))
  In-choice q true is (inl (there, other, why)) = old-In f (made f q) Named e (named-In matched v e f q policies there (true_test (is_any q) (has e q) (matched q) (is_any v) (other_is q other) (elim why [ inl ex ↦ inl (In-has q e ex) | inr (free, any) ↦ inr (free, any_is v any) ])))
  In-choice q true is (inr (o, any, ex)) = others-In f q Named e named-made ex
  In-choice q false is (inl (there, other, why)) = named-In matched v e f q policies there (true_test (is_any q) (has e q) (matched q) (is_any v) (other_is q other) (elim why [ inl ex ↦ inl (In-has q e ex) | inr (free, any) ↦ inr (free, any_is v any) ]))
  In-choice q false is (inr (o, any, ex)) = absurd (not_both (others && has policies any_policy) (true_both others (has policies any_policy) o (In-has any_policy policies any)) (sym is))

  pub children-In : (q : Policy) → Child matched policies others v e q → In (made f q) (leaves 0 f (children_of matched policies others v e))
  children-In q h = In-choice q (others && has policies any_policy) refl h

-- ---- 6.1.3 (d)

abbrev pub next_leaves : List Policy → Bool → List Leaf → List Leaf
next_leaves policies others ls = flat_map (λ l. leaves 0 l.first (children_of (λ p. some_expects p ls) policies others l.valid l.expected)) ls

module _ (ls : List Leaf) (levels : List Level) (holds : Holds ls levels) (policies : List Policy) (others : Bool) (level : Level) (is : IsProcessed policies others (last_level levels) level) where
  abbrev Last : Level
  Last = last_level levels

  abbrev Matched : Policy → Bool
  Matched p = some_expects p ls

  matched : (w p : Policy) → Expects Last w p → Matched p ≡ true
  matched w p ex =
      let (r, way) = holds.reached w (at_of_expects Last w p ex) in
      let (e, there) = holds.to_leaf r w way in
      let l : Leaf = record { first = r; valid = w; expected = e } in
      In_any (λ (k : Leaf). has k.expected p) l ls there (In-has p e ((holds.expects l there p).1 ex))

  free_of : (p : Policy) → ((w : Policy) → Expects Last w p → ⊥) → Matched p ≡ false
  free_of p nobody = is_false (Matched p) (λ m.
      let (l, there, t) = any_In (λ (k : Leaf). has k.expected p) ls m in
      nobody l.valid ((holds.expects l there p).0 (has-In p l.expected t)))

  follows : (l : Leaf) → In l ls → (q : Policy) → Child Matched policies others l.valid l.expected q → MayFollow policies others Last l.valid q
  follows l there q (inl (on, other, inl ex)) = inl (on, other, inl ((holds.expects l there q).0 ex))
  follows l there q (inl (on, other, inr (free, any))) = inl (on, other, inr (way_at levels l.first l.valid (holds.to_way l there), any, λ w ex. not_both (Matched q) (matched w q ex) free))
  follows l there q (inr (o, any, ex)) = inr (o, any, (holds.expects l there q).0 ex)

  child_of : (l : Leaf) → In l ls → (q : Policy) → MayFollow policies others Last l.valid q → Child Matched policies others l.valid l.expected q
  child_of l there q (inl (on, other, inl ex)) = inl (on, other, inl ((holds.expects l there q).1 ex))
  child_of l there q (inl (on, other, inr (at, any, nobody))) = inl (on, other, inr (free_of q nobody, any))
  child_of l there q (inr (o, any, ex)) = inr (o, any, (holds.expects l there q).1 ex)

  above_at : (u v : Policy) → MayFollow policies others Last u v → IsAt Last u
  above_at u v (inl (on, other, inl ex)) = at_of_expects Last u v ex
  above_at u v (inl (on, other, inr (at, any, nobody))) = at
  above_at u v (inr (o, any, ex)) = at_of_expects Last u v ex

  -- where a new leaf comes from
  record Origin (l : Leaf) : Type 0 where
    from : Leaf
    there : In from ls
    valid : Policy
    same : made from.first valid ≡ l
    lead : LeadsTo level from.valid valid

  origin : (l : Leaf) → In l (next_leaves policies others ls) → Origin l
  origin l h =
      let (from, there, below) = In-flat_map (λ (k : Leaf). leaves 0 k.first (children_of Matched policies others k.valid k.expected)) l ls h in
      let (q, same, child) = In-children Matched policies others from.valid from.expected from.first l below in
      record { from = from; there = there; valid = q; same = same; lead = (is.leads from.valid q).1 (follows from there q child) }

  new_way : (l : Leaf) → Origin l → Way (level ∷ levels) l.first l.valid
  new_way l o =
      let way : Way (level ∷ levels) (first_of_way o.from.first o.valid) o.valid = (o.from.valid, o.from.first, holds.to_way o.from o.there, o.lead, refl) in
      subst (λ (k : Leaf). Way (level ∷ levels) k.first k.valid) o.same way

  new_expects : (x : Policy) (l : Leaf) → Origin l → In x l.expected ↔ Expects level l.valid x
  new_expects x l o =
      let here : In x (o.valid ∷ []) ↔ Expects level o.valid x = (
        (elim [ inl e ↦ (is.expects o.valid x).1 (at_of_leads level o.from.valid o.valid o.lead, e) | inr h ↦ absurd h ]),
        (λ ex. inl ((is.expects o.valid x).0 ex).1),
      ) in
      subst (λ (k : Leaf). In x k.expected ↔ Expects level k.valid x) o.same here

  new_leaf : (r v : Policy) → Way (level ∷ levels) r v → (e : List Policy) × In (record { first = r; valid = v; expected = e }) (next_leaves policies others ls)
  new_leaf r v (u, w, way, lead, from) =
      let (e, there) = holds.to_leaf w u way in
      let l : Leaf = record { first = w; valid = u; expected = e } in
      let child = child_of l there v ((is.leads u v).0 lead) in
      let inside = children-In Matched policies others u e w v child in
      let found = flat_map-In (λ (k : Leaf). leaves 0 k.first (children_of Matched policies others k.valid k.expected)) (made w v) l ls there inside in
      (v ∷ [], subst (λ q. In (record { first = q; valid = v; expected = v ∷ [] }) (next_leaves policies others ls)) (sym from) found)

  new_reached : (v : Policy) → IsAt level v → (r : Policy) × Way (level ∷ levels) r v
  new_reached v at =
      let (u, lead) = is.follows v at in
      let (w, way) = holds.reached u (above_at u v ((is.leads u v).0 lead)) in
      (first_of_way w v, (u, w, way, lead, refl))

  any_from : (u v : Policy) → v ≡ any_policy → MayFollow policies others Last u v → u ≡ any_policy
  any_from u v any (inl (on, other, why)) = absurd (other any)
  any_from u v any (inr (o, on, ex)) = holds.any_expected u (subst (λ q. Expects Last u q) any ex)

  new_any : (r v : Policy) → Way (level ∷ levels) r v → (r ≡ any_policy) ↔ (v ≡ any_policy)
  new_any r v (u, w, way, lead, from) = (
    (λ e. first_any w v (is_any w) refl (sym from ∙ e)),
    (λ e. let above = (holds.any_first w u way).1 (any_from u v e ((is.leads u v).0 lead)) in from ∙ (way_of_any w v (any_is w above) ∙ e)),
  )

  pub processed_holds : Holds (next_leaves policies others ls) (level ∷ levels)
  processed_holds = record {
    to_way = λ l h. new_way l (origin l h);
    expects = λ l h x. new_expects x l (origin l h);
    to_leaf = new_leaf;
    reached = new_reached;
    any_expected = λ v ex. ((is.expects v any_policy).0 ex).1;
    any_first = new_any;
  }
