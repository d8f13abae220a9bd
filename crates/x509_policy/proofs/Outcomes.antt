-- What is answered by levels is the outcome of the valid policy tree.
use Rattle.std.proofs.Common.{◌≡◌, ◌∙◌, ◌↔◌, ◌⊎◌, inl, inr, ℕ, suc, ◌==◌, Bool, true, false, ◌&&◌, ◌||◌, cond, List, [], ◌∷◌, length, Option, Some, None, refl, sym, ap, subst}
use Rattle.std.specs.List.{flat_map}
use Rattle.std.proofs.lemmas.Bool.Decides.{Decides-eqb}
use Rattle.x509_policy.specs.Values.{Policy, any_policy, is_any, has, Mapping, maps_any_policy, Certificate, Settings}
use Rattle.x509_policy.specs.Tree.{Nodes, none, is_null, initial_tree, is_expected, children_of, with_children, pruned, subjects, mapped, unmapped}
use Rattle.x509_policy.specs.Path.{Counters, initial_counters, next_counters, last_explicit_policy, takes_others, processed, prepared, intersected, final_tree, policies_of, outcome_from, outcome, Outcome, Refused, Valid, Reason, RepeatedPolicy, MapsAnyPolicy, NoPolicy}
use Rattle.x509_policy.specs.Leaves.{Leaf, leaves, is_empty, some_expects}
use Rattle.x509_policy.specs.Levels.{In, Entry, Level, last_level, IsNext, IsPrepared, Way, Leads, IsConstrained, ByLevels, repeated, none_left, maps_any, goes_on, none_constrained, valid, Alike}
use Rattle.x509_policy.proofs.Leaves.{leaves-with_children, leaves-pruned, is_null-pruned, is_expected-leaves}
use Rattle.x509_policy.proofs.Members.{In_any, has-In, In-has, not_both, is_false, any_is, or_left, or_right}
use Rattle.x509_policy.proofs.Steps.{Holds, start, processed_holds}
use Rattle.x509_policy.proofs.Mappings.{leaves_mapped, leaves_unmapped, leaves-mapped, leaves-unmapped, NoneFromAny}
use Rattle.x509_policy.proofs.Prepared.{mapped_holds, unmapped_holds}
use Rattle.x509_policy.proofs.Constrained.{Led, AnyFirst, policies-led, led-policies, null-led, led-null, After, Placed, placed, after_firsts, after-asked, asked-after}

-- ---- 6.1.3 (d), (e)

-- a tree that is pruned, and whose leaves are as the levels say
pub record Tree (depth : ℕ) (levels : List Level) (tree : Nodes) : Type 0 where
  pub before : Nodes
  pub same : tree ≡ pruned depth before
  pub holds : Holds (leaves depth any_policy before) levels

-- without leaves, and without a level
nothing : (levels : List Level) → Holds [] ([] ∷ levels)
nothing levels = record {
  to_way = λ l h. absurd h;
  expects = λ l h. absurd h;
  to_leaf = λ r v (u, w, way, lead, from). absurd lead.1;
  reached = λ v at. absurd at.1;
  any_expected = λ v expects. absurd expects.1;
  any_first = λ r v (u, w, way, lead, from). absurd lead.1;
}

same_test : (depth : ℕ) (tree : Nodes) → ◌≡◌ {A = Policy → Bool} (λ p. is_expected depth p tree) (λ p. some_expects p (leaves depth any_policy tree))
same_test depth tree = λ i p. is_expected-leaves p depth any_policy tree i

pub processed_tree : (policies : Option (List Policy)) (others : Bool) (depth : ℕ) (tree : Nodes) (levels : List Level) (level : Level)
    → Holds (leaves depth any_policy tree) levels → IsNext policies others (last_level levels) level → Tree (suc depth) (level ∷ levels) (processed policies others depth tree)
processed_tree None others depth tree levels level holds next = record { before = none; same = refl; holds = subst (λ l. Holds [] (l ∷ levels)) (sym next) (nothing levels) }
processed_tree (Some policies) others depth tree levels level holds next =
    let make : (Policy → Bool) → Policy → List Policy → Nodes = λ test. children_of test policies others in
    let found = leaves-with_children (make (λ p. is_expected depth p tree)) depth any_policy tree
    ∙ ap (λ test. flat_map (λ (l : Leaf). leaves 0 l.first (make test l.valid l.expected)) (leaves depth any_policy tree)) (same_test depth tree) in
    record {
      before = with_children depth (make (λ p. is_expected depth p tree)) tree;
      same = refl;
      holds = subst (λ ls. Holds ls (level ∷ levels)) (sym found) (processed_holds (leaves depth any_policy tree) levels holds policies others level next);
    }

-- it is NULL where the level is empty
empty_level : (ls : List Leaf) (level : Level) (levels : List Level) → Holds ls (level ∷ levels) → is_empty ls ≡ true → level ≡ []
empty_level ls [] levels holds h = refl
empty_level ls (e ∷ level) levels holds h =
    let (r, way) = holds.reached e.valid (e, inl refl, refl) in
    let (x, is) = holds.to_leaf r e.valid way in
    absurd (some_leaf ls (record { first = r; valid = e.valid; expected = x }) is h)
  where
    some_leaf : (ls : List Leaf) (l : Leaf) → In l ls → is_empty ls ≡ true → ⊥
    some_leaf [] l is h = is
    some_leaf (k ∷ ls) l is h = not_both false h refl

level_empty : (ls : List Leaf) (level : Level) (levels : List Level) → Holds ls (level ∷ levels) → level ≡ [] → is_empty ls ≡ true
level_empty [] level levels holds h = refl
level_empty (l ∷ ls) level levels holds h =
    let (u, w, way, lead, from) = holds.to_way l (inl refl) in
    let (e, is, more) = subst (λ (k : Level). (e : Entry) × In e k × ((e.valid ≡ l.valid) × In u e.parents)) h (lead.0, lead.1, (lead.2, lead.3)) in
    absurd is

null_of : (depth : ℕ) (level : Level) (levels : List Level) (tree : Nodes) → Tree depth (level ∷ levels) tree → level ≡ [] → is_null tree ≡ true
null_of depth level levels tree t h = ap is_null t.same ∙ (is_null-pruned depth any_policy t.before ∙ level_empty (leaves depth any_policy t.before) level levels t.holds h)

of_null : (depth : ℕ) (level : Level) (levels : List Level) (tree : Nodes) → Tree depth (level ∷ levels) tree → is_null tree ≡ true → level ≡ []
of_null depth level levels tree t h = empty_level (leaves depth any_policy t.before) level levels t.holds (sym (is_null-pruned depth any_policy t.before) ∙ (ap is_null (sym t.same) ∙ h))

tree_leaves : (depth : ℕ) (levels : List Level) (tree : Nodes) → Tree depth levels tree → Holds (leaves depth any_policy tree) levels
tree_leaves depth levels tree t = subst (λ ls. Holds ls levels) (sym (leaves-pruned depth any_policy t.before) ∙ ap (leaves depth any_policy) (sym t.same)) t.holds

-- ---- 6.1.4 (b)

pub none_from : (ms : List Mapping) → maps_any_policy ms ≡ false → NoneFromAny ms
none_from ms h (m, is, same) =
    not_both (maps_any_policy ms) (In_any (λ (k : Mapping). is_any k.issuer_domain_policy || is_any k.subject_domain_policy) m ms is (or_left (is_any m.issuer_domain_policy) (is_any m.subject_domain_policy) (any_is m.issuer_domain_policy same))) h

subject_of : (p v : Policy) (m : Mapping) (rest : List Policy) (b : Bool) → In p (cond b (m.subject_domain_policy ∷ rest) rest) → (m.subject_domain_policy ≡ p) ⊎ In p rest
subject_of p v m rest true (inl e) = inl e
subject_of p v m rest true (inr h) = inr h
subject_of p v m rest false h = inr h

subjects_from : (p v : Policy) (ms : List Mapping) → In p (subjects ms v) → (m : Mapping) × In m ms × (m.subject_domain_policy ≡ p)
subjects_from p v [] h = absurd h
subjects_from p v (m ∷ ms) h = elim (subject_of p v m (subjects ms v) (has (m.issuer_domain_policy ∷ []) v) h) [
  | inl e ↦ (m, inl refl, e)
  | inr more ↦ let (k, is, same) = subjects_from p v ms more in (k, inr is, same)
]

pub none_to : (ms : List Mapping) → maps_any_policy ms ≡ false → (v : Policy) → In any_policy (subjects ms v) → ⊥
none_to ms h v there =
    let (m, is, same) = subjects_from any_policy v ms there in
    not_both (maps_any_policy ms) (In_any (λ (k : Mapping). is_any k.issuer_domain_policy || is_any k.subject_domain_policy) m ms is (or_right (is_any m.issuer_domain_policy) (is_any m.subject_domain_policy) (any_is m.subject_domain_policy same))) h

prepared-case : (ms : List Mapping) (b : Bool) (depth : ℕ) (tree : Nodes) (level left : Level) (levels : List Level) → maps_any_policy ms ≡ false
    → Holds (leaves depth any_policy tree) (level ∷ levels) → IsPrepared ms b level left
    → Holds (cond b (leaves_unmapped ms (leaves depth any_policy tree)) (leaves_mapped ms ms (leaves depth any_policy tree))) (left ∷ levels)
prepared-case ms true depth tree level left levels free holds is = unmapped_holds ms (leaves depth any_policy tree) level levels holds left is
prepared-case ms false depth tree level left levels free holds is = mapped_holds ms (leaves depth any_policy tree) level levels holds (none_from ms free) (none_to ms free) left is

prepared-leaves : (ms : List Mapping) (counter depth : ℕ) (tree : Nodes) (b : Bool) → (counter == 0) ≡ b
    → leaves depth any_policy (prepared ms counter depth tree) ≡ cond b (leaves_unmapped ms (leaves depth any_policy tree)) (leaves_mapped ms ms (leaves depth any_policy tree))
prepared-leaves ms counter depth tree true is = ap (λ b. leaves depth any_policy (cond b (unmapped depth ms tree) (mapped depth ms ms tree))) is ∙ leaves-unmapped depth any_policy ms tree
prepared-leaves ms counter depth tree false is = ap (λ b. leaves depth any_policy (cond b (unmapped depth ms tree) (mapped depth ms ms tree))) is ∙ leaves-mapped depth any_policy ms ms tree

pub prepared_tree : (ms : List Mapping) (counter depth : ℕ) (tree : Nodes) (level left : Level) (levels : List Level) → maps_any_policy ms ≡ false
    → Holds (leaves depth any_policy tree) (level ∷ levels) → IsPrepared ms (counter == 0) level left → Holds (leaves depth any_policy (prepared ms counter depth tree)) (left ∷ levels)
prepared_tree ms counter depth tree level left levels free holds is =
    subst (λ ls. Holds ls (left ∷ levels)) (sym (prepared-leaves ms counter depth tree (counter == 0) refl)) (prepared-case ms (counter == 0) depth tree level left levels free holds is)

-- ---- 6.1.5 (g)

module _ (ls : List Leaf) (levels : List Level) (holds : Holds ls levels) where
  leads-led : (p : Policy) → Leads levels p → Led ls p
  leads-led p (v, way) = let (e, is) = holds.to_leaf p v way in (record { first = p; valid = v; expected = e }, is, refl)

  led-leads : (p : Policy) → Led ls p → Leads levels p
  led-leads p (l, is, first) = (l.valid, subst (λ q. Way levels q l.valid) first (holds.to_way l is))

  firsts : AnyFirst ls
  firsts l is = holds.any_first l.first l.valid (holds.to_way l is)

pub record Ends (user : List Policy) (levels : List Level) (depth : ℕ) (final : Nodes) : Type 0 where
  pub policies : (p : Policy) → In p (policies_of depth final) ↔ IsConstrained user levels p
  pub null : is_null final ≡ true → (p : Policy) → IsConstrained user levels p → ⊥
  pub of_none : ((p : Policy) → IsConstrained user levels p → ⊥) → is_null final ≡ true

module _ (user : List Policy) (levels : List Level) (depth : ℕ) (before : Nodes) (holds : Holds (leaves depth any_policy before) levels) where
  abbrev Ls : List Leaf
  Ls = leaves depth any_policy before

  -- all that lead are asked for
  ends_all : In any_policy user → Ends user levels depth (pruned depth before)
  ends_all asks =
      let any_first = firsts Ls levels holds in
      let to : (p : Policy) → Led Ls p → IsConstrained user levels p = λ p led. inl (led-leads Ls levels holds p led, asks) in
      let from : (p : Policy) → IsConstrained user levels p → Led Ls p = λ p. elim [ inl (leads, any) ↦ leads-led Ls levels holds p leads | inr (asked, not_any, some) ↦ absurd (not_any asks) ] in
      record {
        policies = λ p. ((λ h. to p (policies-led depth before any_first p h)), (λ h. led-policies depth before any_first p (from p h)));
        null = λ h p c. null-led depth before any_first h p (from p c);
        of_none = λ nobody. led-null depth before any_first (λ p led. nobody p (to p led));
      }

  module _ (some : In any_policy user → ⊥) where
    any_before : AnyFirst Ls
    any_before = firsts Ls levels holds

    abbrev Tree_left : Nodes
    Tree_left = Placed user some depth before any_before

    abbrev Leaves_left : List Leaf
    Leaves_left = leaves depth any_policy (Placed user some depth before any_before)

    same_leaves : Leaves_left ≡ After user some depth before any_before
    same_leaves = placed user some depth before any_before

    any_left : AnyFirst Leaves_left
    any_left = subst AnyFirst (sym same_leaves) (after_firsts user some depth before any_before)

    to_some : (p : Policy) → Led Leaves_left p → IsConstrained user levels p
    to_some p led =
        let (asked, from) = after-asked user some depth before any_before p (subst (λ ls. Led ls p) same_leaves led) in
        inr (asked, some, elim from [ inl own ↦ inl (led-leads Ls levels holds p own) | inr any ↦ inr (led-leads Ls levels holds any_policy any) ])

    from_some : (p : Policy) → IsConstrained user levels p → Led Leaves_left p
    from_some p (inl (leads, any)) = absurd (some any)
    from_some p (inr (asked, not_any, from)) =
        subst (λ ls. Led ls p) (sym same_leaves) (asked-after user some depth before any_before p asked (elim from [ inl own ↦ inl (leads-led Ls levels holds p own) | inr any ↦ inr (leads-led Ls levels holds any_policy any) ]))

    ends_some : Ends user levels depth (intersected user depth (pruned depth before))
    ends_some = record {
      policies = λ p. ((λ h. to_some p (policies-led depth Tree_left any_left p h)), (λ h. led-policies depth Tree_left any_left p (from_some p h)));
      null = λ h p c. null-led depth Tree_left any_left h p (from_some p c);
      of_none = λ nobody. led-null depth Tree_left any_left (λ p led. nobody p (to_some p led));
    }

  ends-case : (b : Bool) → has user any_policy ≡ b → Ends user levels depth (cond b (pruned depth before) (intersected user depth (pruned depth before)))
  ends-case true is = ends_all (has-In any_policy user is)
  ends-case false is = ends_some (λ any. not_both (has user any_policy) (In-has any_policy user any) is)

  pub ends : Ends user levels depth (final_tree user depth (pruned depth before))
  ends = ends-case (has user any_policy) refl

pub tree_ends : (user : List Policy) (levels : List Level) (depth : ℕ) (tree : Nodes) → Tree depth levels tree → Ends user levels depth (final_tree user depth tree)
tree_ends user levels depth tree t = subst (λ k. Ends user levels depth (final_tree user depth k)) (sym t.same) (ends user levels depth t.before t.holds)

-- ---- a path

if_true : {X : Type 0} (b : Bool) (x y : X) → b ≡ true → cond b x y ≡ x
if_true b x y h = ap (λ c. cond c x y) h

if_false : {X : Type 0} (b : Bool) (x y : X) → b ≡ false → cond b x y ≡ y
if_false b x y h = ap (λ c. cond c x y) h

along : (x y out : Outcome) → x ≡ y → Alike out y → Alike out x
along x y out e h = subst (Alike out) (sym e) h

both : (a b : Bool) → a ≡ true → b ≡ true → (a && b) ≡ true
both true b h k = k
both false b h k = absurd (not_both false h refl)

parts : (a b : Bool) → (a && b) ≡ true → (a ≡ true) × (b ≡ true)
parts true b h = (refl, h)
parts false b h = absurd (not_both false h refl)

zero_true : (n : ℕ) → n ≡ 0 → (n == 0) ≡ true
zero_true n h = (Decides-eqb n 0).1 h

true_zero : (n : ℕ) → (n == 0) ≡ true → n ≡ 0
true_zero n h = (Decides-eqb n 0).0 h

refused : (depth : ℕ) (reason : Reason) → Alike (Refused depth reason) (Refused depth reason)
refused depth reason = (refl, refl)

none_is_left : (depth counter : ℕ) (level : Level) (levels : List Level) (tree : Nodes) → Tree depth (level ∷ levels) tree → counter ≡ 0 → level ≡ [] → (counter == 0 && is_null tree) ≡ true
none_is_left depth counter level levels tree t z e = both (counter == 0) (is_null tree) (zero_true counter z) (null_of depth level levels tree t e)

some_is_left : (depth counter : ℕ) (level : Level) (levels : List Level) (tree : Nodes) → Tree depth (level ∷ levels) tree → (counter ≡ 0 → level ≡ [] → ⊥) → (counter == 0 && is_null tree) ≡ false
some_is_left depth counter level levels tree t some = is_false (counter == 0 && is_null tree) (λ h.
    let (z, n) = parts (counter == 0) (is_null tree) h in
    some (true_zero counter z) (of_null depth level levels tree t n))

no_member : (ps : List Policy) → ((p : Policy) → In p ps → ⊥) → ps ≡ []
no_member [] nobody = refl
no_member (p ∷ ps) nobody = absurd (nobody p (inl refl))

module _ (settings : Settings) where
  abbrev User : List Policy
  User = settings.user_initial_policy_set

  pub by_levels : {depth : ℕ} {counters : Counters} {levels : List Level} {c : Certificate} {rest : List Certificate} {out : Outcome}
      → ByLevels settings depth counters levels c rest out → (tree : Nodes) → Holds (leaves depth any_policy tree) levels → Alike out (outcome_from settings depth counters tree c rest)
  by_levels {depth} {counters} {c} {rest = []} (repeated is) tree holds =
      let e : outcome_from settings depth counters tree c [] ≡ Refused depth RepeatedPolicy = if_true _ _ _ is in
      along _ _ (Refused depth RepeatedPolicy) e (refused depth RepeatedPolicy)
  by_levels {depth} {counters} {c} {rest = next ∷ rest} (repeated is) tree holds =
      let e : outcome_from settings depth counters tree c (next ∷ rest) ≡ Refused depth RepeatedPolicy = if_true _ _ _ is in
      along _ _ (Refused depth RepeatedPolicy) e (refused depth RepeatedPolicy)
  by_levels {depth} {counters} {levels} {c} {rest = []} (none_left once level next_level z empty) tree holds =
      let t = processed_tree c.policies (takes_others c true counters.inhibit_any_policy) depth tree levels level holds next_level in
      let none_there = none_is_left (suc depth) counters.explicit_policy level levels (processed c.policies (takes_others c true counters.inhibit_any_policy) depth tree) t z empty in
      let e : outcome_from settings depth counters tree c [] ≡ Refused depth NoPolicy = if_false _ _ _ once ∙ if_true _ _ _ none_there in
      along _ _ (Refused depth NoPolicy) e (refused depth NoPolicy)
  by_levels {depth} {counters} {levels} {c} {rest = next ∷ rest} (none_left once level next_level z empty) tree holds =
      let t = processed_tree c.policies (takes_others c false counters.inhibit_any_policy) depth tree levels level holds next_level in
      let none_there = none_is_left (suc depth) counters.explicit_policy level levels (processed c.policies (takes_others c false counters.inhibit_any_policy) depth tree) t z empty in
      let e : outcome_from settings depth counters tree c (next ∷ rest) ≡ Refused depth NoPolicy = if_false _ _ _ once ∙ if_true _ _ _ none_there in
      along _ _ (Refused depth NoPolicy) e (refused depth NoPolicy)
  by_levels {depth} {counters} {levels} {c} {rest = next ∷ rest} (maps_any once level next_level some any) tree holds =
      let t = processed_tree c.policies (takes_others c false counters.inhibit_any_policy) depth tree levels level holds next_level in
      let some_there = some_is_left (suc depth) counters.explicit_policy level levels (processed c.policies (takes_others c false counters.inhibit_any_policy) depth tree) t some in
      let e : outcome_from settings depth counters tree c (next ∷ rest) ≡ Refused depth MapsAnyPolicy = if_false _ _ _ once ∙ (if_false _ _ _ some_there ∙ if_true _ _ _ any) in
      along _ _ (Refused depth MapsAnyPolicy) e (refused depth MapsAnyPolicy)
  by_levels {depth} {counters} {levels} {c} {rest = next ∷ rest} {out} (goes_on once level next_level some free left prepared_level more) tree holds =
      let there = processed c.policies (takes_others c false counters.inhibit_any_policy) depth tree in
      let t = processed_tree c.policies (takes_others c false counters.inhibit_any_policy) depth tree levels level holds next_level in
      let some_there = some_is_left (suc depth) counters.explicit_policy level levels there t some in
      let below = prepared_tree c.mappings counters.policy_mapping (suc depth) there level left levels free (tree_leaves (suc depth) (level ∷ levels) there t) prepared_level in
      let behind = prepared c.mappings counters.policy_mapping (suc depth) there in
      let e : outcome_from settings depth counters tree c (next ∷ rest) ≡ outcome_from settings (suc depth) (next_counters c counters) behind next rest = if_false _ _ _ once ∙ (if_false _ _ _ some_there ∙ if_false _ _ _ free) in
      along _ _ out e (by_levels more behind below)
  by_levels {depth} {counters} {levels} {c} (none_constrained once level next_level some z nobody) tree holds =
      let there = processed c.policies (takes_others c true counters.inhibit_any_policy) depth tree in
      let t = processed_tree c.policies (takes_others c true counters.inhibit_any_policy) depth tree levels level holds next_level in
      let some_there = some_is_left (suc depth) counters.explicit_policy level levels there t some in
      let last = tree_ends User (level ∷ levels) (suc depth) there t in
      let zeros = both (last_explicit_policy c counters.explicit_policy == 0) (is_null (final_tree User (suc depth) there)) (zero_true (last_explicit_policy c counters.explicit_policy) z) (last.of_none nobody) in
      let e : outcome_from settings depth counters tree c [] ≡ Refused depth NoPolicy = if_false _ _ _ once ∙ (if_false _ _ _ some_there ∙ if_true _ _ _ zeros) in
      along _ _ (Refused depth NoPolicy) e (refused depth NoPolicy)
  by_levels {depth} {counters} {levels} {c} (valid once level next_level some policies same kept) tree holds =
      let there = processed c.policies (takes_others c true counters.inhibit_any_policy) depth tree in
      let t = processed_tree c.policies (takes_others c true counters.inhibit_any_policy) depth tree levels level holds next_level in
      let some_there = some_is_left (suc depth) counters.explicit_policy level levels there t some in
      let last = tree_ends User (level ∷ levels) (suc depth) there t in
      let open_end : (last_explicit_policy c counters.explicit_policy == 0 && is_null (final_tree User (suc depth) there)) ≡ false = is_false (last_explicit_policy c counters.explicit_policy == 0 && is_null (final_tree User (suc depth) there)) (λ h.
      let (z, n) = parts (last_explicit_policy c counters.explicit_policy == 0) (is_null (final_tree User (suc depth) there)) h in
      kept (true_zero (last_explicit_policy c counters.explicit_policy) z) (no_member policies (λ p is. last.null n p ((same p).0 is)))) in
      let all : Alike (Valid policies) (Valid (policies_of (suc depth) (final_tree User (suc depth) there))) = λ p. ((λ h. (last.policies p).1 ((same p).0 h)), (λ h. (same p).1 ((last.policies p).0 h))) in
      let e : outcome_from settings depth counters tree c [] ≡ Valid (policies_of (suc depth) (final_tree User (suc depth) there)) = if_false _ _ _ once ∙ (if_false _ _ _ some_there ∙ if_false _ _ _ open_end) in
      along _ _ (Valid policies) e all

  -- the answer by levels is the tree's
  pub outcome_by_levels : (c : Certificate) (rest : List Certificate) (out : Outcome)
      → ByLevels settings 0 (initial_counters settings (suc (length rest))) [] c rest out → Alike out (outcome settings c rest)
  outcome_by_levels c rest out h = by_levels h initial_tree start
