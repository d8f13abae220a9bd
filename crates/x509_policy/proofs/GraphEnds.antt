-- The user-constrained policy set is found on the way back through the graph.
use Rattle.std.proofs.Common.{◌≡◌, ◌∙◌, ◌↔◌, inl, inr, ℕ, suc, ◌==◌, Bool, true, false, not, ◌&&◌, ◌||◌, cond, List, [], ◌∷◌, length, map, filter, Option, Some, None, refl, sym, ap, subst}
use Rattle.std.specs.List.{flat_map}
use Rattle.std.proofs.lemmas.Bool.Decides.{Decides-eqb}
use Rattle.x509_policy.specs.Values.{Policy, any_policy, is_any, has, Mapping, maps_any_policy, Certificate, Settings}
use Rattle.x509_policy.specs.Path.{Counters, initial_counters, next_counters, last_explicit_policy, takes_others, has_repeated, outcome, Outcome, Refused, Valid, RepeatedPolicy, MapsAnyPolicy, NoPolicy}
use Rattle.x509_policy.specs.Leaves.{first_of_way}
use Rattle.x509_policy.specs.Levels.{In, Entry, Level, IsAt, LeadsTo, initial_level, last_level, IsProcessed, IsNext, IsPrepared, Way, Leads, IsConstrained, ByLevels, repeated, none_left, maps_any, goes_on, none_constrained, valid, Alike}
use Rattle.x509_policy.specs.Stands.{Hangs, AllHang, root, hangs, Stands}
use Rattle.x509_policy.specs.Graph.{is_at, next_level, prepared_level, firsts, leading, constrained, is_empty_level, is_empty_set, graph_from, outcome_by_graph}
use Rattle.x509_policy.proofs.Leaves.{way_of_any, way_of_other}
use Rattle.x509_policy.proofs.Ends.{is_any-same}
use Rattle.x509_policy.proofs.Members.{In-left, In-right, In-cases, In-flat_map, flat_map-In, In-filter, filter-In, has-In, In-has, not_both, any_is, other_is, is_other, or_cases, or_left, or_right}
use Rattle.x509_policy.proofs.Mappings.{issuer_or_not}
use Rattle.x509_policy.proofs.Steps.{at_of_expects, at_of_leads, first_any}
use Rattle.x509_policy.proofs.Graphs.{In-map, map-In, at_is, is_at_of, next_right, prepared_right}
use Rattle.x509_policy.proofs.Outcomes.{none_from, none_to, outcome_by_levels}

at_root : (v : Policy) → IsAt initial_level v → v ≡ any_policy
at_root v (e, inl here, same) = sym same ∙ sym (ap (λ (k : Entry). k.valid) here)
at_root v (e, inr h, same) = absurd h

pub reached_by : {levels : List Level} → AllHang levels → (v : Policy) → IsAt (last_level levels) v → (r : Policy) × Way levels r v
reached_by root v at = (any_policy, (refl, at_root v at))
reached_by (hangs h more) v at =
    let (u, lead) = h.follows v at in
    let (w, way) = reached_by more u (h.from_above u v lead) in
    (first_of_way w v, (u, w, way, lead, refl))

pub any_way : {levels : List Level} → AllHang levels → (r v : Policy) → Way levels r v → (r ≡ any_policy) ↔ (v ≡ any_policy)
any_way root r v (first, any) = ((λ h. any), (λ h. first))
any_way {levels = level ∷ levels} (hangs h more) r v (u, w, way, lead, from) = (
  (λ e. first_any w v (is_any w) refl (sym from ∙ e)),
  (λ e.
      let above = h.any_alone u (subst (λ q. LeadsTo level u q) e lead) in
      let first = (any_way more w u way).1 above in
      from ∙ (way_of_any w v (any_is w first) ∙ e)),
)

-- ---- the way back

and_both : (a b : Bool) → (a && b) ≡ true → (a ≡ true) × (b ≡ true)
and_both true b h = (refl, h)
and_both false b h = absurd (not_both false h refl)

both_and : (a b : Bool) → a ≡ true → b ≡ true → (a && b) ≡ true
both_and true b h k = k
both_and false b h k = absurd (not_both false h refl)

not_true : (b : Bool) → not b ≡ true → b ≡ false
not_true true h = absurd (not_both false h refl)
not_true false h = refl

abbrev live : List Policy → Entry → Bool
live reached e = has reached e.valid

abbrev below_any : Entry → Bool
below_any e = not (is_any e.valid) && has e.parents any_policy

module _ (level : Level) (levels : List Level) (reached : List Policy) where
  abbrev Live : Level
  Live = filter (live reached) level

  abbrev Here : List Policy
  Here = map (λ (e : Entry). e.valid) (filter below_any Live)

  abbrev Above : List Policy
  Above = flat_map (λ (e : Entry). e.parents) Live

  here_of : (r : Policy) → In r Here → (r ≡ any_policy → ⊥) × In r reached × LeadsTo level any_policy r
  here_of r h =
      let (e, is, same) = In-map (λ (k : Entry). k.valid) r (filter below_any Live) h in
      let (there, t) = In-filter below_any e Live is in
      let (on, alive) = In-filter (live reached) e level there in
      let (other, by) = and_both (not (is_any e.valid)) (has e.parents any_policy) t in
      (subst (λ q. q ≡ any_policy → ⊥) same (is_other e.valid (not_true (is_any e.valid) other)), subst (λ q. In q reached) same (has-In e.valid reached alive), (e, on, same, has-In any_policy e.parents by))

  of_here : (r : Policy) → (r ≡ any_policy → ⊥) → In r reached → LeadsTo level any_policy r → In r Here
  of_here r other alive (e, on, same, by) =
      let lives = filter-In (live reached) e level on (In-has e.valid reached (subst (λ q. In q reached) (sym same) alive)) in
      let apart : not (is_any e.valid) ≡ true = ap not (other_is e.valid (λ any. other (sym same ∙ any))) in
      subst (λ q. In q Here) same (map-In (λ (k : Entry). k.valid) e (filter below_any Live) (filter-In below_any e Live lives (both_and (not (is_any e.valid)) (has e.parents any_policy) apart (In-has any_policy e.parents by))))

  above_of : (u : Policy) → In u Above → (v : Policy) × In v reached × LeadsTo level u v
  above_of u h =
      let (e, is, by) = In-flat_map (λ (k : Entry). k.parents) u Live h in
      let (on, alive) = In-filter (live reached) e level is in
      (e.valid, has-In e.valid reached alive, (e, on, refl, by))

  of_above : (u v : Policy) → In v reached → LeadsTo level u v → In u Above
  of_above u v alive (e, on, same, by) =
      flat_map-In (λ (k : Entry). k.parents) u e Live (filter-In (live reached) e level on (In-has e.valid reached (subst (λ q. In q reached) (sym same) alive))) by

pub firsts-way : {levels : List Level} → AllHang levels → (reached : List Policy) (r : Policy) → In r (firsts levels reached) → (r ≡ any_policy → ⊥) × ((v : Policy) × In v reached × Way levels r v)
firsts-way root reached r h = absurd h
firsts-way {levels = level ∷ levels} (hangs h more) reached r is = elim (In-cases r (Here level levels reached) (firsts levels (Above level levels reached)) is) [
  | inl here ↦
      let (other, alive, lead) = here_of level levels reached r here in
      let (w, way) = reached_by more any_policy (h.from_above any_policy r lead) in
      let any = (any_way more w any_policy way).1 refl in
      (other, (r, alive, (any_policy, w, way, lead, sym (way_of_any w r (any_is w any)))))
  | inr later ↦
      let (other, (u, above, way)) = firsts-way more (Above level levels reached) r later in
      let (v, alive, lead) = above_of level levels reached u above in
      (other, (v, alive, (u, r, way, lead, sym (way_of_other r v (other_is r other)))))
]

way_case : {level : Level} {levels : List Level} → Hangs level (last_level levels) → AllHang levels → (reached : List Policy) (r v u w : Policy) → (r ≡ any_policy → ⊥) → In v reached → Way levels w u → LeadsTo level u v → r ≡ first_of_way w v
    → ((r ≡ w) → In r (firsts levels (Above level levels reached))) → (b : Bool) → is_any w ≡ b → In r (firsts (level ∷ levels) reached)
way_case {level} {levels} h more reached r v u w other alive way lead from deep true any =
    let first = is_any-same w any in
    let above = (any_way more w u way).0 first in
    let same : r ≡ v = from ∙ way_of_any w v any in
    In-left r (Here level levels reached) (firsts levels (Above level levels reached))
    (of_here level levels reached r other (subst (λ q. In q reached) (sym same) alive) (subst (λ q. LeadsTo level any_policy q) (sym same) (subst (λ q. LeadsTo level q v) above lead)))
way_case {level} {levels} h more reached r v u w other alive way lead from deep false no_any =
    In-right r (Here level levels reached) (firsts levels (Above level levels reached)) (deep (from ∙ way_of_other w v no_any))

pub way-firsts : {levels : List Level} → AllHang levels → (reached : List Policy) (r v : Policy) → (r ≡ any_policy → ⊥) → In v reached → Way levels r v → In r (firsts levels reached)
way-firsts root reached r v other alive (first, any) = absurd (other first)
way-firsts {levels = level ∷ levels} (hangs h more) reached r v other alive (u, w, way, lead, from) =
    way_case h more reached r v u w other alive way lead from
    (λ same. way-firsts more (Above level levels reached) r u other (of_above level levels reached u v alive lead) (subst (λ q. Way levels q u) (sym same) way))
    (is_any w) refl

-- ---- all that lead, and those that are asked for

In-one_if : (p : Policy) (b : Bool) → In p (cond b (any_policy ∷ []) []) → (any_policy ≡ p) × (b ≡ true)
In-one_if p true (inl e) = (e, refl)
In-one_if p true (inr h) = absurd h
In-one_if p false h = absurd h

one_if-In : (b : Bool) → b ≡ true → In any_policy (cond b (any_policy ∷ []) [])
one_if-In true h = inl refl
one_if-In false h = absurd (not_both false h refl)

module _ (level : Level) (levels : List Level) (all : AllHang (level ∷ levels)) where
  abbrev Valids : List Policy
  Valids = map (λ (e : Entry). e.valid) level

  valids_at : (v : Policy) → In v Valids → IsAt level v
  valids_at v h = In-map (λ (k : Entry). k.valid) v level h

  at_valids : (v : Policy) → IsAt level v → In v Valids
  at_valids v (e, is, same) = subst (λ q. In q Valids) same (map-In (λ (k : Entry). k.valid) e level is)

  pub leading-leads : (p : Policy) → In p (leading (level ∷ levels)) → Leads (level ∷ levels) p
  leading-leads p h = elim (In-cases p (cond (is_at level any_policy) (any_policy ∷ []) []) (firsts (level ∷ levels) Valids) h) [
    | inl any ↦
        let (same, at) = In-one_if p (is_at level any_policy) any in
        let (r, way) = reached_by all any_policy (at_is level any_policy at) in
        let first = (any_way all r any_policy way).1 refl in
        (any_policy, subst (λ q. Way (level ∷ levels) q any_policy) (first ∙ same) way)
    | inr other ↦ let (apart, (v, alive, way)) = firsts-way all Valids p other in (v, way)
  ]

  leads-case : (p v : Policy) → Way (level ∷ levels) p v → (b : Bool) → is_any p ≡ b → In p (leading (level ∷ levels))
  leads-case p v (u, w, way, lead, from) true any =
      let first = is_any-same p any in
      let last = (any_way all p v (u, w, way, lead, from)).0 first in
      subst (λ q. In q (leading (level ∷ levels))) (sym first)
      (In-left any_policy (cond (is_at level any_policy) (any_policy ∷ []) []) (firsts (level ∷ levels) Valids) (one_if-In (is_at level any_policy) (is_at_of level any_policy (subst (IsAt level) last (at_of_leads level u v lead)))))
  leads-case p v (u, w, way, lead, from) false other =
      In-right p (cond (is_at level any_policy) (any_policy ∷ []) []) (firsts (level ∷ levels) Valids)
      (way-firsts all Valids p v (is_other p other) (at_valids v (at_of_leads level u v lead)) (u, w, way, lead, from))

  pub leads-leading : (p : Policy) → Leads (level ∷ levels) p → In p (leading (level ∷ levels))
  leads-leading p (v, way) = leads-case p v way (is_any p) refl

  constrained-case : (user : List Policy) (b : Bool) → has user any_policy ≡ b → (p : Policy)
      → In p (cond b (leading (level ∷ levels)) (filter (λ q. has (leading (level ∷ levels)) q || has (leading (level ∷ levels)) any_policy) user)) ↔ IsConstrained user (level ∷ levels) p
  constrained-case user true all_asked p = (
    (λ h. inl (leading-leads p h, has-In any_policy user all_asked)),
    (λ c. elim c [ inl (leads, any) ↦ leads-leading p leads | inr (asked, not_any, some) ↦ absurd (not_any (has-In any_policy user all_asked)) ]),
  )
  constrained-case user false some_asked p =
      let Lead = leading (level ∷ levels) in
      let not_any : In any_policy user → ⊥ = λ any. not_both (has user any_policy) (In-has any_policy user any) some_asked in (
        (λ h.
            let (asked, t) = In-filter (λ q. has Lead q || has Lead any_policy) p user h in
            inr (asked, not_any, elim (or_cases (has Lead p) (has Lead any_policy) t) [ inl own ↦ inl (leading-leads p (has-In p Lead own)) | inr any ↦ inr (leading-leads any_policy (has-In any_policy Lead any)) ])),
        (λ c. elim c [
          | inl (leads, any) ↦ absurd (not_any any)
          | inr (asked, none_any, some) ↦ filter-In (λ q. has Lead q || has Lead any_policy) p user asked (elim some [
            | inl own ↦ or_left (has Lead p) (has Lead any_policy) (In-has p Lead (leads-leading p own))
            | inr any ↦ or_right (has Lead p) (has Lead any_policy) (In-has any_policy Lead (leads-leading any_policy any))
          ])
        ]),
      )

  pub constrained_right : (user : List Policy) (p : Policy) → In p (constrained user (level ∷ levels)) ↔ IsConstrained user (level ∷ levels) p
  constrained_right user p = constrained-case user (has user any_policy) refl p

-- ---- a path

pub at_start : Stands []
at_start = record { all = root; any_expected = λ v (e, is, same, ex). at_root v (e, is, same) }

processed-hangs : (policies : List Policy) (others : Bool) (level : Level) (levels : List Level) → Stands levels → IsProcessed policies others (last_level levels) level → Hangs level (last_level levels)
processed-hangs policies others level levels s is = record {
  from_above = λ u v lead. elim ((is.leads u v).0 lead) [
    | inl (on, other, why) ↦ elim why [ inl ex ↦ at_of_expects (last_level levels) u v ex | inr (at, any, nobody) ↦ at ]
    | inr (o, any, ex) ↦ at_of_expects (last_level levels) u v ex
  ];
  follows = is.follows;
  any_alone = λ u lead. elim ((is.leads u any_policy).0 lead) [
    | inl (on, other, why) ↦ absurd (other refl)
    | inr (o, any, ex) ↦ s.any_expected u ex
  ];
}

empty-hangs : (above : Level) → Hangs [] above
empty-hangs above = record { from_above = λ u v lead. absurd lead.1; follows = λ v at. absurd at.1; any_alone = λ u lead. absurd lead.1 }

pub next-stands : (policies : Option (List Policy)) (others : Bool) (level : Level) (levels : List Level) → Stands levels → IsNext policies others (last_level levels) level → Stands (level ∷ levels)
next-stands None others level levels s is = subst (λ l. Stands (l ∷ levels)) (sym is) (record { all = hangs (empty-hangs (last_level levels)) s.all; any_expected = λ v ex. absurd ex.1 })
next-stands (Some policies) others level levels s is = record {
  all = hangs (processed-hangs policies others level levels s is) s.all;
  any_expected = λ v ex. ((is.expects v any_policy).0 ex).1;
}

pub hangs_of : {level : Level} {levels : List Level} → AllHang (level ∷ levels) → Hangs level (last_level levels)
hangs_of (hangs h more) = h

others_of : {level : Level} {levels : List Level} → AllHang (level ∷ levels) → AllHang levels
others_of (hangs h more) = more

pub prepared-stands : (ms : List Mapping) (b : Bool) (level left : Level) (levels : List Level) → maps_any_policy ms ≡ false → Stands (level ∷ levels) → IsPrepared ms b level left → Stands (left ∷ levels)
prepared-stands ms true level left levels free s is =
    let h = hangs_of s.all in
    record {
      all = hangs {level = left} {levels = levels} (record { from_above = λ u v lead. h.from_above u v ((is.leads u v).0 lead).0; follows = is.follows; any_alone = λ u lead. h.any_alone u ((is.leads u any_policy).0 lead).0 }) (others_of s.all);
      any_expected = λ v ex. s.any_expected v ((is.expects v any_policy).0 ex).0;
    }
prepared-stands ms false level left levels free s is =
    let h = hangs_of s.all in
    record {
      all = hangs {level = left} {levels = levels} (record {
        from_above = λ u v lead. elim ((is.leads u v).0 lead) [ inl old ↦ h.from_above u v old | inr (issuer, nobody, any) ↦ h.from_above u any_policy any ];
        follows = is.follows;
        any_alone = λ u lead. elim ((is.leads u any_policy).0 lead) [ inl old ↦ h.any_alone u old | inr (issuer, nobody, any) ↦ absurd (none_from ms free issuer) ];
      }) (others_of s.all);
      any_expected = λ v ex. elim (issuer_or_not ms v) [
        | inl issuer ↦ absurd (none_to ms free v ((is.expects_mapped v any_policy issuer).0 ex).1)
        | inr other ↦ s.any_expected v ((is.expects_other v any_policy other).0 ex)
      ];
    }

zero_is : (n : ℕ) → (n == 0) ≡ true → n ≡ 0
zero_is n h = (Decides-eqb n 0).0 h

is_zero : (n : ℕ) → n ≡ 0 → (n == 0) ≡ true
is_zero n h = (Decides-eqb n 0).1 h

level_is : (level : Level) → is_empty_level level ≡ true → level ≡ []
level_is [] h = refl
level_is (e ∷ level) h = absurd (not_both false h refl)

is_level : (level : Level) → level ≡ [] → is_empty_level level ≡ true
is_level level h = ap is_empty_level h

set_is : (ps : List Policy) → is_empty_set ps ≡ true → (p : Policy) → In p ps → ⊥
set_is [] h p is = is
set_is (q ∷ ps) h p is = not_both false h refl

is_set : (ps : List Policy) → ps ≡ [] → is_empty_set ps ≡ true
is_set ps h = ap is_empty_set h

some_left : (counter : ℕ) (level : Level) → (counter == 0 && is_empty_level level) ≡ false → counter ≡ 0 → level ≡ [] → ⊥
some_left counter level h z e = not_both (counter == 0 && is_empty_level level) (both_and (counter == 0) (is_empty_level level) (is_zero counter z) (is_level level e)) h

module _ (settings : Settings) where
  abbrev User : List Policy
  User = settings.user_initial_policy_set

  abbrev By : ℕ → Counters → List Level → Certificate → List Certificate → Outcome → Type 0
  By depth counters levels c rest out = ByLevels settings depth counters levels c rest out

  -- the tests of the last certificate, each by its answer
  module _ (depth : ℕ) (counters : Counters) (levels : List Level) (c : Certificate) (s : Stands levels) where
    abbrev Level_last : Level
    Level_last = next_level c.policies (takes_others c true counters.inhibit_any_policy) (last_level levels)

    abbrev Policies_last : List Policy
    Policies_last = constrained settings.user_initial_policy_set (Level_last ∷ levels)

    abbrev Last_explicit : ℕ
    Last_explicit = last_explicit_policy c counters.explicit_policy

    last_right : IsNext c.policies (takes_others c true counters.inhibit_any_policy) (last_level levels) Level_last
    last_right = next_right c.policies (takes_others c true counters.inhibit_any_policy) (last_level levels)

    last_stands : Stands (Level_last ∷ levels)
    last_stands = next-stands c.policies (takes_others c true counters.inhibit_any_policy) Level_last levels s last_right

    last_policies : (p : Policy) → In p Policies_last ↔ IsConstrained settings.user_initial_policy_set (Level_last ∷ levels) p
    last_policies p = constrained_right Level_last levels last_stands.all settings.user_initial_policy_set p

    last-case : (a b d : Bool) → has_repeated c.policies ≡ a → (counters.explicit_policy == 0 && is_empty_level Level_last) ≡ b → (Last_explicit == 0 && is_empty_set Policies_last) ≡ d
        → By depth counters levels c [] (cond a (Refused depth RepeatedPolicy) (cond b (Refused depth NoPolicy) (cond d (Refused depth NoPolicy) (Valid Policies_last))))
    last-case true b d again left ends = repeated again
    last-case false true d once left ends =
        let (z, e) = and_both (counters.explicit_policy == 0) (is_empty_level Level_last) left in
        none_left once Level_last last_right (zero_is counters.explicit_policy z) (level_is Level_last e)
    last-case false false true once left ends =
        let (z, e) = and_both (Last_explicit == 0) (is_empty_set Policies_last) ends in
        none_constrained once Level_last last_right (some_left counters.explicit_policy Level_last left) (zero_is Last_explicit z)
        (λ p h. set_is Policies_last e p ((last_policies p).1 h))
    last-case false false false once left ends =
        valid once Level_last last_right (some_left counters.explicit_policy Level_last left) Policies_last last_policies
        (λ z e. not_both (Last_explicit == 0 && is_empty_set Policies_last) (both_and (Last_explicit == 0) (is_empty_set Policies_last) (is_zero Last_explicit z) (is_set Policies_last e)) ends)

  -- and of another
  module _ (depth : ℕ) (counters : Counters) (levels : List Level) (c next : Certificate) (rest : List Certificate) (s : Stands levels) where
    abbrev Level_here : Level
    Level_here = next_level c.policies (takes_others c false counters.inhibit_any_policy) (last_level levels)

    abbrev Level_left : Level
    Level_left = prepared_level c.mappings (counters.policy_mapping == 0) Level_here

    here_right : IsNext c.policies (takes_others c false counters.inhibit_any_policy) (last_level levels) Level_here
    here_right = next_right c.policies (takes_others c false counters.inhibit_any_policy) (last_level levels)

    here_stands : Stands (Level_here ∷ levels)
    here_stands = next-stands c.policies (takes_others c false counters.inhibit_any_policy) Level_here levels s here_right

    left_right : IsPrepared c.mappings (counters.policy_mapping == 0) Level_here Level_left
    left_right = prepared_right c.mappings (counters.policy_mapping == 0) Level_here (hangs_of here_stands.all).follows

    left_stands : maps_any_policy c.mappings ≡ false → Stands (Level_left ∷ levels)
    left_stands free = prepared-stands c.mappings (counters.policy_mapping == 0) Level_here Level_left levels free here_stands left_right

    next-case : (out : Outcome) (a b d : Bool) → has_repeated c.policies ≡ a → (counters.explicit_policy == 0 && is_empty_level Level_here) ≡ b → maps_any_policy c.mappings ≡ d
        → (maps_any_policy c.mappings ≡ false → By (suc depth) (next_counters c counters) (Level_left ∷ levels) next rest out)
        → By depth counters levels c (next ∷ rest) (cond a (Refused depth RepeatedPolicy) (cond b (Refused depth NoPolicy) (cond d (Refused depth MapsAnyPolicy) out)))
    next-case out true b d again left any more = repeated again
    next-case out false true d once left any more =
        let (z, e) = and_both (counters.explicit_policy == 0) (is_empty_level Level_here) left in
        none_left once Level_here here_right (zero_is counters.explicit_policy z) (level_is Level_here e)
    next-case out false false true once left any more = maps_any once Level_here here_right (some_left counters.explicit_policy Level_here left) any
    next-case out false false false once left free more = goes_on once Level_here here_right (some_left counters.explicit_policy Level_here left) free Level_left left_right (more free)

  pub graph-levels : (depth : ℕ) (counters : Counters) (levels : List Level) (c : Certificate) (rest : List Certificate) → Stands levels
      → ByLevels settings depth counters levels c rest (graph_from settings depth counters levels c rest)
  graph-levels depth counters levels c [] s =
      last-case depth counters levels c s (has_repeated c.policies) (counters.explicit_policy == 0 && is_empty_level (Level_last depth counters levels c s)) (Last_explicit depth counters levels c s == 0 && is_empty_set (Policies_last depth counters levels c s)) refl refl refl
  graph-levels depth counters levels c (next ∷ rest) s =
      next-case depth counters levels c next rest s (graph_from settings (suc depth) (next_counters c counters) (Level_left depth counters levels c next rest s ∷ levels) next rest)
      (has_repeated c.policies) (counters.explicit_policy == 0 && is_empty_level (Level_here depth counters levels c next rest s)) (maps_any_policy c.mappings) refl refl refl
      (λ free. graph-levels (suc depth) (next_counters c counters) (Level_left depth counters levels c next rest s ∷ levels) next rest (left_stands depth counters levels c next rest s free))

  pub graph_by_levels : (c : Certificate) (rest : List Certificate) → ByLevels settings 0 (initial_counters settings (suc (length rest))) [] c rest (outcome_by_graph settings c rest)
  graph_by_levels c rest = graph-levels 0 (initial_counters settings (suc (length rest))) [] c rest at_start

  -- the outcome by the graph is that by the tree
  pub graph_as_tree : (c : Certificate) (rest : List Certificate) → Alike (outcome_by_graph settings c rest) (outcome settings c rest)
  graph_as_tree c rest = outcome_by_levels settings c rest (outcome_by_graph settings c rest) (graph_by_levels c rest)
