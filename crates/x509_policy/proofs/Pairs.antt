-- Levels that are made of pairs are right.
use Rattle.std.proofs.Common.{◌≡◌, ◌∙◌, ◌↔◌, ◌⊎◌, inl, inr, Bool, true, false, not, ◌&&◌, ◌||◌, cond, List, [], ◌∷◌, ◌++◌, map, filter, Option, Some, None, refl, sym, ap, subst}
use Rattle.x509_policy.specs.Values.{Policy, any_policy, is_any, has, Mapping, maps_any_policy}
use Rattle.x509_policy.specs.Tree.{subjects}
use Rattle.x509_policy.specs.Levels.{In, Entry, Level, IsAt, Expects, LeadsTo, MayFollow, IsProcessed, IsNext, IsIssuer, IsMapped, IsUnmapped, IsPrepared, IsBack}
use Rattle.x509_policy.specs.Edges.{Edge, Expecting, level_of, ends, followers, below_any, next_leads, certificate_leads, unmapped_leads, selves, mapped, prepared_leads, prepared_expectations, parents, firsts}
use Rattle.x509_policy.proofs.Ends.{is_any-same, has_one}
use Rattle.x509_policy.proofs.Members.{In-left, In-right, In-cases, In-filter, filter-In, has-In, In-has, is_false, not_both, any_is, other_is, is_other, or_cases, or_left, or_right}
use Rattle.x509_policy.proofs.Mappings.{has_same}
use Rattle.x509_policy.proofs.Steps.{at_of_expects}
use Rattle.x509_policy.proofs.Graphs.{In-map, map-In}
use Rattle.x509_policy.proofs.Outcomes.{none_from}

-- ---- tests

both : (a b : Bool) → (a && b) ≡ true → (a ≡ true) × (b ≡ true)
both true b h = (refl, h)
both false b h = cc

and : (a b : Bool) → a ≡ true → b ≡ true → (a && b) ≡ true
and true b h k = k
and false b h k = cc

not_is : (b : Bool) → not b ≡ true → b ≡ false
not_is true h = cc
not_is false h = refl

is_not : (b : Bool) → b ≡ false → not b ≡ true
is_not b h = ap not h

-- a set by its members
abbrev SameSet : (Policy → Bool) → List Policy → Type 0
SameSet test ps = test ≡ has ps

test-In : (test : Policy → Bool) (ps : List Policy) → SameSet test ps → (p : Policy) → test p ≡ true → In p ps
test-In test ps same p h = has-In p ps (sym (ap (λ t. t p) same) ∙ h)

In-test : (test : Policy → Bool) (ps : List Policy) → SameSet test ps → (p : Policy) → In p ps → test p ≡ true
In-test test ps same p h = ap (λ t. t p) same ∙ In-has p ps h

-- ---- what a level of pairs says

abbrev Lead : Edge → Entry
Lead l = record { valid = l.1; expected = []; parents = l.0 ∷ [] }

abbrev Expectation : Edge → Entry
Expectation e = record { valid = e.1; expected = e.0 ∷ []; parents = [] }

one : (q p : Policy) → In p (q ∷ []) → q ≡ p
one q p (inl e) = e
one q p (inr h) = absurd h

at_pair : (pairs : List Edge) (p : Edge) (u v : Policy) → p.0 ≡ u → p.1 ≡ v → In p pairs → In (u, v) pairs
at_pair pairs p u v first second h = subst (λ q. In (q, v) pairs) first (subst (λ q. In (p.0, q) pairs) second h)

module _ (leads expectations : List Edge) where
  abbrev Made : Level
  Made = level_of leads expectations

  lead : (u v : Policy) → In (u, v) leads → LeadsTo Made u v
  lead u v h = (Lead (u, v), In-left (Lead (u, v)) (map Lead leads) (map Expectation expectations) (map-In Lead (u, v) leads h), refl, inl refl)

  pub expect : (v x : Policy) → In (x, v) expectations → Expects Made v x
  expect v x h = (Expectation (x, v), In-right (Expectation (x, v)) (map Lead leads) (map Expectation expectations) (map-In Expectation (x, v) expectations h), refl, inl refl)

  lead_is : (u v : Policy) → LeadsTo Made u v → In (u, v) leads
  lead_is u v (e, is, same, from) = elim (In-cases e (map Lead leads) (map Expectation expectations) is) [
    | inl a ↦
        let (l, there, made) = In-map Lead e leads a in
        at_pair leads l u v (one l.0 u (subst (λ (k : Entry). In u k.parents) (sym made) from)) (ap (λ (k : Entry). k.valid) made ∙ same) there
    | inr b ↦
        let (x, there, made) = In-map Expectation e expectations b in
        absurd (subst (λ (k : Entry). In u k.parents) (sym made) from)
  ]

  pub expect_is : (v x : Policy) → Expects Made v x → In (x, v) expectations
  expect_is v x (e, is, same, ex) = elim (In-cases e (map Lead leads) (map Expectation expectations) is) [
    | inl a ↦
        let (l, there, made) = In-map Lead e leads a in
        absurd (subst (λ (k : Entry). In x k.expected) (sym made) ex)
    | inr b ↦
        let (l, there, made) = In-map Expectation e expectations b in
        at_pair expectations l x v (one l.0 x (subst (λ (k : Entry). In x k.expected) (sym made) ex)) (ap (λ (k : Entry). k.valid) made ∙ same) there
  ]

  at_is : (v : Policy) → IsAt Made v → ((u : Policy) × In (u, v) leads) ⊎ ((x : Policy) × In (x, v) expectations)
  at_is v (e, is, same) = elim (In-cases e (map Lead leads) (map Expectation expectations) is) [
    | inl a ↦
        let (l, there, made) = In-map Lead e leads a in
        inl (l.0, at_pair leads l l.0 v refl (ap (λ (k : Entry). k.valid) made ∙ same) there)
    | inr b ↦
        let (l, there, made) = In-map Expectation e expectations b in
        inr (l.0, at_pair expectations l l.0 v refl (ap (λ (k : Entry). k.valid) made ∙ same) there)
  ]

end-In : (leads : List Edge) (v : Policy) → In v (ends leads) → (u : Policy) × In (u, v) leads
end-In leads v h = let (l, there, same) = In-map (λ (k : Edge). k.1) v leads h in (l.0, subst (λ q. In (l.0, q) leads) same there)

In-end : (leads : List Edge) (u v : Policy) → In (u, v) leads → In v (ends leads)
In-end leads u v h = map-In (λ (k : Edge). k.1) (u, v) leads h

-- ---- any-policy above those that aren't there

In-if : {X : Type 0} (b : Bool) (x : X) (xs : List X) → In x (cond b xs []) → (b ≡ true) × In x xs
In-if true x xs h = (refl, h)
In-if false x xs h = absurd h

if-In : {X : Type 0} (b : Bool) (x : X) (xs : List X) → b ≡ true → In x xs → In x (cond b xs [])
if-In true x xs t h = h
if-In false x xs t h = absurd (not_both false t refl)

module _ (policies : List Policy) (there : Policy → Bool) where
  abbrev Free : Policy → Bool
  Free p = not (is_any p) && not (there p)

  abbrev UnderAny : Policy → Edge
  UnderAny p = (any_policy, p)

  below-is : (u v : Policy) → In (u, v) (below_any policies there) → (there any_policy ≡ true) × (u ≡ any_policy) × In v policies × (is_any v ≡ false) × (there v ≡ false)
  below-is u v h =
      let (any, inside) = In-if (there any_policy) (u, v) (map UnderAny (filter Free policies)) h in
      let (p, is, made) = In-map UnderAny (u, v) (filter Free policies) inside in
      let (on, free) = In-filter Free p policies is in
      let (other, out) = both (not (is_any p)) (not (there p)) free in
      let same : p ≡ v = ap (λ (e : Edge). e.1) made in
      (any, sym (ap (λ (e : Edge). e.0) made), subst (λ q. In q policies) same on, subst (λ q. is_any q ≡ false) same (not_is (is_any p) other), subst (λ q. there q ≡ false) same (not_is (there p) out))

  is-below : (v : Policy) → there any_policy ≡ true → In v policies → is_any v ≡ false → there v ≡ false → In (any_policy, v) (below_any policies there)
  is-below v any on other out =
      if-In (there any_policy) (any_policy, v) (map UnderAny (filter Free policies)) any
      (map-In UnderAny v (filter Free policies) (filter-In Free v policies on (and (not (is_any v)) (not (there v)) (is_not (is_any v) other) (is_not (there v) out))))

-- ---- 6.1.3 (d)

module _ (policies : List Policy) (others : Bool) (above : Level) (expectations : List Edge) (a : Expecting above expectations) where
  abbrev All : Bool
  All = others && has policies any_policy

  abbrev Taken : Edge → Bool
  Taken e = All || (not (is_any e.0) && has policies e.0)

  abbrev Turned : Edge → Edge
  Turned e = (e.1, e.0)

  abbrev There : Policy → Bool
  There = has (map (λ (e : Edge). e.0) expectations)

  abbrev NextLeads : List Edge
  NextLeads = next_leads policies (has policies) others expectations

  abbrev Under : List Edge
  Under = followers (has policies) All expectations

  follower : (e : Edge) → In e expectations → Taken e ≡ true → MayFollow policies others above e.1 e.0
  follower e there t =
      let ex = (a.expects e.1 e.0).1 there in
      elim (or_cases All (not (is_any e.0) && has policies e.0) t) [
        | inl all ↦ let (o, any) = both others (has policies any_policy) all in inr (o, has-In any_policy policies any, ex)
        | inr named ↦ let (other, on) = both (not (is_any e.0)) (has policies e.0) named in inl (has-In e.0 policies on, is_other e.0 (not_is (is_any e.0) other), inl ex)
      ]

  expected-In : (x : Policy) → There x ≡ true → (w : Policy) × Expects above w x
  expected-In x t =
      let (e, there, same) = In-map (λ (k : Edge). k.0) x expectations (has-In x (map (λ (k : Edge). k.0) expectations) t) in
      (e.1, subst (λ q. Expects above e.1 q) same ((a.expects e.1 e.0).1 there))

  In-expected : (w x : Policy) → Expects above w x → There x ≡ true
  In-expected w x ex = In-has x (map (λ (k : Edge). k.0) expectations) (map-In (λ (k : Edge). k.0) (x, w) expectations ((a.expects w x).0 ex))

  next_follows : (u v : Policy) → In (u, v) NextLeads → MayFollow policies others above u v
  next_follows u v h = elim (In-cases (u, v) Under (below_any policies There) h) [
    | inl here ↦
        let (e, is, made) = In-map Turned (u, v) (filter Taken expectations) here in
        let (there, t) = In-filter Taken e expectations is in
        subst (λ (k : Edge). MayFollow policies others above k.0 k.1) made (follower e there t)
    | inr below ↦
        let (any, from, on, other, out) = below-is policies There u v below in
        let (w, ex) = expected-In any_policy any in
        let first = a.any_expected w ex in
        inl (on, is_other v other, inr (subst (λ q. IsAt above q) (first ∙ sym from) (at_of_expects above w any_policy ex), from, λ x nobody. not_both (There v) (In-expected x v nobody) out))
  ]

  taken : (u v : Policy) → Expects above u v → Taken (v, u) ≡ true → In (u, v) NextLeads
  taken u v ex t = In-left (u, v) Under (below_any policies There) (map-In Turned (v, u) (filter Taken expectations) (filter-In Taken (v, u) expectations ((a.expects u v).0 ex) t))

  follows_next : (u v : Policy) → MayFollow policies others above u v → In (u, v) NextLeads
  follows_next u v (inl (on, other, inl ex)) = taken u v ex (or_right All (not (is_any v) && has policies v) (and (not (is_any v)) (has policies v) (is_not (is_any v) (other_is v other)) (In-has v policies on)))
  follows_next u v (inl (on, other, inr (at, from, nobody))) =
      let any = In-expected any_policy any_policy (a.any_itself (subst (IsAt above) from at)) in
      let out : There v ≡ false = is_false (There v) (λ t. let (w, ex) = expected-In v t in nobody w ex) in
      subst (λ q. In (q, v) NextLeads) (sym from) (In-right (any_policy, v) Under (below_any policies There) (is-below policies There v any on (other_is v other) out))
  follows_next u v (inr (o, any, ex)) = taken u v ex (or_left All (not (is_any v) && has policies v) (and others (has policies any_policy) o (In-has any_policy policies any)))

module _ (leads : List Edge) (all : List Policy) (same : has all ≡ has (ends leads)) where
  abbrev Itself : Policy → Edge
  Itself p = (p, p)

  -- a level where each policy expects itself
  abbrev pub Fresh : Level
  Fresh = level_of leads (map Itself all)

  fresh_leads : (v : Policy) → In v all → (u : Policy) × In (u, v) leads
  fresh_leads v h = end-In leads v (test-In (has all) (ends leads) same v (In-has v all h))

  leads_fresh : (u v : Policy) → In (u, v) leads → In v all
  leads_fresh u v h = has-In v all (ap (λ t. t v) same ∙ In-has v (ends leads) (In-end leads u v h))

  itself : (x v : Policy) → In (x, v) (map Itself all) → (v ≡ x) × In v all
  itself x v h =
      let (p, is, made) = In-map Itself (x, v) all h in
      let first : p ≡ x = ap (λ (e : Edge). e.0) made in
      let second : p ≡ v = ap (λ (e : Edge). e.1) made in
      (sym second ∙ first, subst (λ q. In q all) second is)

  pub fresh_at : (v : Policy) → IsAt Fresh v → In v all
  fresh_at v at = elim (at_is leads (map Itself all) v at) [
    | inl (u, h) ↦ leads_fresh u v h
    | inr (x, h) ↦ (itself x v h).1
  ]

  pub at_fresh : (v : Policy) → In v all → IsAt Fresh v
  at_fresh v h = let (e, is, valid, ex) = expect leads (map Itself all) v v (map-In Itself v all h) in (e, is, valid)

  pub fresh_expects : (v x : Policy) → Expects Fresh v x ↔ (IsAt Fresh v × (v ≡ x))
  fresh_expects v x = (
    (λ ex. let (e, on) = itself x v (expect_is leads (map Itself all) v x ex) in (at_fresh v on, e)),
    (λ (at, e). subst (λ q. Expects Fresh v q) e (expect leads (map Itself all) v v (map-In Itself v all (fresh_at v at)))),
  )

  pub fresh_follows : (v : Policy) → IsAt Fresh v → (u : Policy) × LeadsTo Fresh u v
  fresh_follows v at = let (u, h) = fresh_leads v (fresh_at v at) in (u, lead leads (map Itself all) u v h)

  pub fresh_lead : (u v : Policy) → LeadsTo Fresh u v ↔ In (u, v) leads
  fresh_lead u v = ((λ h. lead_is leads (map Itself all) u v h), (λ h. lead leads (map Itself all) u v h))

-- the level of a certificate is right
pub next_right : (policies : List Policy) (others : Bool) (above : Level) (expectations : List Edge) → Expecting above expectations
    → (leads : List Edge) (all : List Policy) (same : has all ≡ has (ends leads)) → leads ≡ next_leads policies (has policies) others expectations
    → IsProcessed policies others above (Fresh leads all same)
next_right policies others above expectations a leads all same is = record {
  leads = λ u v. (
    (λ h. next_follows policies others above expectations a u v (subst (λ l. In (u, v) l) is ((fresh_lead leads all same u v).0 h))),
    (λ h. (fresh_lead leads all same u v).1 (subst (λ l. In (u, v) l) (sym is) (follows_next policies others above expectations a u v h))),
  );
  expects = fresh_expects leads all same;
  follows = fresh_follows leads all same;
}

pub fresh_empty : (leads : List Edge) (all : List Policy) (same : has all ≡ has (ends leads)) → leads ≡ [] → Fresh leads all same ≡ []
fresh_empty [] [] same e = refl
fresh_empty [] (p ∷ all) same e = absurd (test-In (has (p ∷ all)) [] same p (In-has p (p ∷ all) (inl refl)))
fresh_empty (l ∷ leads) all same e = absurd (subst (λ ls. In l ls) e (inl refl))

pub certificate_right : (policies : Option (List Policy)) (others : Bool) (above : Level) (expectations : List Edge) → Expecting above expectations
    → (leads : List Edge) (all : List Policy) (same : has all ≡ has (ends leads)) → leads ≡ certificate_leads policies others expectations
    → IsNext policies others above (Fresh leads all same)
certificate_right (Some policies) others above expectations a leads all same is = next_right policies others above expectations a leads all same is
certificate_right None others above expectations a leads all same is = fresh_empty leads all same is

-- ---- 6.1.4 (b)

abbrev Issuer : Mapping → Policy
Issuer m = m.issuer_domain_policy

subject_in : (x v : Policy) (ms : List Mapping) → In x (subjects ms v) → (m : Mapping) × In m ms × (m.issuer_domain_policy ≡ v) × (m.subject_domain_policy ≡ x)
subject_in x v [] h = absurd h
subject_in x v (m ∷ ms) h = by (has (m.issuer_domain_policy ∷ []) v) refl h (λ more. subject_in x v ms more)
  where
    by : (b : Bool) → has (m.issuer_domain_policy ∷ []) v ≡ b → In x (cond b (m.subject_domain_policy ∷ subjects ms v) (subjects ms v))
        → (In x (subjects ms v) → (k : Mapping) × In k ms × (k.issuer_domain_policy ≡ v) × (k.subject_domain_policy ≡ x))
        → (k : Mapping) × In k (m ∷ ms) × (k.issuer_domain_policy ≡ v) × (k.subject_domain_policy ≡ x)
    by true t (inl e) rest = (m, inl refl, has_one m.issuer_domain_policy v t, e)
    by true t (inr more) rest = let (k, is, i, s) = rest more in (k, inr is, i, s)
    by false t more rest = let (k, is, i, s) = rest more in (k, inr is, i, s)

in_subject : (v : Policy) (m : Mapping) (ms : List Mapping) → In m ms → m.issuer_domain_policy ≡ v → In m.subject_domain_policy (subjects ms v)
in_subject v m [] h e = absurd h
in_subject v m (k ∷ ms) (inl here) e =
    subst (λ j. In m.subject_domain_policy (cond j (k.subject_domain_policy ∷ subjects ms v) (subjects ms v))) (sym (has_same k.issuer_domain_policy v (ap (λ (j : Mapping). j.issuer_domain_policy) here ∙ e))) (inl (ap (λ (j : Mapping). j.subject_domain_policy) here))
in_subject v m (k ∷ ms) (inr more) e = by (has (k.issuer_domain_policy ∷ []) v) (in_subject v m ms more e)
  where
    by : (b : Bool) → In m.subject_domain_policy (subjects ms v) → In m.subject_domain_policy (cond b (k.subject_domain_policy ∷ subjects ms v) (subjects ms v))
    by true h = inr h
    by false h = h

module _ (ms : List Mapping) (leads : List Edge) (all : List Policy) (same : has all ≡ has (ends leads)) (issuers : List Policy) (named : has issuers ≡ has (map Issuer ms)) where
  abbrev Here : Level
  Here = Fresh leads all same

  abbrev Self : Policy → Edge
  Self p = (p, p)

  abbrev Other : Policy → Bool
  Other p = not (has issuers p)

  abbrev OtherEnd : Edge → Bool
  OtherEnd l = not (has issuers l.1)

  issuer_is : (v : Policy) → has issuers v ≡ true → IsIssuer ms v
  issuer_is v h = In-map Issuer v ms (test-In (has issuers) (map Issuer ms) named v h)

  is_issuer : (v : Policy) → IsIssuer ms v → has issuers v ≡ true
  is_issuer v (m, is, e) = In-test (has issuers) (map Issuer ms) named v (subst (λ q. In q (map Issuer ms)) e (map-In Issuer m ms is))

  no_issuer : (v : Policy) → (IsIssuer ms v → ⊥) → has issuers v ≡ false
  no_issuer v h = is_false (has issuers v) (λ t. h (issuer_is v t))

  issuer_no : (v : Policy) → has issuers v ≡ false → IsIssuer ms v → ⊥
  issuer_no v h i = not_both (has issuers v) (is_issuer v i) h

  abbrev Selves : List Edge
  Selves = selves (has issuers) all

  self_is : (x v : Policy) → In (x, v) Selves → (v ≡ x) × In v all × (has issuers v ≡ false)
  self_is x v h =
      let (p, is, made) = In-map Self (x, v) (filter Other all) h in
      let (on, other) = In-filter Other p all is in
      let second : p ≡ v = ap (λ (e : Edge). e.1) made in
      (sym second ∙ ap (λ (e : Edge). e.0) made, subst (λ q. In q all) second on, subst (λ q. has issuers q ≡ false) second (not_is (has issuers p) other))

  is_self : (v : Policy) → In v all → has issuers v ≡ false → In (v, v) Selves
  is_self v on other = map-In Self v (filter Other all) (filter-In Other v all on (is_not (has issuers v) other))

  here_expects : (v x : Policy) → In v all → v ≡ x → Expects Here v x
  here_expects v x on e = (fresh_expects leads all same v x).1 (at_fresh leads all same v on, e)

  -- (b) (2)

  abbrev Left : List Edge
  Left = unmapped_leads (has issuers) leads

  abbrev pub Unmapped : Level
  Unmapped = level_of Left Selves

  left_is : (u v : Policy) → In (u, v) Left → In (u, v) leads × (has issuers v ≡ false)
  left_is u v h = let (on, other) = In-filter OtherEnd (u, v) leads h in (on, not_is (has issuers v) other)

  is_left : (u v : Policy) → In (u, v) leads → has issuers v ≡ false → In (u, v) Left
  is_left u v on other = filter-In OtherEnd (u, v) leads on (is_not (has issuers v) other)

  pub unmapped_right : IsUnmapped ms Here Unmapped
  unmapped_right = record {
    leads = λ u v. (
      (λ h. let (on, other) = left_is u v (lead_is Left Selves u v h) in ((fresh_lead leads all same u v).1 on, issuer_no v other)),
      (λ (h, other). lead Left Selves u v (is_left u v ((fresh_lead leads all same u v).0 h) (no_issuer v other))),
    );
    expects = λ v x. (
      (λ h. let (e, on, other) = self_is x v (expect_is Left Selves v x h) in (here_expects v x on e, issuer_no v other)),
      (λ (h, other).
          let (at, e) = (fresh_expects leads all same v x).0 h in
          subst (λ q. Expects Unmapped v q) e (expect Left Selves v v (is_self v (fresh_at leads all same v at) (no_issuer v other)))),
    );
    follows = λ v at. elim (at_is Left Selves v at) [
      | inl (u, h) ↦ (u, lead Left Selves u v h)
      | inr (x, h) ↦
          let (e, on, other) = self_is x v h in
          let (u, from) = fresh_leads leads all same v on in
          (u, lead Left Selves u v (is_left u v from other))
    ];
  }

  -- (b) (1)

  abbrev Added : List Edge
  Added = below_any issuers (has all)

  abbrev Leads : List Edge
  Leads = leads ++ Added

  abbrev Subjects : List Edge
  Subjects = mapped (has all) ms

  abbrev Expectations : List Edge
  Expectations = Selves ++ Subjects

  abbrev pub Mapped : Level
  Mapped = level_of Leads Expectations

  abbrev IsThere : Mapping → Bool
  IsThere m = has all any_policy || has all m.issuer_domain_policy

  abbrev Subject : Mapping → Edge
  Subject m = (m.subject_domain_policy, m.issuer_domain_policy)

  subject_is : (x v : Policy) → In (x, v) Subjects → IsIssuer ms v × In x (subjects ms v) × ((has all any_policy || has all v) ≡ true)
  subject_is x v h =
      let (m, is, made) = In-map Subject (x, v) (filter IsThere ms) h in
      let (on, there) = In-filter IsThere m ms is in
      let issuer : m.issuer_domain_policy ≡ v = ap (λ (e : Edge). e.1) made in
      let subject : m.subject_domain_policy ≡ x = ap (λ (e : Edge). e.0) made in
      ((m, on, issuer), subst (λ q. In q (subjects ms v)) subject (in_subject v m ms on issuer), subst (λ q. (has all any_policy || has all q) ≡ true) issuer there)

  is_subject : (x v : Policy) → In x (subjects ms v) → (has all any_policy || has all v) ≡ true → In (x, v) Subjects
  is_subject x v h there =
      let (m, on, issuer, subject) = subject_in x v ms h in
      at_pair Subjects (Subject m) x v subject issuer (map-In Subject m (filter IsThere ms) (filter-In IsThere m ms on (subst (λ q. (has all any_policy || has all q) ≡ true) (sym issuer) there)))

  expectation_is : (x v : Policy) → In (x, v) Expectations → ((v ≡ x) × In v all × (has issuers v ≡ false)) ⊎ (IsIssuer ms v × In x (subjects ms v) × ((has all any_policy || has all v) ≡ true))
  expectation_is x v h = elim (In-cases (x, v) Selves Subjects h) [ inl own ↦ inl (self_is x v own) | inr other ↦ inr (subject_is x v other) ]

  module _ (free : maps_any_policy ms ≡ false) (any_alone : (u : Policy) → LeadsTo Here u any_policy → u ≡ any_policy) where
    other_issuer : (v : Policy) → IsIssuer ms v → is_any v ≡ false
    other_issuer v issuer = other_is v (λ e. none_from ms free (subst (IsIssuer ms) e issuer))

    new_lead : (v : Policy) → IsIssuer ms v → has all any_policy ≡ true → has all v ≡ false → In (any_policy, v) Leads
    new_lead v issuer any out = In-right (any_policy, v) leads Added (is-below issuers (has all) v any (has-In v issuers (is_issuer v issuer)) (other_issuer v issuer) out)

    old_lead : (v : Policy) → In v all → (u : Policy) × In (u, v) Leads
    old_lead v on = let (u, h) = fresh_leads leads all same v on in (u, In-left (u, v) leads Added h)

    some_lead : (v : Policy) → IsIssuer ms v → (has all any_policy || has all v) ≡ true → (b : Bool) → has all v ≡ b → (u : Policy) × In (u, v) Leads
    some_lead v issuer there true on = old_lead v (has-In v all on)
    some_lead v issuer there false out = elim (or_cases (has all any_policy) (has all v) there) [
      | inl any ↦ (any_policy, new_lead v issuer any out)
      | inr on ↦ absurd (not_both (has all v) on out)
    ]

    lead_there : (u v : Policy) → In (u, v) Leads → (has all any_policy || has all v) ≡ true
    lead_there u v h = elim (In-cases (u, v) leads Added h) [
      | inl old ↦ or_right (has all any_policy) (has all v) (In-has v all (leads_fresh leads all same u v old))
      | inr new ↦ or_left (has all any_policy) (has all v) (below-is issuers (has all) u v new).0
    ]

    mapped_there : (v : Policy) → IsIssuer ms v → IsAt Mapped v → (has all any_policy || has all v) ≡ true
    mapped_there v issuer at = elim (at_is Leads Expectations v at) [
      | inl (u, h) ↦ lead_there u v h
      | inr (x, h) ↦ elim (expectation_is x v h) [ inl (e, on, other) ↦ absurd (issuer_no v other issuer) | inr (i, s, there) ↦ there ]
    ]

    mapped_leads : (u v : Policy) → LeadsTo Mapped u v → LeadsTo Here u v ⊎ (IsIssuer ms v × (IsAt Here v → ⊥) × LeadsTo Here u any_policy)
    mapped_leads u v h = elim (In-cases (u, v) leads Added (lead_is Leads Expectations u v h)) [
      | inl old ↦ inl ((fresh_lead leads all same u v).1 old)
      | inr new ↦
          let (any, from, on, other, out) = below-is issuers (has all) u v new in
          let (w, up) = fresh_follows leads all same any_policy (at_fresh leads all same any_policy (has-In any_policy all any)) in
          inr (issuer_is v (In-has v issuers on), (λ at. not_both (has all v) (In-has v all (fresh_at leads all same v at)) out), subst (λ q. LeadsTo Here q any_policy) (any_alone w up ∙ sym from) up)
    ]

    leads_mapped : (u v : Policy) → LeadsTo Here u v ⊎ (IsIssuer ms v × (IsAt Here v → ⊥) × LeadsTo Here u any_policy) → LeadsTo Mapped u v
    leads_mapped u v (inl old) = lead Leads Expectations u v (In-left (u, v) leads Added ((fresh_lead leads all same u v).0 old))
    leads_mapped u v (inr (issuer, nobody, up)) =
        let any = In-has any_policy all (leads_fresh leads all same u any_policy ((fresh_lead leads all same u any_policy).0 up)) in
        let out = is_false (has all v) (λ t. nobody (at_fresh leads all same v (has-In v all t))) in
        lead Leads Expectations u v (subst (λ q. In (q, v) Leads) (sym (any_alone u up)) (new_lead v issuer any out))

    pub mapped_right : IsMapped ms Here Mapped
    mapped_right = record {
      leads = λ u v. (mapped_leads u v, leads_mapped u v);
      expects_mapped = λ v x issuer. (
        (λ h. elim (expectation_is x v (expect_is Leads Expectations v x h)) [
          | inl (e, on, other) ↦ absurd (issuer_no v other issuer)
          | inr (i, s, there) ↦ (at_of_expects Mapped v x h, s)
        ]),
        (λ (at, s). expect Leads Expectations v x (In-right (x, v) Selves Subjects (is_subject x v s (mapped_there v issuer at)))),
      );
      expects_other = λ v x other. (
        (λ h. elim (expectation_is x v (expect_is Leads Expectations v x h)) [
          | inl (e, on, o) ↦ here_expects v x on e
          | inr (i, s, there) ↦ absurd (other i)
        ]),
        (λ h.
            let (at, e) = (fresh_expects leads all same v x).0 h in
            subst (λ q. Expects Mapped v q) e (expect Leads Expectations v v (In-left (v, v) Selves Subjects (is_self v (fresh_at leads all same v at) (no_issuer v other))))),
      );
      follows = λ v at. elim (at_is Leads Expectations v at) [
        | inl (u, h) ↦ (u, lead Leads Expectations u v h)
        | inr (x, h) ↦ elim (expectation_is x v h) [
          | inl (e, on, other) ↦ let (u, from) = old_lead v on in (u, lead Leads Expectations u v from)
          | inr (i, s, there) ↦ let (u, from) = some_lead v i there (has all v) refl in (u, lead Leads Expectations u v from)
        ]
      ];
    }

    pub prepared_right : (is_inhibited : Bool)
        → IsPrepared ms is_inhibited Here (level_of (prepared_leads issuers leads all is_inhibited) (prepared_expectations issuers all ms is_inhibited))
    prepared_right true = unmapped_right
    prepared_right false = mapped_right

-- ---- the way back

module _ (leads expectations : List Edge) (reached : List Policy) where
  abbrev Alive : Edge → Bool
  Alive l = has reached l.1

  abbrev First : Edge → Bool
  First l = is_any l.0 && (not (is_any l.1) && has reached l.1)

  back_up : (above : List Policy) → has above ≡ has (parents (has reached) leads) → (u : Policy) → In u above → (v : Policy) × In v reached × LeadsTo (level_of leads expectations) u v
  back_up above same u h =
      let (l, is, from) = In-map (λ (k : Edge). k.0) u (filter Alive leads) (test-In (has above) (parents (has reached) leads) same u (In-has u above h)) in
      let (on, alive) = In-filter Alive l leads is in
      (l.1, has-In l.1 reached alive, lead leads expectations u l.1 (subst (λ q. In (q, l.1) leads) from on))

  up_back : (above : List Policy) → has above ≡ has (parents (has reached) leads) → (u v : Policy) → In v reached → LeadsTo (level_of leads expectations) u v → In u above
  up_back above same u v alive up =
      has-In u above (ap (λ t. t u) same ∙ In-has u (parents (has reached) leads) (map-In (λ (k : Edge). k.0) (u, v) (filter Alive leads) (filter-In Alive (u, v) leads (lead_is leads expectations u v up) (In-has v reached alive))))

  first_is : (r : Policy) → In r (firsts (has reached) leads) → (r ≡ any_policy → ⊥) × In r reached × LeadsTo (level_of leads expectations) any_policy r
  first_is r h =
      let (l, is, end) = In-map (λ (k : Edge). k.1) r (filter First leads) h in
      let (on, t) = In-filter First l leads is in
      let (any, more) = both (is_any l.0) (not (is_any l.1) && has reached l.1) t in
      let (other, alive) = both (not (is_any l.1)) (has reached l.1) more in
      let up : In (any_policy, l.1) leads = subst (λ q. In (q, l.1) leads) (is_any-same l.0 any) on in
      subst (λ q. (q ≡ any_policy → ⊥) × In q reached × LeadsTo (level_of leads expectations) any_policy q) end
      (is_other l.1 (not_is (is_any l.1) other), has-In l.1 reached alive, lead leads expectations any_policy l.1 up)

  is_first : (r : Policy) → (r ≡ any_policy → ⊥) → In r reached → LeadsTo (level_of leads expectations) any_policy r → In r (firsts (has reached) leads)
  is_first r other alive up =
      map-In (λ (k : Edge). k.1) (any_policy, r) (filter First leads)
      (filter-In First (any_policy, r) leads (lead_is leads expectations any_policy r up)
      (and (is_any any_policy) (not (is_any r) && has reached r) (any_is any_policy refl) (and (not (is_any r)) (has reached r) (is_not (is_any r) (other_is r other)) (In-has r reached alive))))

  pub back_right : (above : List Policy) → has above ≡ has (parents (has reached) leads) → IsBack (level_of leads expectations) reached above (firsts (has reached) leads)
  back_right above same = record {
    up = λ u. (back_up above same u, (λ (v, alive, h). up_back above same u v alive h));
    first = λ r. (first_is r, (λ (other, alive, h). is_first r other alive h));
  }
