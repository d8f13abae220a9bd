-- Levels by pairs: of a policy with one that leads to it, and with one that it expects. Each step of RFC 5280 6.1.3 (d) and 6.1.4 (b) is a filter of such
-- pairs.
use Rattle.std.specs.Prelude.{◌≡◌, ◌↔◌, Bool, true, false, not, ◌&&◌, ◌||◌, List, [], ◌∷◌, ◌++◌, filter, map, if◌then◌else◌, Option, Some, None}
use Rattle.x509_policy.specs.Values.{Policy, any_policy, is_any, has, Mapping}
use Rattle.x509_policy.specs.Levels.{In, Level, IsAt, Expects}
use Rattle.x509_policy.specs.declared.level.Lead.{Lead}
use Rattle.x509_policy.specs.declared.level.Expectation.{Expectation}
use Rattle.x509_policy.specs.declared.level.NextLevel.{NextLevel}
use Rattle.x509_policy.specs.declared.level.Level as code

-- (u, v): u, a policy of the level above, leads to v; or (x, v): v expects x
abbrev pub Edge : Type 0
Edge = Policy × Policy

abbrev pub lead_of : Lead → Edge
lead_of l = (l.parent.now, l.valid.now)

abbrev pub leads_of : List Lead → List Edge
leads_of leads = map lead_of leads

abbrev pub expectation_of : Expectation → Edge
expectation_of e = (e.expected.now, e.valid.now)

-- the level of these
abbrev pub level_of : List Edge → List Edge → Level
level_of leads expectations =
    map (λ l. record { valid = l.1; expected = []; parents = l.0 ∷ [] }) leads
    ++ map (λ e. record { valid = e.1; expected = e.0 ∷ []; parents = [] }) expectations

-- what is expected on a level, by pairs (x, v) where v expects x
pub record Expecting (level : Level) (expectations : List Edge) : Type 0 where
  pub expects : (v x : Policy) → Expects level v x ↔ In (x, v) expectations
  pub any_itself : IsAt level any_policy → Expects level any_policy any_policy
  pub any_expected : (v : Policy) → Expects level v any_policy → v ≡ any_policy

abbrev pub each_itself : List Policy → List Edge
each_itself policies = map (λ p. (p, p)) policies

abbrev pub ends : List Edge → List Policy
ends leads = map (λ l. l.1) leads

-- ---- 6.1.3 (d), where sets of policies are told by their members

-- (d) (1) (i), and (d) (2) where it is done for all that is expected
abbrev pub followers : (Policy → Bool) → Bool → List Edge → List Edge
followers named all above = map (λ e. (e.1, e.0)) (filter (λ e. all || (not (is_any e.0) && named e.0)) above)

-- (d) (1) (ii)
abbrev pub below_any : List Policy → (Policy → Bool) → List Edge
below_any policies there = if there any_policy then map (λ p. (any_policy, p)) (filter (λ p. not (is_any p) && not (there p)) policies) else []

abbrev pub next_leads : List Policy → (Policy → Bool) → Bool → List Edge → List Edge
next_leads policies named others above = followers named (others && named any_policy) above ++ below_any policies (has (map (λ e. e.0) above))

abbrev pub certificate_leads : Option (List Policy) → Bool → List Edge → List Edge
certificate_leads None others above = []
certificate_leads (Some policies) others above = next_leads policies (has policies) others above

-- the level with these leads
abbrev pub IsLevelOf : List Edge → NextLevel → Type 0
IsLevelOf leads next = (leads_of next.leads.items ≡ leads) × (has next.policies ≡ has (ends leads))

-- the policies of the level are those that are led to
abbrev pub ListsEnds : NextLevel → Type 0
ListsEnds next = has next.policies ≡ has (ends (leads_of next.leads.items))

-- ---- 6.1.4 (b)

-- (b) (2)
abbrev pub unmapped_leads : (Policy → Bool) → List Edge → List Edge
unmapped_leads issuers leads = filter (λ l. not (issuers l.1)) leads

-- a policy that isn't mapped expects itself
abbrev pub selves : (Policy → Bool) → List Policy → List Edge
selves issuers policies = map (λ p. (p, p)) (filter (λ p. not (issuers p)) policies)

-- (b) (1): a policy that is there expects what it is mapped to, and each does where any-policy is there
abbrev pub mapped : (Policy → Bool) → List Mapping → List Edge
mapped there mappings = map (λ m. (m.subject_domain_policy, m.issuer_domain_policy)) (filter (λ m. there any_policy || there m.issuer_domain_policy) mappings)

abbrev pub prepared_leads : List Policy → List Edge → List Policy → Bool → List Edge
prepared_leads issuers leads policies true = unmapped_leads (has issuers) leads
prepared_leads issuers leads policies false = leads ++ below_any issuers (has policies)

abbrev pub prepared_expectations : List Policy → List Policy → List Mapping → Bool → List Edge
prepared_expectations issuers policies mappings true = selves (has issuers) policies
prepared_expectations issuers policies mappings false = selves (has issuers) policies ++ mapped (has policies) mappings

-- what is left of the level with these leads and policies; the issuers' policies may stand in any order
pub record IsPreparedOf (leads : List Edge) (policies : List Policy) (mappings : List Mapping) (is_inhibited : Bool) (level : code.Level) : Type 0 where
  pub issuers : List Policy
  pub same : has issuers ≡ has (map (λ m. m.issuer_domain_policy) mappings)
  pub has_leads : leads_of level.leads.items ≡ prepared_leads issuers leads policies is_inhibited
  pub has_expectations : map expectation_of level.expectations.items ≡ prepared_expectations issuers policies mappings is_inhibited

-- ---- the way back

abbrev pub parents : (Policy → Bool) → List Edge → List Policy
parents reached leads = map (λ l. l.0) (filter (λ l. reached l.1) leads)

abbrev pub firsts : (Policy → Bool) → List Edge → List Policy
firsts reached leads = map (λ l. l.1) (filter (λ l. is_any l.0 && (not (is_any l.1) && reached l.1)) leads)

abbrev pub with_any : List Policy → List Policy
with_any policies = if has policies any_policy then any_policy ∷ [] else []

-- of these, where any-policy stands for all
abbrev pub asked : List Policy → (Policy → Bool) → List Policy
asked user leading = filter (λ p. leading p || leading any_policy) user

-- 6.1.5 (g)
abbrev pub constrained : List Policy → List Policy → List Policy
constrained user leading = if has user any_policy then leading else asked user (has leading)
