-- What certificates say of policies, and what a caller asks of a path (RFC 5280 4.2.1.4, 4.2.1.5, 4.2.1.11, 4.2.1.14, 6.1.1).
use Rattle.std.specs.Prelude.{ℕ, Bool, false, ◌||◌, List, [], ◌∷◌, Option}
use Rattle.std.specs.List.{list_any}
use Rattle.std.specs.Str.{bytes_eq}

-- a policy: the contents octets of its OBJECT IDENTIFIER
abbrev pub Policy : Type 0
Policy = List ℕ

-- id-ce-certificatePolicies-anyPolicy, 2.5.29.32.0 (4.2.1.4)
abbrev pub any_policy : Policy
any_policy = 85 ∷ 29 ∷ 32 ∷ 0 ∷ []

unfoldable pub is_any : Policy → Bool
is_any p = bytes_eq p any_policy

-- whether a set of policies has this one
unfoldable pub has : List Policy → Policy → Bool
has set p = list_any (λ q. bytes_eq q p) set

pub record Mapping : Type 0 where
  pub issuer_domain_policy : Policy
  pub subject_domain_policy : Policy

-- What one certificate says. Qualifiers are left out, since nothing that is answered depends on them (RFC 9618 does so too).
pub record Certificate : Type 0 where
  -- certificatePolicies, where the certificate has that extension
  pub policies : Option (List Policy)
  -- policyMappings, none where it doesn't have it
  pub mappings : List Mapping
  -- policyConstraints
  pub require_explicit_policy : Option ℕ
  pub inhibit_policy_mapping : Option ℕ
  -- inhibitAnyPolicy
  pub inhibit_any_policy : Option ℕ
  pub is_self_issued : Bool

-- What the caller asks (6.1.1 (c), (e), (f), (g)). A caller that isn't concerned about policies has any-policy in the set.
pub record Settings : Type 0 where
  pub user_initial_policy_set : List Policy
  pub initial_policy_mapping_inhibit : Bool
  pub initial_explicit_policy : Bool
  pub initial_any_policy_inhibit : Bool

-- a policy twice in one certificate (4.2.1.4)
abbrev pub is_repeated : List Policy → Bool
is_repeated [] = false
is_repeated (p ∷ ps) = has ps p || is_repeated ps

-- a mapping from or to any-policy (6.1.4 (a))
abbrev pub maps_any_policy : List Mapping → Bool
maps_any_policy ms = list_any (λ m. is_any m.issuer_domain_policy || is_any m.subject_domain_policy) ms
