-- Small paths, and what the definition says of them.
use Rattle.std.specs.Prelude.{◌≡◌, true, false, List, [], ◌∷◌, Some, None, refl}
use Rattle.x509_policy.specs.Values.{Policy, any_policy, is_any, has, Mapping, Certificate, Settings}
use Rattle.x509_policy.specs.Path.{Refused, Valid, NoPolicy, RepeatedPolicy, MapsAnyPolicy, outcome}

abbrev p : Policy
p = 42 ∷ 1 ∷ []

abbrev q : Policy
q = 42 ∷ 2 ∷ []

-- a certificate with these policies and nothing else
abbrev with_policies : List Policy → Certificate
with_policies ps = record { policies = Some ps; mappings = []; require_explicit_policy = None; inhibit_policy_mapping = None; inhibit_any_policy = None; is_self_issued = false }

abbrev without_policies : Certificate
without_policies = record (with_policies []) { policies = None }

abbrev mapping : Policy → Policy → Mapping
mapping from to = record { issuer_domain_policy = from; subject_domain_policy = to }

-- p, which is mapped to q
abbrev p_is_q : Certificate
p_is_q = record (with_policies (p ∷ [])) { mappings = mapping p q ∷ [] }

abbrev asking : List Policy → Settings
asking user = record { user_initial_policy_set = user; initial_policy_mapping_inhibit = false; initial_explicit_policy = false; initial_any_policy_inhibit = false }

-- some policy is asked for
abbrev some_of : List Policy → Settings
some_of user = record (asking user) { initial_explicit_policy = true }

pub one_policy : outcome (asking (any_policy ∷ [])) (with_policies (p ∷ q ∷ [])) [] ≡ Valid (p ∷ q ∷ [])
unfolding is_any has
one_policy = refl

pub no_extension : outcome (asking (any_policy ∷ [])) without_policies [] ≡ Valid []
unfolding is_any has
no_extension = refl

pub none_where_some_is_asked : outcome (some_of (any_policy ∷ [])) without_policies [] ≡ Refused 0 NoPolicy
unfolding is_any has
none_where_some_is_asked = refl

-- a certificate below without the policy of the one above
pub other_below : outcome (some_of (any_policy ∷ [])) (with_policies (p ∷ [])) (with_policies (q ∷ []) ∷ []) ≡ Refused 1 NoPolicy
unfolding is_any has
other_below = refl

-- any-policy above stands for each below
pub below_any : outcome (some_of (any_policy ∷ [])) (with_policies (any_policy ∷ [])) (with_policies (q ∷ []) ∷ []) ≡ Valid (q ∷ [])
unfolding is_any has
below_any = refl

-- any-policy on the last certificate stands for those that are asked for
pub any_last : outcome (some_of (p ∷ q ∷ [])) (with_policies (any_policy ∷ [])) (with_policies (any_policy ∷ []) ∷ []) ≡ Valid (p ∷ q ∷ [])
unfolding is_any has
any_last = refl

-- the caller asks for q alone, and p is what the path has
pub not_asked : outcome (some_of (q ∷ [])) (with_policies (p ∷ [])) [] ≡ Refused 0 NoPolicy
unfolding is_any has
not_asked = refl

-- q below is p above, the policy of the trust anchor's domain
pub mapped : outcome (some_of (p ∷ [])) p_is_q (with_policies (q ∷ []) ∷ []) ≡ Valid (p ∷ [])
unfolding is_any has
mapped = refl

-- where mapping is inhibited from the start p is deleted
pub mapping_inhibited : outcome (record (some_of (p ∷ [])) { initial_policy_mapping_inhibit = true }) p_is_q (with_policies (q ∷ []) ∷ []) ≡ Refused 1 NoPolicy
unfolding is_any has
mapping_inhibited = refl

-- p is mapped, which any-policy stands for
pub mapped_by_any : outcome (some_of (any_policy ∷ [])) (record (with_policies (any_policy ∷ [])) { mappings = mapping p q ∷ [] }) (with_policies (q ∷ []) ∷ []) ≡ Valid (p ∷ [])
unfolding is_any has
mapped_by_any = refl

-- any-policy of a certificate isn't taken where it is inhibited
pub any_inhibited : outcome (record (some_of (any_policy ∷ [])) { initial_any_policy_inhibit = true }) (with_policies (any_policy ∷ [])) [] ≡ Refused 0 NoPolicy
unfolding is_any has
any_inhibited = refl

-- but of one that is self-issued, above the last
pub any_self_issued : outcome (record (some_of (any_policy ∷ [])) { initial_any_policy_inhibit = true }) (record (with_policies (any_policy ∷ [])) { is_self_issued = true }) (with_policies (p ∷ []) ∷ []) ≡ Valid (p ∷ [])
unfolding is_any has
any_self_issued = refl

-- requireExplicitPolicy 0 asks for a policy of the certificates below
pub explicit_below : outcome (asking (any_policy ∷ [])) (record without_policies { require_explicit_policy = Some 0 }) (without_policies ∷ []) ≡ Refused 1 NoPolicy
unfolding is_any has
explicit_below = refl

pub twice : outcome (asking (any_policy ∷ [])) (with_policies (p ∷ p ∷ [])) [] ≡ Refused 0 RepeatedPolicy
unfolding is_any has
twice = refl

pub to_any : outcome (asking (any_policy ∷ [])) (record (with_policies (p ∷ [])) { mappings = mapping p any_policy ∷ [] }) (with_policies (p ∷ []) ∷ []) ≡ Refused 0 MapsAnyPolicy
unfolding is_any has
to_any = refl
