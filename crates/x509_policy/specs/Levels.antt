-- The policies of a path without the tree: for each certificate one level, with each policy once, what it expects and which policies of the level above
-- lead to it. It grows with what certificates say, where the tree may grow exponentially (RFC 9618).
use Rattle.std.specs.Prelude.{◌≡◌, ◌≢◌, ◌⊎◌, ◌↔◌, ℕ, suc, ◌==◌, Bool, true, false, List, [], ◌∷◌, Option, Some, None}
use Rattle.x509_policy.specs.Values.{Policy, any_policy, maps_any_policy, Mapping, Certificate, Settings}
use Rattle.x509_policy.specs.Tree.{subjects}
use Rattle.x509_policy.specs.Path.{Counters, next_counters, last_explicit_policy, takes_others, has_repeated, Outcome, Refused, Valid, RepeatedPolicy, MapsAnyPolicy, NoPolicy}
use Rattle.x509_policy.specs.Leaves.{first_of_way}

abbrev pub In : {X : Type 0} → X → List X → Type 0
In x [] = ⊥
In x (y ∷ ys) = (y ≡ x) ⊎ In x ys

pub record Entry : Type 0 where
  pub valid : Policy
  pub expected : List Policy
  pub parents : List Policy

abbrev pub Level : Type 0
Level = List Entry

abbrev pub IsAt : Level → Policy → Type 0
IsAt level v = (e : Entry) × In e level × (e.valid ≡ v)

-- v expects x
abbrev pub Expects : Level → Policy → Policy → Type 0
Expects level v x = (e : Entry) × In e level × (e.valid ≡ v) × In x e.expected

-- u, a policy of the level above, leads to v
abbrev pub LeadsTo : Level → Policy → Policy → Type 0
LeadsTo level u v = (e : Entry) × In e level × (e.valid ≡ v) × In u e.parents

-- the root
abbrev pub initial_level : Level
initial_level = record { valid = any_policy; expected = any_policy ∷ []; parents = [] } ∷ []

-- the last of these levels, which stand last first, below the root
abbrev pub last_level : List Level → Level
last_level [] = initial_level
last_level (level ∷ levels) = level

-- ---- 6.1.3 (d), (e)

-- v may follow u: it is named, and u expects it, or none does and u is any-policy; or any-policy is named, and u expects it
abbrev pub MayFollow : List Policy → Bool → Level → Policy → Policy → Type 0
MayFollow policies others above u v =
    (In v policies × (v ≢ any_policy) × (Expects above u v ⊎ (IsAt above u × (u ≡ any_policy) × ((w : Policy) → Expects above w v → ⊥))))
    ⊎ ((others ≡ true) × In any_policy policies × Expects above u v)

pub record IsProcessed (policies : List Policy) (others : Bool) (above level : Level) : Type 0 where
  pub leads : (u v : Policy) → LeadsTo level u v ↔ MayFollow policies others above u v
  pub expects : (v x : Policy) → Expects level v x ↔ (IsAt level v × (v ≡ x))
  pub follows : (v : Policy) → IsAt level v → (u : Policy) × LeadsTo level u v

-- the level of a certificate with these policies, or without the extension
abbrev pub IsNext : Option (List Policy) → Bool → Level → Level → Type 0
IsNext None others above level = level ≡ []
IsNext (Some policies) others above level = IsProcessed policies others above level

-- ---- 6.1.4 (b)

abbrev pub IsIssuer : List Mapping → Policy → Type 0
IsIssuer mappings id = (m : Mapping) × In m mappings × (m.issuer_domain_policy ≡ id)

-- (b) (1)
pub record IsMapped (mappings : List Mapping) (level mapped : Level) : Type 0 where
  pub leads : (u v : Policy) → LeadsTo mapped u v ↔ (LeadsTo level u v ⊎ (IsIssuer mappings v × (IsAt level v → ⊥) × LeadsTo level u any_policy))
  pub expects_mapped : (v x : Policy) → IsIssuer mappings v → Expects mapped v x ↔ (IsAt mapped v × In x (subjects mappings v))
  pub expects_other : (v x : Policy) → (IsIssuer mappings v → ⊥) → Expects mapped v x ↔ Expects level v x
  pub follows : (v : Policy) → IsAt mapped v → (u : Policy) × LeadsTo mapped u v

-- (b) (2)
pub record IsUnmapped (mappings : List Mapping) (level unmapped : Level) : Type 0 where
  pub leads : (u v : Policy) → LeadsTo unmapped u v ↔ (LeadsTo level u v × (IsIssuer mappings v → ⊥))
  pub expects : (v x : Policy) → Expects unmapped v x ↔ (Expects level v x × (IsIssuer mappings v → ⊥))
  pub follows : (v : Policy) → IsAt unmapped v → (u : Policy) × LeadsTo unmapped u v

abbrev pub IsPrepared : List Mapping → Bool → Level → Level → Type 0
IsPrepared mappings true level prepared = IsUnmapped mappings level prepared
IsPrepared mappings false level prepared = IsMapped mappings level prepared

-- ---- 6.1.5 (g)

-- a way down these levels, last first, to v, of which r is the first policy that isn't any-policy, or any-policy where all are
abbrev pub Way : List Level → Policy → Policy → Type 0
Way [] r v = (r ≡ any_policy) × (v ≡ any_policy)
Way (level ∷ levels) r v = (u : Policy) × (w : Policy) × Way levels w u × LeadsTo level u v × (r ≡ first_of_way w v)

-- the policies under any-policy that lead to the last level
abbrev pub Leads : List Level → Policy → Type 0
Leads levels r = (v : Policy) × Way levels r v

-- One step of the way back: `above` are the policies of the level above that lead to one that is reached on this level, and `here` those that are
-- reached and stand right below any-policy.
pub record IsBack (level : Level) (reached above here : List Policy) : Type 0 where
  pub up : (u : Policy) → In u above ↔ ((v : Policy) × In v reached × LeadsTo level u v)
  pub first : (r : Policy) → In r here ↔ ((r ≢ any_policy) × In r reached × LeadsTo level any_policy r)

-- the policies right below any-policy, from which a way leads to one that is reached on the last level, found level by level back to the root
pub data GoesBack : List Level → List Policy → List Policy → Type 0 where
  at_root : {reached : List Policy} → GoesBack [] reached []
  one_back : {level : Level} {levels : List Level} {reached above here more found : List Policy}
      → IsBack level reached above here → GoesBack levels above more → ((r : Policy) → In r found ↔ (In r here ⊎ In r more)) → GoesBack (level ∷ levels) reached found

-- The user-constrained policy set: all that lead to the last level; where the caller asks for some, those; or all that are asked for, where any-policy
-- is on the last level.
abbrev pub IsConstrained : List Policy → List Level → Policy → Type 0
IsConstrained user levels p = (Leads levels p × In any_policy user) ⊎ (In p user × (In any_policy user → ⊥) × (Leads levels p ⊎ Leads levels any_policy))

-- ---- a path

abbrev pub is_last : List Certificate → Bool
is_last [] = true
is_last (next ∷ rest) = false

-- What is answered to a path by its levels, under the steps of `outcome_from`: `depth` certificates stand before this one, which left these counters and
-- these levels, last first.
pub data ByLevels (settings : Settings) : ℕ → Counters → List Level → Certificate → List Certificate → Outcome → Type 0 where
  repeated : {depth : ℕ} {counters : Counters} {levels : List Level} {c : Certificate} {rest : List Certificate}
      → has_repeated c.policies ≡ true → ByLevels settings depth counters levels c rest (Refused depth RepeatedPolicy)
  -- 6.1.3 (f)
  none_left : {depth : ℕ} {counters : Counters} {levels : List Level} {c : Certificate} {rest : List Certificate}
      → has_repeated c.policies ≡ false
      → (level : Level) → IsNext c.policies (takes_others c (is_last rest) counters.inhibit_any_policy) (last_level levels) level
      → counters.explicit_policy ≡ 0 → level ≡ [] → ByLevels settings depth counters levels c rest (Refused depth NoPolicy)
  -- 6.1.4 (a)
  maps_any : {depth : ℕ} {counters : Counters} {levels : List Level} {c next : Certificate} {rest : List Certificate}
      → has_repeated c.policies ≡ false
      → (level : Level) → IsNext c.policies (takes_others c false counters.inhibit_any_policy) (last_level levels) level
      → (counters.explicit_policy ≡ 0 → level ≡ [] → ⊥) → maps_any_policy c.mappings ≡ true
      → ByLevels settings depth counters levels c (next ∷ rest) (Refused depth MapsAnyPolicy)
  goes_on : {depth : ℕ} {counters : Counters} {levels : List Level} {c next : Certificate} {rest : List Certificate} {out : Outcome}
      → has_repeated c.policies ≡ false
      → (level : Level) → IsNext c.policies (takes_others c false counters.inhibit_any_policy) (last_level levels) level
      → (counters.explicit_policy ≡ 0 → level ≡ [] → ⊥) → maps_any_policy c.mappings ≡ false
      → (prepared : Level) → IsPrepared c.mappings (counters.policy_mapping == 0) level prepared
      → ByLevels settings (suc depth) (next_counters c counters) (prepared ∷ levels) next rest out
      → ByLevels settings depth counters levels c (next ∷ rest) out
  -- 6.1.5
  none_constrained : {depth : ℕ} {counters : Counters} {levels : List Level} {c : Certificate}
      → has_repeated c.policies ≡ false
      → (level : Level) → IsNext c.policies (takes_others c true counters.inhibit_any_policy) (last_level levels) level
      → (counters.explicit_policy ≡ 0 → level ≡ [] → ⊥) → last_explicit_policy c counters.explicit_policy ≡ 0
      → ((p : Policy) → IsConstrained settings.user_initial_policy_set (level ∷ levels) p → ⊥)
      → ByLevels settings depth counters levels c [] (Refused depth NoPolicy)
  valid : {depth : ℕ} {counters : Counters} {levels : List Level} {c : Certificate}
      → has_repeated c.policies ≡ false
      → (level : Level) → IsNext c.policies (takes_others c true counters.inhibit_any_policy) (last_level levels) level
      → (counters.explicit_policy ≡ 0 → level ≡ [] → ⊥)
      → (policies : List Policy) → ((p : Policy) → In p policies ↔ IsConstrained settings.user_initial_policy_set (level ∷ levels) p)
      → (last_explicit_policy c counters.explicit_policy ≡ 0 → policies ≡ [] → ⊥)
      → ByLevels settings depth counters levels c [] (Valid policies)

-- the same outcome, where a set of policies may be listed in any order
abbrev pub Alike : Outcome → Outcome → Type 0
Alike (Refused place reason) (Refused p r) = (place ≡ p) × (reason ≡ r)
Alike (Refused place reason) (Valid qs) = ⊥
Alike (Valid ps) (Refused p r) = ⊥
Alike (Valid ps) (Valid qs) = (p : Policy) → In p ps ↔ In p qs
