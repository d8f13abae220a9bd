-- Levels of a path that hang together, from the root on, last first.
use Rattle.std.specs.Prelude.{◌≡◌, List, [], ◌∷◌}
use Rattle.x509_policy.specs.Values.{Policy, any_policy}
use Rattle.x509_policy.specs.Levels.{Level, IsAt, Expects, LeadsTo, last_level}

pub record Hangs (level above : Level) : Type 0 where
  pub from_above : (u v : Policy) → LeadsTo level u v → IsAt above u
  pub follows : (v : Policy) → IsAt level v → (u : Policy) × LeadsTo level u v
  pub any_alone : (u : Policy) → LeadsTo level u any_policy → u ≡ any_policy

pub data AllHang : List Level → Type 0 where
  root : AllHang []
  hangs : {level : Level} {levels : List Level} → Hangs level (last_level levels) → AllHang levels → AllHang (level ∷ levels)

-- what holds of the levels where a certificate is looked at
pub record Stands (levels : List Level) : Type 0 where
  pub all : AllHang levels
  pub any_expected : (v : Policy) → Expects (last_level levels) v any_policy → v ≡ any_policy
