-- What calls from C answer of Merkle trees over SHA-256, whose hashes come as octets (RFC 6962 2.1).
use Rattle.std.specs.Prelude.{◌≡◌, ◌⊎◌, ℕ, List, length, Some, All}
use Rattle.std.specs.List.{flat_map}
use Rattle.sha2.specs.Sha256.{sha256}
use Rattle.x509_c_calls.specs.declared.status.status.Status.{Status}
use Rattle.x509_c_calls.specs.declared.status.status.Status.TheVariants.{Done, NoRoom, Absent, Repeated, Faulty, Limit, Refused}
use Rattle.x509_der.specs.declared.error.ErrorKind.TheVariants.{Failed, Memory}
use Rattle.x509_merkle.specs.Merkle.{Octets, recomputed_root, recomputed_roots}

-- 32 octets
abbrev pub IsHash : Octets → Type 0
IsHash octets = length octets ≡ 32

-- the octets are these hashes, one behind the other
pub record AreHashes (octets : List ℕ) (hashes : List Octets) : Type 0 where
  pub each : All (λ hash. IsHash hash) hashes
  pub joined : octets ≡ flat_map (λ hash. hash) hashes

-- the audit path leads from the hash of the leaf to the root of the tree (2.1.1)
pub record IsIncluded (leaf : Octets) (index size : ℕ) (path root : List ℕ) : Type 0 where
  pub hashes : List Octets
  pub are : AreHashes path hashes
  pub sizes : IsHash leaf × IsHash root
  pub leads : recomputed_root sha256 leaf index size hashes ≡ Some root

-- the proof leads from the root of the first leaves to that root and to the root of all (2.1.2)
pub record IsConsistent (old new : ℕ) (old_root new_root proof : List ℕ) : Type 0 where
  pub hashes : List Octets
  pub are : AreHashes proof hashes
  pub sizes : IsHash old_root × IsHash new_root
  pub leads : recomputed_roots sha256 old_root old new hashes ≡ Some (record { old = old_root; new = new_root })

-- What a call answers that verifies something: done where it holds, Failed where it doesn't; memory may always be refused.
unfoldable pub Verifies : Type 0 → Status → Type 0
Verifies holds Done = holds
Verifies holds (Refused e) = (e ≡ Memory) ⊎ ((e ≡ Failed) × (holds → ⊥))
Verifies holds NoRoom = ⊥
Verifies holds Absent = ⊥
Verifies holds Repeated = ⊥
Verifies holds Faulty = ⊥
Verifies holds Limit = ⊥
