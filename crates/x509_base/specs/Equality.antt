-- Equality of algorithms and of public keys is exact.
use Rattle.std.specs.Bool.{Decides}
use Rattle.std.specs.Prelude.{◌≡◌, refl}
use Rattle.std.proofs.lemmas.Bool.Decides.{Decides-and}
use Rattle.x509_base.specs.contracts.algorithm_identifier.AlgorithmIdentifierPartialEq.TheImpl as algorithm_eq
use Rattle.x509_base.specs.contracts.subject_public_key_info.SubjectPublicKeyInfoPartialEq.TheImpl as key_eq
use Rattle.x509_base.specs.contracts.subject_public_key_info_ref.SubjectPublicKeyInfoRefPartialEq.TheImpl as key_ref_eq
use Rattle.x509_base.specs.declared.algorithm_identifier.AlgorithmIdentifier.{AlgorithmIdentifier}
use Rattle.x509_base.specs.declared.subject_public_key_info.SubjectPublicKeyInfo.{SubjectPublicKeyInfo}
use Rattle.x509_base.specs.declared.subject_public_key_info_ref.SubjectPublicKeyInfoRef.{SubjectPublicKeyInfoRef}
use Rattle.x509_der.specs.Exact.{IsExact, exact_octets, exact_option, exact_both, exact_by}
use Rattle.x509_der.specs.Equality.{exact_any}
use Rattle.x509_prim.specs.Equality.{exact_bit_string}
use Rattle.x509_prim.specs.contracts.bit_string.BitStringPartialEq.TheImpl as bit_string_eq

pub exact_algorithm_identifier : IsExact algorithm_eq.ghosts.eq
exact_algorithm_identifier = exact_by (λ (a : AlgorithmIdentifier). (a.oid, a.parameters)) (λ (oid, parameters). record { oid = oid; parameters = parameters }) (λ a. refl) (exact_both exact_octets (exact_option exact_any))

pub exact_subject_public_key_info : IsExact key_eq.ghosts.eq
exact_subject_public_key_info =
    exact_by (λ (s : SubjectPublicKeyInfo). (s.algorithm, s.subject_public_key)) (λ (algorithm, key). record { algorithm = algorithm; subject_public_key = key }) (λ s. refl) (exact_both exact_algorithm_identifier exact_bit_string)

-- of borrowed keys that are the same key
pub key_refs_decide : (a b : SubjectPublicKeyInfoRef) → Decides (key_ref_eq.ghosts.eq a b) ((a.algorithm.now ≡ b.algorithm.now) × (a.subject_public_key.now ≡ b.subject_public_key.now))
key_refs_decide a b =
    Decides-and (algorithm_eq.ghosts.eq a.algorithm.now b.algorithm.now) (bit_string_eq.ghosts.eq a.subject_public_key.now b.subject_public_key.now)
    (exact_algorithm_identifier a.algorithm.now b.algorithm.now) (exact_bit_string a.subject_public_key.now b.subject_public_key.now)
