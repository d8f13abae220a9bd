-- What may be said against one certificate of a path (RFC 5280 6.1.3, 6.1.4), and against how many follow another.
use Rattle.std.specs.Prelude.{◌≡◌, ◌≢◌, ◌<◌, ◌⊎◌, ℕ, zero, suc, Bool, true, false, List, [], ◌∷◌, Option, Some, None}
use Rattle.std.specs.List.{All}
use Rattle.x509_base.specs.CivilTime.{CivilTime, unix_seconds}
use Rattle.x509_base.specs.Time.{date_time_of}
use Rattle.x509_base.specs.declared.profile.Rfc5280.{Rfc5280}
use Rattle.x509_base.specs.declared.validity.Validity.{Validity}
use Rattle.x509_base.specs.declared.algorithm_identifier.AlgorithmIdentifier.{AlgorithmIdentifier}
use Rattle.x509_base.specs.declared.subject_public_key_info.SubjectPublicKeyInfo.{SubjectPublicKeyInfo}
use Rattle.x509_cert.specs.Signed.{IsSignedPart}
use Rattle.x509_cert.specs.declared.certificate.certificate.CertificateInner.{CertificateInner}
use Rattle.x509_der.specs.Form.{Form, Spells}
use Rattle.x509_ext.specs.Identifiers.{id_ce}
use Rattle.x509_ext.specs.declared.extension.Extension.{Extension}
use Rattle.x509_ext.specs.AlternativeNames.{subject_alt_name}
use Rattle.x509_ext.specs.BasicConstraints.{basic_constraints}
use Rattle.x509_ext.specs.ExtendedKeyUsage.{extended_key_usage}
use Rattle.x509_ext.specs.KeyUsage.{key_usage, has_bit}
use Rattle.x509_ext.specs.declared.pkix.basic_constraints.BasicConstraints.{BasicConstraints}
use Rattle.x509_ext.specs.declared.pkix.key_usage.KeyUsage.{KeyUsage}
use Rattle.x509_ext.specs.LookUp.{members, with_oid}
use Rattle.x509_name.specs.declared.attr.type_and_value.AttributeTypeAndValue.{AttributeTypeAndValue}
use Rattle.x509_prim.specs.BitString.{BitParts}

abbrev pub Certificate : Type 0
Certificate = CertificateInner Rfc5280

abbrev pub extensions_of : Certificate → List Extension
extensions_of c = members c.tbs_certificate.extensions

-- ---- extensions (RFC 5280 4.2)

-- one has the identifier, and its octets spell the value
abbrev pub HasPayload : {T : Type 0} → Form T → List ℕ → List Extension → T → Type 0
HasPayload form oid extensions value = (e : Extension) × (with_oid oid extensions ≡ e ∷ []) × Spells form value e.extn_value

-- it has the identifier, and its octets spell a value
abbrev pub IsReadable : {T : Type 0} → Form T → List ℕ → Extension → Type 0
IsReadable {T} form oid extension = (extension.extn_id ≡ oid) × ((value : T) × Spells form value extension.extn_value)

-- it is a BasicConstraints, KeyUsage, ExtendedKeyUsage or SubjectAltName that can be read
abbrev pub IsKnown : Extension → Type 0
IsKnown e =
    IsReadable basic_constraints (id_ce 19) e ⊎ (IsReadable key_usage (id_ce 15) e
    ⊎ (IsReadable extended_key_usage (id_ce 37) e ⊎ IsReadable subject_alt_name (id_ce 17) e))

-- the certificate is that of a certification authority (RFC 5280 4.2.1.9)
abbrev pub IsCa : List Extension → Type 0
IsCa extensions = (b : BasicConstraints) × HasPayload basic_constraints (id_ce 19) extensions b × (b.ca ≡ true)

-- a KeyUsage is there, and says nowhere that the key signs certificates (RFC 5280 4.2.1.3)
abbrev pub LacksKeyCertSign : List Extension → Type 0
LacksKeyCertSign extensions = (with_oid (id_ce 15) extensions ≢ []) × ((u : KeyUsage) → HasPayload key_usage (id_ce 15) extensions u → has_bit u 5 ≡ false)

-- how many certificates that aren't self-issued may follow, the last aside (RFC 5280 4.2.1.9)
abbrev pub HasPathLen : List Extension → ℕ → Type 0
HasPathLen extensions k = (b : BasicConstraints) × HasPayload basic_constraints (id_ce 19) extensions b × (b.path_len_constraint ≡ Some k)

-- ---- what is wrong with a certificate

-- the algorithm that is signed isn't that outside (RFC 5280 4.1.1.2)
abbrev pub HasTwoAlgorithms : Certificate → Type 0
HasTwoAlgorithms c = c.tbs_certificate.signature ≢ c.signature_algorithm

-- the moment is before the one date or after the other (RFC 5280 6.1.3 (a) (2), 4.1.2.5)
abbrev pub IsOutside : CivilTime → Validity Rfc5280 → Type 0
IsOutside moment validity = (unix_seconds moment < unix_seconds (date_time_of validity.not_before)) ⊎ (unix_seconds (date_time_of validity.not_after) < unix_seconds moment)

-- what a verifier says: whether these bits are a signature of the message, by the algorithm, for the key
abbrev pub Accepting : Type 0
Accepting = AlgorithmIdentifier → SubjectPublicKeyInfo → List ℕ → BitParts → Bool

-- all bits are taken for a signature
abbrev pub accept_all : Accepting
accept_all algorithm key message signature = true

-- its bits are accepted as a signature of what is signed in the bytes as they stand, for the key (RFC 5280 6.1.3 (a) (1))
abbrev pub IsSigned : Accepting → SubjectPublicKeyInfo → List ℕ → Certificate → Type 0
IsSigned accepts key bytes c = (signed : List ℕ) × IsSignedPart bytes signed × (accepts c.signature_algorithm key signed c.signature ≡ true)

-- each critical extension is known (RFC 5280 4.2, 6.1.4 (o), 6.1.5 (f))
abbrev pub AreHandled : List Extension → Type 0
AreHandled extensions = All (λ e. e.critical ≡ true → IsKnown e) extensions

-- ---- how many certificates follow (RFC 5280 6.1.4 (l), (m))

-- which names are the same
abbrev pub Sameness : Type 1
Sameness = List (List AttributeTypeAndValue) → List (List AttributeTypeAndValue) → Type 0

abbrev pub AreEqual : Sameness
AreEqual x y = x ≡ y

-- the subject is the issuer (RFC 5280 6.1)
abbrev pub IsSelfIssued : Sameness → Certificate → Type 0
IsSelfIssued Same c = Same c.tbs_certificate.subject c.tbs_certificate.issuer

-- so many of them, or more, aren't self-issued
abbrev pub HasOthers : Sameness → ℕ → List Certificate → Type 0
HasOthers Same zero certificates = Unit {0}
HasOthers Same (suc count) [] = ⊥
HasOthers Same (suc count) (c ∷ behind) = ((IsSelfIssued Same c → ⊥) × HasOthers Same count behind) ⊎ HasOthers Same (suc count) behind

-- more of them aren't self-issued than may follow
abbrev pub IsOver : Sameness → Option ℕ → List Certificate → Type 0
IsOver Same None certificates = ⊥
IsOver Same (Some max_path_length) certificates = HasOthers Same (suc max_path_length) certificates

-- of certificates, topmost first, one has a path length, and more of those behind it than that aren't self-issued
abbrev pub IsTooLong : Sameness → List Certificate → Type 0
IsTooLong Same [] = ⊥
IsTooLong Same (c ∷ behind) = ((k : ℕ) × HasPathLen (extensions_of c) k × IsOver Same (Some k) behind) ⊎ IsTooLong Same behind
