-- Values of extensions that are encoded of what a caller says of them.
use Rattle.std.specs.Prelude.{◌≡◌, ◌<◌, ◌≤◌, ◌⊎◌, ℕ, List, [], ◌∷◌, ◌==◌, length, Any, Bool, false, true, Option, Some, None, Result, Ok, Err, if◌then◌else◌}
use Rattle.x509_base.specs.Checked.{CheckRefuses}
use Rattle.x509_base.specs.Profiles.{rfc5280_serial_number}
use Rattle.x509_base.specs.Serial.{serial_number}
use Rattle.x509_c_calls.specs.BasicConstraints.{IsBasicConstraints}
use Rattle.x509_c_calls.specs.BuildMembers.{IsOid}
use Rattle.x509_c_calls.specs.Pieces.{AreCut}
use Rattle.x509_c_calls.specs.Policies.{IsPolicyConstraints}
use Rattle.x509_c_calls.specs.declared.payloads.constraints.BasicConstraintsView.{BasicConstraintsView}
use Rattle.x509_c_calls.specs.declared.payloads.policy.PolicyConstraintsView.{PolicyConstraintsView}
use Rattle.x509_der.specs.Element.{limit}
use Rattle.x509_der.specs.Form.{Form, Spells, spelling}
use Rattle.x509_der.specs.declared.error.ErrorKind.{ErrorKind}
use Rattle.x509_der.specs.declared.error.ErrorKind.TheVariants.{Failed, Malformed, Overlength, Value}
use Rattle.x509_ext.specs.GeneralName.{general_names}
use Rattle.x509_ext.specs.KeyUsage.{has_bit}
use Rattle.x509_ext.specs.declared.pkix.authority_key_identifier.AuthorityKeyIdentifier.{AuthorityKeyIdentifier}
use Rattle.x509_ext.specs.declared.pkix.basic_constraints.BasicConstraints.{BasicConstraints}
use Rattle.x509_ext.specs.declared.pkix.extended_key_usage.ExtendedKeyUsage.{ExtendedKeyUsage}
use Rattle.x509_ext.specs.declared.pkix.inhibit_any_policy.InhibitAnyPolicy.{InhibitAnyPolicy}
use Rattle.x509_ext.specs.declared.pkix.key_usage.KeyUsage.{KeyUsage}
use Rattle.x509_ext.specs.declared.pkix.policy_constraints.PolicyConstraints.{PolicyConstraints}
use Rattle.x509_ext.specs.declared.pkix.crl_number.CrlNumber.{CrlNumber}
use Rattle.x509_ext.specs.declared.pkix.subject_key_identifier.SubjectKeyIdentifier.{SubjectKeyIdentifier}
use Rattle.x509_prim.specs.Integer.{with_sign, without_zeros}
use Rattle.x509_prim.specs.OctetString.{octet_string}
use Rattle.x509_types.specs.Reencoding.{IsRefused}

-- ---- what a call answers

-- The encoding of the value that is described; or why there is none, one reason of which is that it is too long.
abbrev pub EncodesDescribed : {X : Type 0} → Form X → (X → Type 0) → (ErrorKind → Type 0) → Result (List ℕ) ErrorKind → Type 0
EncodesDescribed {X} form described refuses (Ok bytes) = (value : X) × described value × Spells form value bytes
EncodesDescribed {X} form described refuses (Err e) = refuses e ⊎ ((value : X) × described value × (e ≡ Overlength) × (limit < length (spelling form value)))

-- no value is described that has an encoding
abbrev pub DescribesNone : {X : Type 0} → Form X → (X → Type 0) → ErrorKind → Type 0
DescribesNone {X} form described e = (e ≡ Value) × ((value : X) → described value → form.good value → ⊥)

-- ---- the values that are described

-- those that the view says, with a path length constraint only of an authority (RFC 5280 4.2.1.9)
pub record AreBasicConstraints (view : BasicConstraintsView) (constraints : BasicConstraints) : Type 0 where
  pub said : IsBasicConstraints constraints view
  pub of_authority : constraints.ca ≡ false → constraints.path_len_constraint ≡ None

-- at least one bit, and encipherOnly and decipherOnly only beside keyAgreement (RFC 5280 4.2.1.3)
pub record IsKeyUsage (uses : ℕ) (usage : KeyUsage) : Type 0 where
  pub said : usage.0.0 ≡ uses
  pub some : uses ≡ 0 → ⊥
  pub encipher_only : has_bit usage 7 ≡ true → has_bit usage 4 ≡ true
  pub decipher_only : has_bit usage 8 ≡ true → has_bit usage 4 ≡ true

-- those that the view says, at least one of both (RFC 5280 4.2.1.11)
pub record ArePolicyConstraints (view : PolicyConstraintsView) (constraints : PolicyConstraints) : Type 0 where
  pub said : IsPolicyConstraints constraints view
  pub some : constraints.require_explicit_policy ≡ None → constraints.inhibit_policy_mapping ≡ None → ⊥

-- any number of certificates (RFC 5280 4.2.1.14)
abbrev pub IsInhibitAnyPolicy : ℕ → InhibitAnyPolicy → Type 0
IsInhibitAnyPolicy certificates inhibit = inhibit.0 ≡ certificates

-- ---- octets

-- its octets, of which there may be none (RFC 5280 4.2.1.2)
abbrev pub IsSubjectKeyIdentifier : List ℕ → SubjectKeyIdentifier → Type 0
IsSubjectKeyIdentifier octets identifier = identifier.0 ≡ octets

-- The number of these octets, the most significant first, of which there is one at least; its content has at most 20 (RFC 5280 5.2.3).
pub record IsCrlNumber (octets : List ℕ) (number : CrlNumber) : Type 0 where
  pub said : number.0 ≡ with_sign (without_zeros octets)
  pub some : octets ≡ [] → ⊥
  pub short : length number.0 ≤ 20

-- ---- lists of OIDs

-- the purposes into whose content octets the bytes are cut, of which there is one at least (RFC 5280 4.2.1.12)
pub record IsExtendedKeyUsage (bytes lens : List ℕ) (usage : ExtendedKeyUsage) : Type 0 where
  pub said : AreCut bytes lens usage.0
  pub some : lens ≡ [] → ⊥

-- there are none: the lengths don't add up, there is no purpose, or one of them is no OID
abbrev pub RefusesPurposes : List ℕ → List ℕ → ErrorKind → Type 0
RefusesPurposes bytes lens e =
    ((e ≡ Failed) × ((pieces : List (List ℕ)) → AreCut bytes lens pieces → ⊥))
    ⊎ (((e ≡ Value) × (lens ≡ []))
    ⊎ ((e ≡ Malformed) × ((pieces : List (List ℕ)) × AreCut bytes lens pieces × Any (λ piece. IsOid piece → ⊥) pieces)))

-- ---- the identifier of the issuer's key

-- no bytes are no value
abbrev pub SpellsPerhaps : {X : Type 0} → Form X → List ℕ → Option X → Type 0
SpellsPerhaps form [] value = value ≡ None
SpellsPerhaps form (byte ∷ bytes) None = ⊥
SpellsPerhaps form (byte ∷ bytes) (Some value) = Spells form value (byte ∷ bytes)

abbrev pub RefusesPerhaps : {X : Type 0} → Form X → (ErrorKind → Type 0) → List ℕ → ErrorKind → Type 0
RefusesPerhaps form refuses [] e = ⊥
RefusesPerhaps form refuses (byte ∷ bytes) e = IsRefused form refuses (byte ∷ bytes) e

-- The octets of the key's identifier, where they are said to be there; and the names of the issuer and the serial number of a certificate of that key, by their
-- encodings, both of them or neither, and not a list of no names (RFC 5280 4.2.1.1, A.2).
pub record IsAuthorityKeyIdentifierOf (has_key : Bool) (key issuer serial : List ℕ) (identifier : AuthorityKeyIdentifier) : Type 0 where
  pub key_is : identifier.key_identifier ≡ (if has_key then Some key else None)
  pub issuer_is : SpellsPerhaps general_names issuer identifier.authority_cert_issuer
  pub serial_is : SpellsPerhaps (serial_number rfc5280_serial_number) serial identifier.authority_cert_serial_number
  pub both : (length issuer == 0) ≡ (length serial == 0)
  pub some : identifier.authority_cert_issuer ≡ Some [] → ⊥

-- there is none: an encoding is refused, or there is one of the two alone; or there are no names in the list; or the identifier is there and too long
abbrev pub RefusesAuthorityKeyIdentifier : Bool → List ℕ → List ℕ → List ℕ → ErrorKind → Type 0
RefusesAuthorityKeyIdentifier has_key key issuer serial e =
    RefusesPerhaps general_names (λ e. ⊥) issuer e
    ⊎ (RefusesPerhaps (serial_number rfc5280_serial_number) (CheckRefuses rfc5280_serial_number) serial e
    ⊎ (((e ≡ Value) × ((length issuer == 0) ≡ (length serial == 0) → ⊥))
    ⊎ (((e ≡ Value) × Spells general_names [] issuer)
    ⊎ ((has_key ≡ true) × (e ≡ Overlength) × (limit < length (spelling octet_string key))))))
