-- Policies of certificates, what qualifies them, and how they map, encoded of what a caller says (RFC 5280 4.2.1.4, 4.2.1.5).
use Rattle.std.specs.List.{list_all}
use Rattle.std.specs.Prelude.{◌≡◌, ◌<◌, ◌≤◌, ◌⊎◌, ℕ, List, [], ◌∷◌, length, false, true, Option, Some, None}
use Rattle.std.specs.Str.{chars, is_utf8}
use Rattle.x509_c_calls.specs.Described.{RefusesPerhaps, SpellsPerhaps}
use Rattle.x509_c_calls.specs.DescribedParts.{RefusesOid}
use Rattle.x509_c_calls.specs.Input.{RefusesEach, SpellEach, unless_empty}
use Rattle.x509_c_calls.specs.Notices.{notice_numbers}
use Rattle.x509_der.specs.Any.{any}
use Rattle.x509_der.specs.Form.{Spells}
use Rattle.x509_der.specs.declared.error.ErrorKind.{ErrorKind}
use Rattle.x509_der.specs.declared.error.ErrorKind.TheVariants.{Failed, Malformed, Value}
use Rattle.x509_ext.specs.PolicyQualifierInfo.{policy_qualifier_info}
use Rattle.x509_ext.specs.declared.pkix.display_text.DisplayText.{DisplayText}
use Rattle.x509_ext.specs.declared.pkix.display_text.DisplayText.TheVariants.{Utf8String}
use Rattle.x509_ext.specs.declared.pkix.policy_information.PolicyInformation.{PolicyInformation}
use Rattle.x509_ext.specs.declared.pkix.policy_information.PolicyQualifierInfo.{PolicyQualifierInfo}
use Rattle.x509_ext.specs.declared.pkix.policy_mapping.PolicyMapping.{PolicyMapping}
use Rattle.x509_ext.specs.declared.pkix.user_notice.NoticeReference.{NoticeReference}
use Rattle.x509_ext.specs.declared.pkix.user_notice.UserNotice.{UserNotice}
use Rattle.x509_prim.specs.Alphabet.{is_ia5}
use Rattle.x509_types.specs.Reencoding.{IsRefused}

-- ---- the address of a practice statement

-- the URI is no text of an IA5String
abbrev pub RefusesCpsUri : List ℕ → ErrorKind → Type 0
RefusesCpsUri uri e = (e ≡ Malformed) × (list_all is_ia5 uri ≡ false)

-- ---- a user notice

-- how many characters a text has at most that is shown
abbrev pub most_chars : ℕ
most_chars = 200

-- a text of no bytes is left out; another is UTF-8, has at most so many characters, and is written as a UTF8String
abbrev pub IsShownText : List ℕ → Option DisplayText → Type 0
IsShownText [] shown = shown ≡ None
IsShownText (byte ∷ bytes) shown =
    (shown ≡ Some (Utf8String (byte ∷ bytes))) × (is_utf8 (byte ∷ bytes) ≡ true) × (length (chars (byte ∷ bytes)) ≤ most_chars)

-- it isn't UTF-8, or has too many characters
abbrev pub RefusesShownText : List ℕ → ErrorKind → Type 0
RefusesShownText text e = ((e ≡ Failed) × (is_utf8 text ≡ false)) ⊎ ((e ≡ Value) × (is_utf8 text ≡ true) × (most_chars < length (chars text)))

-- the reference to the notices of that organization with the numbers of that encoding; of neither none
abbrev pub IsReferenceOf : List ℕ → List ℕ → Option NoticeReference → Type 0
IsReferenceOf [] [] reference = reference ≡ None
IsReferenceOf [] (byte ∷ bytes) reference = ⊥
IsReferenceOf (byte ∷ bytes) numbers reference =
    (it : NoticeReference) × (reference ≡ Some it) × IsShownText (byte ∷ bytes) (Some it.organization)
    × ((given : List (List ℕ)) × (it.notice_numbers ≡ Some given) × Spells notice_numbers given numbers)

-- there is none: the organization is refused; or it is there, and the numbers are refused; or they are there without it
abbrev pub RefusesReference : List ℕ → List ℕ → ErrorKind → Type 0
RefusesReference organization numbers e =
    RefusesShownText organization e
    ⊎ (((organization ≡ [] → ⊥) × IsRefused notice_numbers (λ e. ⊥) numbers e)
    ⊎ ((e ≡ Value) × (organization ≡ []) × (numbers ≡ [] → ⊥)))

-- that with this reference and this text, of which there may be neither
pub record IsNoticeOf (organization numbers text : List ℕ) (notice : UserNotice) : Type 0 where
  pub reference_is : IsReferenceOf organization numbers notice.notice_ref
  pub text_is : IsShownText text notice.explicit_text

abbrev pub RefusesNotice : List ℕ → List ℕ → List ℕ → ErrorKind → Type 0
RefusesNotice organization numbers text e = RefusesReference organization numbers e ⊎ RefusesShownText text e

-- ---- what qualifies a policy

-- that of the type with that OID, with the qualifier of that encoding; of no bytes without one
pub record IsQualifierOf (identifier qualifier : List ℕ) (info : PolicyQualifierInfo) : Type 0 where
  pub identifier_is : info.policy_qualifier_id ≡ identifier
  pub qualifier_is : SpellsPerhaps any qualifier info.qualifier

abbrev pub RefusesQualifier : List ℕ → List ℕ → ErrorKind → Type 0
RefusesQualifier identifier qualifier e = RefusesOid identifier e ⊎ RefusesPerhaps any (λ e. ⊥) qualifier e

-- ---- a policy

-- the qualifiers whose encodings the bytes are, one after the other, unless there are none
abbrev pub AreQualifiersOf : List ℕ → Option (List PolicyQualifierInfo) → Type 0
AreQualifiersOf bytes qualifiers = (given : List PolicyQualifierInfo) × SpellEach policy_qualifier_info given bytes × (qualifiers ≡ unless_empty given)

-- that with that OID, and with these qualifiers
pub record IsPolicyOf (identifier qualifiers : List ℕ) (policy : PolicyInformation) : Type 0 where
  pub identifier_is : policy.policy_identifier ≡ identifier
  pub qualifiers_are : AreQualifiersOf qualifiers policy.policy_qualifiers

abbrev pub RefusesPolicy : List ℕ → List ℕ → ErrorKind → Type 0
RefusesPolicy identifier qualifiers e = RefusesOid identifier e ⊎ RefusesEach policy_qualifier_info (λ e. ⊥) qualifiers e

-- ---- how policies map

-- the content octets of anyPolicy, 2.5.29.32.0
abbrev pub any_policy : List ℕ
any_policy = 0x55 ∷ 0x1D ∷ 0x20 ∷ 0x00 ∷ []

-- that of these two policies, neither of which is anyPolicy (RFC 5280 4.2.1.5)
pub record IsMappingOf (issuer subject : List ℕ) (mapping : PolicyMapping) : Type 0 where
  pub issuer_is : mapping.issuer_domain_policy ≡ issuer
  pub subject_is : mapping.subject_domain_policy ≡ subject
  pub issuer_maps : issuer ≡ any_policy → ⊥
  pub subject_maps : subject ≡ any_policy → ⊥

-- there is none: one of the two is no OID, or anyPolicy
abbrev pub RefusesMapping : List ℕ → List ℕ → ErrorKind → Type 0
RefusesMapping issuer subject e =
    RefusesOid issuer e ⊎ (RefusesOid subject e ⊎ ((e ≡ Value) × ((issuer ≡ any_policy) ⊎ (subject ≡ any_policy))))
