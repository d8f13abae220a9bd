-- What a call leaves that asks CRLs whether a certificate is revoked (RFC 5280 6.3.3), where their signatures were verified before.
use Rattle.std.specs.List.{slice_get, slice_range}
use Rattle.std.specs.Prelude.{◌≡◌, ◌<◌, ◌≤◌, ◌+◌, ◌*◌, ◌⊎◌, ◌==◌, ℕ, suc, List, [], ◌∷◌, length, map, get_or, Some, if◌then◌else◌}
use Rattle.x509_base.specs.CivilTime.{IsDateTime, last_date_time, unix_seconds}
use Rattle.x509_base.specs.SubjectPublicKeyInfo.{subject_public_key_info}
use Rattle.x509_base.specs.Time.{date_time_of}
use Rattle.x509_c_calls.specs.PathValidation.{AreSettings}
use Rattle.x509_c_calls.specs.PayloadExtensions.{flag}
use Rattle.x509_c_calls.specs.declared.place.span.Span.{Span}
use Rattle.x509_c_calls.specs.declared.revocation.RevocationAnswer.{RevocationAnswer}
use Rattle.x509_c_calls.specs.declared.revocation.SignedCrlSpans.{SignedCrlSpans}
use Rattle.x509_c_calls.specs.declared.status.status.Status.{Status}
use Rattle.x509_c_calls.specs.declared.status.status.Status.TheVariants as statuses
use Rattle.x509_cert.specs.Certificate.{rfc5280_certificate}
use Rattle.x509_cert.specs.CertificateList.{rfc5280_certificate_list}
use Rattle.x509_der.specs.Form.{Spells}
use Rattle.x509_der.specs.declared.error.ErrorKind.{ErrorKind}
use Rattle.x509_der.specs.declared.error.ErrorKind.TheVariants as kinds
use Rattle.x509_ext.specs.CrlReason.{crl_reason_number}
use Rattle.x509_name.specs.Names.{name}
use Rattle.x509_path.specs.Certificates.{Certificate, accept_all, extensions_of}
use Rattle.x509_path.specs.declared.anchor.Anchor.{Anchor}
use Rattle.x509_revocation.specs.Lent.{question}
use Rattle.x509_revocation.specs.Says.{GivenCrl}
use Rattle.x509_revocation.specs.Signers.{MaySignCrls}
use Rattle.x509_revocation.specs.Status.{Answers}
use Rattle.x509_revocation.specs.declared.settings.RevocationSettings.{RevocationSettings}
use Rattle.x509_revocation.specs.declared.status.RevocationStatus.{RevocationStatus}
use Rattle.x509_revocation.specs.declared.status.RevocationStatus.TheVariants.{Unrevoked, Revoked, Undetermined}
use Rattle.x509_types.specs.Reencoding.{IsRefused}

-- the relation holds of the members of both lists, place by place
abbrev pub AllPairs : {A B : Type 0} → (A → B → Type 0) → List A → List B → Type 0
AllPairs R [] [] = Unit {0}
AllPairs R (x ∷ xs) (y ∷ ys) = R x y × AllPairs R xs ys
AllPairs R _ _ = ⊥

-- ---- what is asked

-- a bit for each of the flags, and the first number above them
abbrev pub flags_of : RevocationSettings → ℕ
flags_of settings = flag settings.without_next_update + 2 * flag settings.use_deltas

abbrev pub past_flags : ℕ
past_flags = 4

-- the settings as octets
pub record AreOfRevocation (octets : List ℕ) (settings : RevocationSettings) : Type 0 where
  pub seconds : ℕ
  pub numbers : AreSettings octets seconds (flags_of settings)
  pub real : IsDateTime settings.moment
  pub at : unix_seconds settings.moment ≡ seconds

-- they are no settings, have another flag, or are those of a moment after the year 9999
abbrev pub AreOfNoRevocation : List ℕ → Type 0
AreOfNoRevocation octets =
    ((seconds flags : ℕ) → AreSettings octets seconds flags → ⊥)
    ⊎ ((seconds : ℕ) × (flags : ℕ) × AreSettings octets seconds flags × ((past_flags ≤ flags) ⊎ (unix_seconds last_date_time < seconds)))

-- a part of bytes, and whether it lies within them
abbrev pub part_of : List ℕ → Span → List ℕ
part_of bytes span = slice_range bytes span.place (span.place + span.len)

abbrev pub IsWithin : List ℕ → Span → Type 0
IsWithin bytes span = span.place + span.len ≤ length bytes

abbrev pub IsOutside : List ℕ → Span → Type 0
IsOutside bytes span = length bytes < span.place + span.len

-- the CRL, and the name and the key of its signer, are those parts of the bytes
pub record AreParts (bytes : List ℕ) (spans : SignedCrlSpans) (given : GivenCrl) : Type 0 where
  pub within : IsWithin bytes spans.crl × IsWithin bytes spans.name × IsWithin bytes spans.key
  pub bytes_are : given.bytes ≡ part_of bytes spans.crl
  pub crl : Spells rfc5280_certificate_list given.crl (part_of bytes spans.crl)
  pub signer : Anchor
  pub is_signer : given.signer ≡ Some signer
  pub name : Spells name signer.name (part_of bytes spans.name)
  pub key : Spells subject_public_key_info signer.key (part_of bytes spans.key)

-- the CRLs that the caller has verified, with their places, from that place on: those that are marked by 1 and by no other number
abbrev pub verified_from : ℕ → List SignedCrlSpans → List (ℕ × SignedCrlSpans)
verified_from place [] = []
verified_from place (spans ∷ others) = if spans.verified == 1 then (place, spans) ∷ verified_from (suc place) others else verified_from (suc place) others

abbrev pub verified : List SignedCrlSpans → List (ℕ × SignedCrlSpans)
verified crls = verified_from 0 crls

abbrev pub AreGiven : List ℕ → List (ℕ × SignedCrlSpans) → List GivenCrl → Type 0
AreGiven bytes found given = AllPairs (λ it. AreParts bytes it.1) found given

-- a certificate, the CRLs that are verified, and the settings
pub record AskedStatus (certificate_bytes bytes : List ℕ) (crls : List SignedCrlSpans) (settings_octets : List ℕ) : Type 0 where
  pub certificate : Certificate
  pub spelled : Spells rfc5280_certificate certificate certificate_bytes
  pub settings : RevocationSettings
  pub are_settings : AreOfRevocation settings_octets settings
  pub given : List GivenCrl
  pub are_given : AreGiven bytes (verified crls) given

-- ---- what is answered

-- The status as a number: 0 where it is undetermined. The place is that among all CRLs, verified or not.
abbrev pub told : List SignedCrlSpans → RevocationStatus → RevocationAnswer
told crls Unrevoked = record { status = 1; reason = 0; crl = 0; date = 0; reasons = 0 }
told crls (Revoked place date reason) = record {
  status = 2;
  reason = crl_reason_number reason;
  crl = get_or (map (λ it. it.0) (verified crls)) place 0;
  date = unix_seconds (date_time_of date);
  reasons = 0;
}
told crls (Undetermined reasons) = record { status = 0; reason = 0; crl = 0; date = 0; reasons = reasons.0 }

-- the errors that a certificate, a CRL, a name and a key have of their own in reading
pub record Refusing : Type 1 where
  pub certificate : ErrorKind → Type 0
  pub crl : ErrorKind → Type 0
  pub name : ErrorKind → Type 0
  pub key : ErrorKind → Type 0

-- why no CRL is taken from there: a part isn't within the bytes, or is none
abbrev pub IsNotGiven : Refusing → List ℕ → SignedCrlSpans → ErrorKind → Type 0
IsNotGiven refuses bytes spans e =
    ((e ≡ kinds.Failed) × (IsOutside bytes spans.crl ⊎ (IsOutside bytes spans.name ⊎ IsOutside bytes spans.key)))
    ⊎ (IsRefused rfc5280_certificate_list refuses.crl (part_of bytes spans.crl) e
    ⊎ (IsRefused name refuses.name (part_of bytes spans.name) e
    ⊎ IsRefused subject_public_key_info refuses.key (part_of bytes spans.key) e))

abbrev pub AreNotGiven : Refusing → List ℕ → List (ℕ × SignedCrlSpans) → ErrorKind → Type 0
AreNotGiven refuses bytes found e = (i : ℕ) × (it : ℕ × SignedCrlSpans) × (slice_get found i ≡ Some it) × IsNotGiven refuses bytes it.1 e

-- why nothing is asked
abbrev pub AsksNoStatus : Refusing → List ℕ → List ℕ → List SignedCrlSpans → List ℕ → ErrorKind → Type 0
AsksNoStatus refuses certificate bytes crls settings e =
    (e ≡ kinds.Memory)
    ⊎ (((e ≡ kinds.Value) × AreOfNoRevocation settings)
    ⊎ (IsRefused rfc5280_certificate refuses.certificate certificate e
    ⊎ AreNotGiven refuses bytes (verified crls) e))

-- What is left by a call that is asked for the status. Done: it is the one that the verified CRLs give, each of which is taken for signed. Else nothing has
-- changed.
unfoldable pub TellsStatus : Refusing → List ℕ → List ℕ → List SignedCrlSpans → List ℕ → RevocationAnswer → RevocationAnswer → Status → Type 0
TellsStatus refuses certificate bytes crls settings was is status =
    ((asked : AskedStatus certificate bytes crls settings) × (found : RevocationStatus) × (status ≡ statuses.Done)
    × Answers (question accept_all asked.settings asked.certificate) asked.given found × (is ≡ told crls found))
    ⊎ ((e : ErrorKind) × (status ≡ statuses.Refused e) × (is ≡ was) × AsksNoStatus refuses certificate bytes crls settings e)

-- ---- whose key may sign CRLs

-- 1 where that of the certificate may, else 0
abbrev pub TellsSigner : Certificate → ℕ → Type 0
TellsSigner certificate answer =
    ((answer ≡ 1) × MaySignCrls (extensions_of certificate)) ⊎ ((answer ≡ 0) × (MaySignCrls (extensions_of certificate) → ⊥))
