-- The bytes to be signed of a CRL that is built (RFC 5280 5.1.2).
use Rattle.std.specs.Prelude.{◌≡◌, ◌≤◌, ◌⊎◌, ℕ, Bool, List, [], ◌++◌, Option, Some, None, Result, Ok, Err}
use Rattle.x509_base.specs.AlgorithmIdentifier.{algorithm_identifier}
use Rattle.x509_base.specs.Checked.{CheckRefuses}
use Rattle.x509_base.specs.Serial.{number_content}
use Rattle.x509_base.specs.Profiles.{rfc5280_serial_number}
use Rattle.x509_base.specs.Time.{IsTimeAt}
use Rattle.x509_base.specs.declared.profile.Rfc5280.{Rfc5280}
use Rattle.x509_base.specs.declared.time.Time.{Time}
use Rattle.x509_build.specs.CrlParts.{RefusesStart, Starts, next_part}
use Rattle.x509_build.specs.declared.crl_builder.CrlBuilder.{CrlBuilder}
use Rattle.x509_build.specs.Answer.{Answer}
use Rattle.x509_build.specs.Parts.{Encodes, PartRefuses}
use Rattle.x509_build.specs.declared.error.Error as builder
use Rattle.x509_c_calls.specs.Assembly.{crl_part}
use Rattle.x509_c_calls.specs.Input.{RefusesEach, RefusesOrder, RefusesTime, SpellEach, unless_empty}
use Rattle.x509_c_calls.specs.declared.status.status.Status.{Status}
use Rattle.x509_c_calls.specs.declared.status.status.Status.TheVariants.{Repeated, Refused}
use Rattle.x509_c_calls.specs.Refusals.{kind_of}
use Rattle.x509_c_calls.specs.declared.build.crl.CrlInputs.{CrlInputs}
use Rattle.x509_cert.specs.RevokedCert.{revoked_cert}
use Rattle.x509_cert.specs.declared.crl.tbs_cert_list.TbsCertList.{TbsCertList}
use Rattle.x509_cert.specs.Certificate.{rfc5280_certificate}
use Rattle.x509_cert.specs.declared.certificate.tbs_certificate.TbsCertificateInner.{TbsCertificateInner}
use Rattle.x509_der.specs.declared.error.Error as der
use Rattle.x509_der.specs.declared.error.ErrorKind.{ErrorKind}
use Rattle.x509_der.specs.declared.error.ErrorKind.TheVariants.{Value}
use Rattle.x509_der.specs.Form.{Spells}
use Rattle.x509_der.specs.Writing.{plain}
use Rattle.x509_ext.specs.declared.pkix.subject_key_identifier.SubjectKeyIdentifier.{SubjectKeyIdentifier}
use Rattle.x509_ext.specs.Extension.{extension}
use Rattle.x509_ext.specs.LookUp.{IsRepeated}
use Rattle.x509_types.specs.Reencoding.{IsRefused}

-- ---- what a call takes

-- the time that many seconds after 1970-01-01T00:00:00Z, where one is told
abbrev pub IsTimeOrNone : Option ℕ → Option Time → Type 0
IsTimeOrNone None time = time ≡ None
IsTimeOrNone (Some seconds) None = ⊥
IsTimeOrNone (Some seconds) (Some time) = IsTimeAt seconds time

abbrev pub RefusesTimeOrNone : Option ℕ → ErrorKind → Type 0
RefusesTimeOrNone None e = ⊥
RefusesTimeOrNone (Some seconds) e = RefusesTime seconds e

-- the next update, where one is told, isn't before this one
abbrev pub InOrder : ℕ → Option ℕ → Type 0
InOrder this_update None = Unit {0}
InOrder this_update (Some next_update) = this_update ≤ next_update

abbrev pub RefusesUpdates : ℕ → Option ℕ → ErrorKind → Type 0
RefusesUpdates this_update None e = ⊥
RefusesUpdates this_update (Some next_update) e = RefusesOrder this_update next_update e

pub record AreCrlInputs (issuer algorithm number : List ℕ) (this_update : ℕ) (next_update : Option ℕ) (entries extensions : List ℕ) (inputs : CrlInputs) : Type 0 where
  pub issuer_is : Spells rfc5280_certificate inputs.issuer issuer
  pub algorithm_is : Spells algorithm_identifier inputs.algorithm algorithm
  pub number_is : inputs.number.0 ≡ number_content number
  pub this_update_is : IsTimeAt this_update inputs.this_update
  pub next_update_is : IsTimeOrNone next_update inputs.next_update
  pub updates_in_order : InOrder this_update next_update
  pub entries_are : SpellEach (revoked_cert rfc5280_serial_number) inputs.entries.items entries
  pub extensions_are : SpellEach extension inputs.extensions.items extensions

-- one of them is refused
abbrev pub RefusesCrlInputs : List ℕ → List ℕ → List ℕ → ℕ → Option ℕ → List ℕ → List ℕ → ErrorKind → Type 0
RefusesCrlInputs issuer algorithm number this_update next_update entries extensions e =
    IsRefused rfc5280_certificate (CheckRefuses rfc5280_serial_number) issuer e
    ⊎ (IsRefused algorithm_identifier (λ e. ⊥) algorithm e
    ⊎ (((e ≡ Value) × (number ≡ []))
    ⊎ (RefusesTime this_update e
    ⊎ (RefusesTimeOrNone next_update e
    ⊎ (RefusesUpdates this_update next_update e
    ⊎ (RefusesEach (revoked_cert {P = Rfc5280} rfc5280_serial_number) (CheckRefuses rfc5280_serial_number) entries e
    ⊎ RefusesEach extension (λ e. ⊥) extensions e))))))

-- ---- the part

-- a builder with a next update, entries and further extensions
abbrev pub prepared : CrlBuilder Rfc5280 → CrlInputs → CrlBuilder Rfc5280
prepared start inputs = record start {
  tbs = record start.tbs { next_update = inputs.next_update; revoked_certificates = unless_empty inputs.entries.items };
  extensions = start.extensions ++ inputs.extensions.items;
}

-- the part that it finalizes to for a signer with the algorithm
abbrev pub part_of : CrlBuilder Rfc5280 → CrlInputs → Answer (TbsCertList Rfc5280)
part_of start inputs = next_part (prepared start inputs).tbs (prepared start inputs).extensions inputs.algorithm

-- what a look-up of the SKI in the issuer's certificate may answer
abbrev pub LookUp : Type 1
LookUp = Result (Option (Bool × SubjectKeyIdentifier)) der.Error → Type 0

-- the bytes are encoded of the part to which a builder finalizes that starts with these inputs, and no two of its extensions have one OID
abbrev pub CrlParts : LookUp → CrlInputs → List ℕ → Type 0
CrlParts LooksUp inputs bytes =
    (start : CrlBuilder Rfc5280) × Starts LooksUp inputs.issuer.tbs_certificate inputs.number.0 inputs.this_update start × Encodes crl_part plain (part_of start inputs) bytes
    × (¬ IsRepeated (prepared start inputs).extensions)

-- two have
abbrev pub RepeatsCrlExtension : LookUp → CrlInputs → Type 0
RepeatsCrlExtension LooksUp inputs =
    (start : CrlBuilder Rfc5280) × Starts LooksUp inputs.issuer.tbs_certificate inputs.number.0 inputs.this_update start × IsRepeated (prepared start inputs).extensions

-- there are none: no builder starts with them, or the part can't be made
abbrev pub RefusesCrlPart : LookUp → CrlInputs → builder.Error → Type 0
RefusesCrlPart LooksUp inputs e =
    RefusesStart LooksUp inputs.issuer.tbs_certificate inputs.number.0 e
    ⊎ ((start : CrlBuilder Rfc5280) × Starts LooksUp inputs.issuer.tbs_certificate inputs.number.0 inputs.this_update start × PartRefuses crl_part plain (part_of start inputs) e)

-- ---- what a call answers

-- Those bytes (x509_build's CrlParts); or why there are none.
abbrev pub BuildsCrl : (TbsCertificateInner Rfc5280 → LookUp) → List ℕ → List ℕ → List ℕ → ℕ → Option ℕ → List ℕ → List ℕ → Result (List ℕ) Status → Type 0
BuildsCrl LooksUp issuer algorithm number this_update next_update entries extensions (Ok bytes) =
    (inputs : CrlInputs) × AreCrlInputs issuer algorithm number this_update next_update entries extensions inputs × CrlParts (LooksUp inputs.issuer.tbs_certificate) inputs bytes
BuildsCrl LooksUp issuer algorithm number this_update next_update entries extensions (Err Repeated) =
    (inputs : CrlInputs) × AreCrlInputs issuer algorithm number this_update next_update entries extensions inputs × RepeatsCrlExtension (LooksUp inputs.issuer.tbs_certificate) inputs
BuildsCrl LooksUp issuer algorithm number this_update next_update entries extensions (Err (Refused kind)) =
    RefusesCrlInputs issuer algorithm number this_update next_update entries extensions kind
    ⊎ ((inputs : CrlInputs) × AreCrlInputs issuer algorithm number this_update next_update entries extensions inputs
    × ((e : builder.Error) × (kind_of e ≡ kind) × RefusesCrlPart (LooksUp inputs.issuer.tbs_certificate) inputs e))
BuildsCrl LooksUp issuer algorithm number this_update next_update entries extensions (Err _) = ⊥
