-- Extensions and entries of CRLs that are encoded from what they hold.
use Rattle.std.specs.Prelude.{◌≡◌, ◌<◌, ◌⊎◌, ℕ, Bool, List, length, Result, Ok, Err}
use Rattle.x509_base.specs.Checked.{CheckRefuses}
use Rattle.x509_base.specs.Serial.{serial_number}
use Rattle.x509_base.specs.Profiles.{rfc5280_serial_number}
use Rattle.x509_base.specs.Time.{IsTimeAt}
use Rattle.x509_base.specs.declared.profile.Rfc5280.{Rfc5280}
use Rattle.x509_c_calls.specs.Input.{RefusesEach, RefusesTime, SpellEach, unless_empty}
use Rattle.x509_c_calls.specs.Calls.{Encodes}
use Rattle.x509_c_calls.specs.declared.status.status.Status.{Status}
use Rattle.x509_c_calls.specs.declared.status.status.Status.TheVariants.{Repeated, Refused}
use Rattle.x509_cert.specs.RevokedCert.{revoked_cert}
use Rattle.x509_cert.specs.declared.crl.revoked_cert.RevokedCert.{RevokedCert}
use Rattle.x509_der.specs.Arcs.{AreArcs, content_of}
use Rattle.x509_der.specs.Element.{limit}
use Rattle.x509_der.specs.declared.error.ErrorKind.{ErrorKind}
use Rattle.x509_der.specs.declared.error.ErrorKind.TheVariants.{Malformed, Overlength}
use Rattle.x509_der.specs.Form.{Spells, spelling}
use Rattle.x509_der.specs.Writing.{plain, writes}
use Rattle.x509_ext.specs.Extension.{extension}
use Rattle.x509_ext.specs.LookUp.{IsRepeated, members}
use Rattle.x509_ext.specs.declared.extension.Extension.{Extension}
use Rattle.x509_prim.specs.OctetString.{octet_string}
use Rattle.x509_types.specs.Reencoding.{IsRefused}

-- ---- an extension (RFC 5280 4.2)

-- these are the content octets of an OID
abbrev pub IsOid : List ℕ → Type 0
IsOid oid = (arcs : List ℕ) × AreArcs arcs × (oid ≡ content_of arcs)

-- the extension with that OID, which holds these octets
abbrev pub IsExtensionOf : List ℕ → Bool → List ℕ → Extension → Type 0
IsExtensionOf oid critical value made = IsOid oid × (made ≡ record { extn_id = oid; critical = critical; extn_value = value })

-- there is none: no OID has the octets, or the OCTET STRING is too long
abbrev pub RefusesExtension : List ℕ → List ℕ → ErrorKind → Type 0
RefusesExtension oid value e = ((e ≡ Malformed) × (IsOid oid → ⊥)) ⊎ ((e ≡ Overlength) × (limit < length (spelling octet_string value)))

-- its encoding, or why there is none
abbrev pub EncodesExtension : List ℕ → Bool → List ℕ → Result (List ℕ) ErrorKind → Type 0
EncodesExtension oid critical value (Ok bytes) = (made : Extension) × IsExtensionOf oid critical value made × Encodes extension (writes plain made) (Ok bytes)
EncodesExtension oid critical value (Err e) = RefusesExtension oid value e ⊎ ((made : Extension) × IsExtensionOf oid critical value made × Encodes extension (writes plain made) (Err e))

-- ---- an entry of a CRL (RFC 5280 5.1.2.6)

pub record IsEntryOf (number : List ℕ) (date : ℕ) (extensions : List ℕ) (entry : RevokedCert Rfc5280) : Type 0 where
  pub number_is : Spells (serial_number rfc5280_serial_number) entry.serial_number number
  pub date_is : IsTimeAt date entry.revocation_date
  pub extensions_are : (given : List Extension) × SpellEach extension given extensions × (entry.crl_entry_extensions ≡ unless_empty given)

abbrev pub RefusesEntry : List ℕ → ℕ → List ℕ → ErrorKind → Type 0
RefusesEntry number date extensions e =
    IsRefused (serial_number rfc5280_serial_number) (CheckRefuses rfc5280_serial_number) number e ⊎ (RefusesTime date e ⊎ RefusesEach extension (λ e. ⊥) extensions e)

-- its encoding, where no two of its extensions have one OID; or why there is none
abbrev pub EncodesEntry : List ℕ → ℕ → List ℕ → Result (List ℕ) Status → Type 0
EncodesEntry number date extensions (Ok bytes) =
    (entry : RevokedCert Rfc5280) × IsEntryOf number date extensions entry × (¬ IsRepeated (members entry.crl_entry_extensions))
    × Encodes (revoked_cert rfc5280_serial_number) (writes plain entry) (Ok bytes)
EncodesEntry number date extensions (Err Repeated) =
    (entry : RevokedCert Rfc5280) × IsEntryOf number date extensions entry × IsRepeated (members entry.crl_entry_extensions)
EncodesEntry number date extensions (Err (Refused e)) =
    RefusesEntry number date extensions e
    ⊎ ((entry : RevokedCert Rfc5280) × IsEntryOf number date extensions entry × (¬ IsRepeated (members entry.crl_entry_extensions))
    × Encodes (revoked_cert rfc5280_serial_number) (writes plain entry) (Err e))
EncodesEntry number date extensions (Err _) = ⊥
