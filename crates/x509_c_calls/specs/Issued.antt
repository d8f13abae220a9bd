-- The issuer of the certificates of the entries of an indirect CRL, by its place, one entry after the other (RFC 5280 5.3.3).
use Rattle.std.specs.Prelude.{◌≡◌, ◌⊎◌, ℕ, Bool, List, [], ◌∷◌, ◌++◌, Option, Result, Ok, Err}
use Rattle.x509_base.specs.declared.profile.Rfc5280.{Rfc5280}
use Rattle.x509_c_calls.specs.CrlEntries.{IsEntry}
use Rattle.x509_c_calls.specs.Cursor.{IsEnd, IsNext, Stops}
use Rattle.x509_c_calls.specs.Place.{IsAt}
use Rattle.x509_c_calls.specs.declared.crl.entry.CrlEntryView.{CrlEntryView}
use Rattle.x509_c_calls.specs.declared.place.span.Span.{Span}
use Rattle.x509_c_calls.specs.declared.status.status.Status.{Status}
use Rattle.x509_c_calls.specs.declared.status.status.Status.TheVariants.{Done, NoRoom, Absent, Repeated, Faulty, Limit, Refused}
use Rattle.x509_cert.specs.Issuers.{FindsIssuer, issuers}
use Rattle.x509_cert.specs.declared.crl.revoked_cert.RevokedCert.{RevokedCert}
use Rattle.x509_der.specs.Form.{Form, spelling}
use Rattle.x509_der.specs.List.{joined}
use Rattle.x509_der.specs.declared.error.Error.{Error}
use Rattle.x509_der.specs.declared.error.ErrorKind.{ErrorKind}
use Rattle.x509_ext.specs.Extension as grammar
use Rattle.x509_ext.specs.LookUp.{members}
use Rattle.x509_ext.specs.declared.extension.Extension.{Extension}
use Rattle.x509_ext.specs.declared.pkix.certificate_issuer.CertificateIssuer.{CertificateIssuer}

-- Where the names stand that are in force behind an entry, with these extensions, in front of those octets; the last list has those that name an issuer. They
-- are as before where there is none, and where there is one its octets.
abbrev pub IsCarried : List ℕ → List Extension → List ℕ → List Extension → Span → Span → Type 0
IsCarried bytes all behind [] was is = is ≡ was
IsCarried bytes all behind (extension ∷ []) was is =
    (before : List Extension) × (after : List Extension) × (all ≡ before ++ extension ∷ after) × IsAt extension.extn_value (joined (spelling grammar.extension) after ++ behind) bytes is
IsCarried bytes all behind (first ∷ second ∷ others) was is = ⊥

-- the entry of which an extension that names its issuer is refused with this
abbrev pub IsRefusedIssuer : Form (RevokedCert Rfc5280) → List ℕ → ℕ → ErrorKind → Type 0
IsRefusedIssuer form bytes at e =
    (entry : RevokedCert Rfc5280) × (more : List ℕ) × (next : ℕ) × (span : Span) × IsNext form 48 bytes at next entry more span × (why : Error) × (why.kind ≡ e) × FindsIssuer (issuers entry) (Err why)

-- What a call leaves that asks for the next entry and for the issuer behind it. Done: there is an entry. Absent: the list ends there. What isn't filled in
-- stays as it was.
unfoldable pub StepsIssued : Form (RevokedCert Rfc5280) → (ErrorKind → Type 0) → Type 0 → List ℕ → ℕ → ℕ → Span → Span → CrlEntryView → CrlEntryView → Status → Type 0
StepsIssued form refuses wants bytes was is issuer_was issuer_is found_was found_is Done =
    (entry : RevokedCert Rfc5280) × (more : List ℕ) × (span : Span) × IsNext form 48 bytes was is entry more span × IsEntry bytes entry more found_is
    × ((found : Option (Bool × CertificateIssuer)) × FindsIssuer (issuers entry) (Ok found)) × IsCarried bytes (members entry.crl_entry_extensions) more (issuers entry) issuer_was issuer_is
StepsIssued form refuses wants bytes was is issuer_was issuer_is found_was found_is Absent = IsEnd 48 bytes was is × (issuer_is ≡ issuer_was) × (found_is ≡ found_was)
StepsIssued form refuses wants bytes was is issuer_was issuer_is found_was found_is (Refused e) =
    (Stops form refuses wants 48 bytes was e ⊎ IsRefusedIssuer form bytes was e) × (is ≡ was) × (issuer_is ≡ issuer_was) × (found_is ≡ found_was)
StepsIssued form refuses wants bytes was is issuer_was issuer_is found_was found_is NoRoom = ⊥
StepsIssued form refuses wants bytes was is issuer_was issuer_is found_was found_is Repeated = ⊥
StepsIssued form refuses wants bytes was is issuer_was issuer_is found_was found_is Faulty = ⊥
StepsIssued form refuses wants bytes was is issuer_was issuer_is found_was found_is Limit = ⊥
