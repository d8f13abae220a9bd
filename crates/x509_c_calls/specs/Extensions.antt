-- The extension of a certificate with an OID, and where its value stands (RFC 5280 4.2).
use Rattle.std.specs.Prelude.{◌≡◌, ◌⊎◌, ℕ, Bool, true, false, List, [], ◌∷◌, ◌++◌}
use Rattle.x509_c_calls.specs.declared.certificate.extension.ExtensionView.{ExtensionView}
use Rattle.x509_c_calls.specs.View.{behind_part}
use Rattle.x509_c_calls.specs.Place.{IsAt}
use Rattle.x509_types.specs.Reencoding.{IsRefused}
use Rattle.x509_c_calls.specs.declared.status.status.Status.{Status}
use Rattle.x509_c_calls.specs.declared.status.status.Status.TheVariants.{Done, Absent, Repeated, Refused}
use Rattle.x509_cert.specs.declared.certificate.certificate.CertificateInner.{CertificateInner}
use Rattle.x509_ext.specs.LookUp.{members, with_oid}
use Rattle.x509_der.specs.declared.error.ErrorKind.{ErrorKind}
use Rattle.x509_der.specs.List.{joined}
use Rattle.x509_der.specs.Form.{Form, Spells, spelling}
use Rattle.x509_ext.specs.Extension as grammar
use Rattle.x509_ext.specs.declared.extension.Extension.{Extension}

abbrev pub flag : Bool → ℕ
flag true = 1
flag false = 0

-- the view says whether the extension is critical, and where its octets stand, with those others behind them
abbrev pub IsExtensionAt : List ℕ → Extension → List ℕ → ExtensionView → Type 0
IsExtensionAt bytes extension behind view = (view.critical ≡ flag extension.critical) × IsAt extension.extn_value behind bytes view.value

-- What a call leaves that asks for one of these extensions, behind which those octets stand, where the last list has those with the identifier: Absent for
-- none, Done for one, Repeated for two or more. What isn't filled in stays as it was.
unfoldable pub FindsExtension : List ℕ → List Extension → List ℕ → List Extension → ExtensionView → ExtensionView → Status → Type 0
FindsExtension bytes all behind [] was is status = (status ≡ Absent) × (is ≡ was)
FindsExtension bytes all behind (extension ∷ []) was is status =
    (status ≡ Done) × (before : List Extension) × (after : List Extension) × (all ≡ before ++ extension ∷ after) × IsExtensionAt bytes extension (joined (spelling grammar.extension) after ++ behind) is
FindsExtension bytes all behind (first ∷ second ∷ others) was is status = (status ≡ Repeated) × (is ≡ was)

-- the same of the certificate that the bytes spell; or they are refused
unfoldable pub LooksUpExtension : {P : Type 0} → Form (CertificateInner P) → (ErrorKind → Type 0) → List ℕ → List ℕ → ExtensionView → ExtensionView → Status → Type 0
LooksUpExtension {P} form refuses bytes oid was is status =
    ((certificate : CertificateInner P) × Spells form certificate bytes × FindsExtension bytes (members certificate.tbs_certificate.extensions) (behind_part certificate) (with_oid oid (members certificate.tbs_certificate.extensions)) was is status)
    ⊎ ((e : ErrorKind) × (status ≡ Refused e) × (is ≡ was) × IsRefused form refuses bytes e)
