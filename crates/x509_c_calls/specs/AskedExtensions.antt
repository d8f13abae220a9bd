-- Where the extensions stand that a CSR asks for: the one value of its one attribute extensionRequest (RFC 2985 5.4.2).
use Rattle.std.specs.Prelude.{◌≡◌, ◌≤◌, ◌⊎◌, ℕ, List, [], ◌∷◌, ◌++◌, length}
use Rattle.x509_c_calls.specs.Place.{IsAt}
use Rattle.x509_c_calls.specs.RequestView.{behind_part}
use Rattle.x509_c_calls.specs.declared.place.span.Span.{Span}
use Rattle.x509_c_calls.specs.declared.status.status.Status.{Status}
use Rattle.x509_c_calls.specs.declared.status.status.Status.TheVariants.{Done, Absent, Repeated, Refused}
use Rattle.x509_cert.specs.AttributeLookUp.{with_type}
use Rattle.x509_cert.specs.Identifiers.{pkcs_9}
use Rattle.x509_cert.specs.declared.request.cert_req.CertReq.{CertReq}
use Rattle.x509_der.specs.Any.{any}
use Rattle.x509_der.specs.declared.any.Any.{Any}
use Rattle.x509_der.specs.Element.{limit}
use Rattle.x509_der.specs.declared.error.ErrorKind.{ErrorKind}
use Rattle.x509_der.specs.declared.error.ErrorKind.TheVariants.{Memory, Malformed, Failed}
use Rattle.x509_der.specs.List.{joined}
use Rattle.x509_der.specs.Form.{Form, Spells, spelling}
use Rattle.x509_ext.specs.Extension.{extensions}
use Rattle.x509_ext.specs.declared.extension.Extension.{Extension}
use Rattle.x509_name.specs.Attribute as grammar
use Rattle.x509_name.specs.declared.attr.attribute.Attribute.{Attribute}
use Rattle.x509_types.specs.Reencoding.{IsRefused}

-- the element is that of a list of extensions
abbrev pub IsOf : Any → List Extension → Type 0
IsOf value asked = extensions.good asked × (spelling any value ≡ spelling extensions asked)

-- There is one value, the element of a list of extensions, and it stands there; behind it stand those octets.
abbrev pub AsksAt : List ℕ → List Any → List ℕ → Span → Type 0
AsksAt bytes (value ∷ []) behind span = (asked : List Extension) × IsOf value asked × IsAt (spelling extensions asked) behind bytes span
AsksAt bytes _ behind span = ⊥

-- Failed for no value and for two or more; Malformed where the one is the element of no list of extensions; Memory may come where there is one.
abbrev pub AsksNothing : List Any → ErrorKind → Type 0
AsksNothing (value ∷ []) e = (e ≡ Memory) ⊎ ((e ≡ Malformed) × ((asked : List Extension) → IsOf value asked → ⊥))
AsksNothing _ e = e ≡ Failed

-- What a call leaves that asks for them among these attributes, behind which those octets stand, where the last list has those of the type: Absent for
-- none, Repeated for two or more; of the one where the extensions stand, or why there are none. What isn't filled in stays as it was.
unfoldable pub FindsAsked : List ℕ → List Attribute → List ℕ → List Attribute → Span → Span → Status → Type 0
FindsAsked bytes all behind [] was is status = (status ≡ Absent) × (is ≡ was)
FindsAsked bytes all behind (attribute ∷ []) was is status =
    ((status ≡ Done) × (before : List Attribute) × (after : List Attribute) × (all ≡ before ++ attribute ∷ after) × AsksAt bytes attribute.values (joined (spelling grammar.attribute) after ++ behind) is)
    ⊎ ((e : ErrorKind) × (status ≡ Refused e) × AsksNothing attribute.values e × (is ≡ was))
FindsAsked bytes all behind (first ∷ second ∷ others) was is status = (status ≡ Repeated) × (is ≡ was)

-- the same of the CSR that the bytes spell; or they are refused
unfoldable pub LooksUpAsked : Form CertReq → (ErrorKind → Type 0) → List ℕ → Span → Span → Status → Type 0
LooksUpAsked form refuses bytes was is status =
    ((request : CertReq) × Spells form request bytes × FindsAsked bytes request.info.attributes (behind_part request []) (with_type (pkcs_9 14) request.info.attributes) was is status)
    ⊎ ((e : ErrorKind) × (status ≡ Refused e) × (is ≡ was) × (((e ≡ Memory) × (length bytes ≤ limit)) ⊎ IsRefused form refuses bytes e))
