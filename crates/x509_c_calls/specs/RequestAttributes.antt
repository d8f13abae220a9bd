-- The attributes of a CSR by their places, and the one of a type (RFC 2986 4.1).
use Rattle.std.specs.Prelude.{◌≡◌, ◌⊎◌, ℕ, List, [], ◌∷◌, ◌++◌}
use Rattle.x509_c_calls.specs.Place.{IsAt}
use Rattle.x509_c_calls.specs.RequestView.{behind_part}
use Rattle.x509_c_calls.specs.declared.request.attribute.RequestAttributeView.{RequestAttributeView}
use Rattle.x509_c_calls.specs.declared.status.status.Status.{Status}
use Rattle.x509_c_calls.specs.declared.status.status.Status.TheVariants.{Done, Absent, Repeated, Refused}
use Rattle.x509_cert.specs.AttributeLookUp.{with_type}
use Rattle.x509_cert.specs.declared.request.cert_req.CertReq.{CertReq}
use Rattle.x509_der.specs.declared.error.ErrorKind.{ErrorKind}
use Rattle.x509_der.specs.declared.error.ErrorKind.TheVariants.{Memory}
use Rattle.x509_der.specs.List.{joined}
use Rattle.x509_der.specs.Form.{Form, Spells, spelling}
use Rattle.x509_name.specs.Attribute as grammar
use Rattle.x509_name.specs.declared.attr.attribute.Attribute.{Attribute}
use Rattle.x509_types.specs.Reencoding.{IsRefused}

-- what the view says of an attribute in these bytes, behind which those others stand
pub record IsRequestAttribute (bytes : List ℕ) (attribute : Attribute) (behind : List ℕ) (view : RequestAttributeView) : Type 0 where
  pub oid : IsAt attribute.oid (spelling grammar.value_set attribute.values ++ behind) bytes view.oid
  pub values : IsAt (spelling grammar.value_set attribute.values) behind bytes view.values

-- What a call leaves that asks for one of these attributes, behind which those octets stand, where the last list has those of the type: Absent for none, Done
-- for one, Repeated for two or more. What isn't filled in stays as it was.
unfoldable pub FindsAttribute : List ℕ → List Attribute → List ℕ → List Attribute → RequestAttributeView → RequestAttributeView → Status → Type 0
FindsAttribute bytes all behind [] was is status = (status ≡ Absent) × (is ≡ was)
FindsAttribute bytes all behind (attribute ∷ []) was is status =
    (status ≡ Done) × (before : List Attribute) × (after : List Attribute) × (all ≡ before ++ attribute ∷ after) × IsRequestAttribute bytes attribute (joined (spelling grammar.attribute) after ++ behind) is
FindsAttribute bytes all behind (first ∷ second ∷ others) was is status = (status ≡ Repeated) × (is ≡ was)

-- the same of the CSR that the bytes spell; or they are refused
unfoldable pub LooksUpAttribute : Form CertReq → (ErrorKind → Type 0) → List ℕ → List ℕ → RequestAttributeView → RequestAttributeView → Status → Type 0
LooksUpAttribute form refuses bytes oid was is status =
    ((request : CertReq) × Spells form request bytes × FindsAttribute bytes request.info.attributes (behind_part request []) (with_type oid request.info.attributes) was is status)
    ⊎ ((e : ErrorKind) × (status ≡ Refused e) × (is ≡ was) × ((e ≡ Memory) ⊎ IsRefused form refuses bytes e))
