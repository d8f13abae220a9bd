-- The bytes to be signed of a CSR that is built (RFC 2986 4.1).
use Rattle.std.specs.List.Sorted.{IsStrictlySortedBy, IsPermutation}
use Rattle.std.specs.Prelude.{◌≡◌, ◌⊎◌, ℕ, List, Result, Ok, Err, Any}
use Rattle.x509_base.specs.SubjectPublicKeyInfo.{subject_public_key_info}
use Rattle.x509_build.specs.RequestParts.{next_part}
use Rattle.x509_c_calls.specs.Input.{RefusesEach, SpellEach}
use Rattle.x509_c_calls.specs.Refusals.{Finalizes}
use Rattle.x509_c_calls.specs.declared.status.status.Status.{Status}
use Rattle.x509_c_calls.specs.declared.status.status.Status.TheVariants.{Repeated, Refused}
use Rattle.x509_c_calls.specs.declared.build.request.RequestInputs.{RequestInputs}
use Rattle.x509_cert.specs.CertReq.{cert_req_info}
use Rattle.x509_cert.specs.Identifiers.{pkcs_9}
use Rattle.x509_der.specs.Set.{AreDistinct}
use Rattle.x509_der.specs.declared.error.ErrorKind.{ErrorKind}
use Rattle.x509_der.specs.declared.error.ErrorKind.TheVariants.{SetDuplicate}
use Rattle.x509_der.specs.Form.{Spells}
use Rattle.x509_der.specs.Writing.{plain}
use Rattle.x509_ext.specs.Extension.{extension}
use Rattle.x509_ext.specs.LookUp.{IsRepeated}
use Rattle.x509_name.specs.Names.{name}
use Rattle.x509_name.specs.Attribute.{attribute, attribute_cmp}
use Rattle.x509_name.specs.declared.attr.attribute.Attribute.{Attribute}
use Rattle.x509_types.specs.Reencoding.{IsRefused}

-- ---- what a call takes

-- one of them asks for extensions, as the one does that the builder makes (RFC 2985 5.4.2)
abbrev pub Ask : List Attribute → Type 0
Ask attributes = Any (λ (it : Attribute). it.oid ≡ pkcs_9 14) attributes

-- the set of the attributes whose encodings the bytes are, none of which asks for extensions
abbrev pub IsSetOf : List ℕ → List Attribute → Type 0
IsSetOf bytes set =
    (given : List Attribute) × SpellEach attribute given bytes × (Ask given → ⊥) × IsPermutation given set × IsStrictlySortedBy attribute_cmp set

-- there is none: the bytes are refused, or one of the attributes asks for extensions, or two of them are equal
abbrev pub RefusesSet : List ℕ → ErrorKind → Type 0
RefusesSet bytes e =
    RefusesEach attribute (λ e. ⊥) bytes e
    ⊎ ((given : List Attribute) × SpellEach attribute given bytes × (e ≡ SetDuplicate) × (Ask given ⊎ (¬ AreDistinct given)))

pub record AreRequestInputs (subject key attributes extensions : List ℕ) (inputs : RequestInputs) : Type 0 where
  pub subject_is : Spells name inputs.subject subject
  pub key_is : Spells subject_public_key_info inputs.key key
  pub attributes_are : IsSetOf attributes inputs.attributes
  pub extensions_are : SpellEach extension inputs.extensions.items extensions

-- one of them is refused
abbrev pub RefusesRequestInputs : List ℕ → List ℕ → List ℕ → List ℕ → ErrorKind → Type 0
RefusesRequestInputs subject key attributes extensions e =
    IsRefused name (λ e. ⊥) subject e ⊎ (IsRefused subject_public_key_info (λ e. ⊥) key e ⊎ (RefusesSet attributes e ⊎ RefusesEach extension (λ e. ⊥) extensions e))

-- ---- what it answers

-- The part that the builder finalizes to for a signer with the key (x509_build's RequestParts), where no two of the extensions to be asked for have
-- one OID; or why there is none.
abbrev pub BuildsRequest : List ℕ → List ℕ → List ℕ → List ℕ → Result (List ℕ) Status → Type 0
BuildsRequest subject key attributes extensions (Ok bytes) =
    (inputs : RequestInputs) × AreRequestInputs subject key attributes extensions inputs × (¬ IsRepeated inputs.extensions.items)
    × Finalizes cert_req_info plain (next_part inputs.subject inputs.attributes inputs.extensions.items inputs.key) (Ok bytes)
BuildsRequest subject key attributes extensions (Err Repeated) =
    (inputs : RequestInputs) × AreRequestInputs subject key attributes extensions inputs × IsRepeated inputs.extensions.items
BuildsRequest subject key attributes extensions (Err (Refused e)) =
    RefusesRequestInputs subject key attributes extensions e
    ⊎ ((inputs : RequestInputs) × AreRequestInputs subject key attributes extensions inputs × (¬ IsRepeated inputs.extensions.items)
    × Finalizes cert_req_info plain (next_part inputs.subject inputs.attributes inputs.extensions.items inputs.key) (Err e))
BuildsRequest subject key attributes extensions (Err _) = ⊥
