-- Why nothing is built, as a kind.
use Rattle.std.specs.Prelude.{◌≡◌, ◌⊎◌, ℕ, List, Result, Ok, Err}
use Rattle.x509_build.specs.Answer.{Answer}
use Rattle.x509_build.specs.Parts.{Encodes, PartRefuses}
use Rattle.x509_build.specs.declared.error.Error as builder
use Rattle.x509_build.specs.declared.error.Error.TheVariants.{Asn1, PublicKey, Signature}
use Rattle.x509_build.specs.declared.error.KeyError.{KeyError}
use Rattle.x509_build.specs.declared.error.KeyError.TheVariants as keys
use Rattle.x509_build.specs.declared.error.SignError.{SignError}
use Rattle.x509_build.specs.declared.error.SignError.TheVariants as signing
use Rattle.x509_der.specs.declared.error.ErrorKind.{ErrorKind}
use Rattle.x509_der.specs.declared.error.ErrorKind.TheVariants.{Memory, Failed}
use Rattle.x509_der.specs.Form.{Form}
use Rattle.x509_der.specs.Writing.{Writing}

abbrev pub key_kind : KeyError → ErrorKind
key_kind keys.Memory = Memory
key_kind keys.Refused = Failed

abbrev pub sign_kind : SignError → ErrorKind
sign_kind signing.Memory = Memory
sign_kind signing.Refused = Failed

-- that of a value that can't be decoded or encoded; Failed where a name isn't as a profile wants it
abbrev pub kind_of : builder.Error → ErrorKind
kind_of (Asn1 e) = e.kind
kind_of (PublicKey e) = key_kind e
kind_of (Signature e) = sign_kind e
kind_of _ = Failed

-- what a call answers, seen by view, that finalizes a part: the bytes that are encoded of it, to be signed; or why there are none
abbrev pub FinalizesTo : {V X : Type 0} → (V → List ℕ) → Form X → Writing X → Answer X → Result V builder.Error → Type 0
FinalizesTo view form writing part (Ok bytes) = Encodes form writing part (view bytes)
FinalizesTo view form writing part (Err e) = (kind_of e ≡ Memory) ⊎ PartRefuses form writing part e

-- the same, where a refusal is told by its kind
abbrev pub Finalizes : {X : Type 0} → Form X → Writing X → Answer X → Result (List ℕ) ErrorKind → Type 0
Finalizes form writing part (Ok bytes) = Encodes form writing part bytes
Finalizes form writing part (Err kind) = (e : builder.Error) × (kind_of e ≡ kind) × PartRefuses form writing part e
