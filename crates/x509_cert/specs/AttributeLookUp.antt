-- Look-ups among the attributes of a CSR: those of a type, and what the one value of the one is decoded to (RFC 2986 4.1).
use Rattle.std.specs.Prelude.{◌≡◌, ◌⊎◌, ℕ, List, [], ◌∷◌, filter, bytes_eq, Option, Some, None, Result, Ok, Err, IfOk, IfErr, IsErrAnd}
use Rattle.x509_der.specs.Outcome.{Gives}
use Rattle.x509_der.specs.Tag.{octet_of}
use Rattle.x509_der.specs.declared.error.Error.{Error}
use Rattle.x509_der.specs.declared.error.ErrorKind.{ErrorKind}
use Rattle.x509_der.specs.declared.error.ErrorKind.TheVariants.{Memory, Malformed, Failed}
use Rattle.x509_der.specs.Any as elements
use Rattle.x509_der.specs.declared.any.Any.{Any}
use Rattle.x509_der.specs.Form.{Form, spelling}
use Rattle.x509_name.specs.declared.attr.attribute.Attribute.{Attribute}

-- those whose type has these content octets, in their order
abbrev pub with_type : List ℕ → List Attribute → List Attribute
with_type oid attributes = filter (λ a. bytes_eq a.oid oid) attributes

-- What the decoder of a type may answer on an element: the one value whose element it is; else Malformed, or a refusal of the type's own,
-- exactly where it is that of none, and which of them is said by reading; else Memory, where reading the type wants it.
pub record DecodesElement {T : Type 0} (form : Form T) (refuses : ErrorKind → Type 0) (wants_memory : Type 0) (element : Any) (answer : Result T Error) : Type 0 where
  pub found : IfOk answer (λ value. form.good value × (spelling elements.any element ≡ spelling form value))
  pub refused : IfErr answer (λ e. ((e.kind ≡ Memory) × wants_memory) ⊎ ((e.kind ≡ Malformed) ⊎ refuses e.kind))
  pub only : (value : T) → form.good value → spelling elements.any element ≡ spelling form value → IfErr answer (λ e. (e.kind ≡ Memory) × wants_memory)
  pub value : (value : T) → form.good value → spelling elements.any element ≡ spelling form value → IfOk answer (λ found. found ≡ value)
  pub which : Gives answer (form.reading (octet_of element.tag) element.value)

-- What is answered on the values of an attribute that is to have one (RFC 2985 5.4): what the decoder answers on the one; Failed exactly for none, and for
-- two or more.
abbrev pub DecodesAlone : {T : Type 0} → Form T → (ErrorKind → Type 0) → Type 0 → List Any → Result T Error → Type 0
DecodesAlone form refuses wants_memory [] answer = IsErrAnd answer (λ e. e.kind ≡ Failed)
DecodesAlone form refuses wants_memory (value ∷ []) answer = DecodesElement form refuses wants_memory value answer
DecodesAlone form refuses wants_memory (first ∷ second ∷ others) answer = IsErrAnd answer (λ e. e.kind ≡ Failed)

-- What a look-up answers, where these have the type: None exactly for none; what is answered on the values of the one; Failed for two or more.
abbrev pub FindsValue : {T : Type 0} → Form T → (ErrorKind → Type 0) → Type 0 → List Attribute → Result (Option T) Error → Type 0
FindsValue form refuses wants_memory [] answer = answer ≡ Ok None
FindsValue form refuses wants_memory (attribute ∷ []) (Ok None) = ⊥
FindsValue form refuses wants_memory (attribute ∷ []) (Ok (Some found)) = DecodesAlone form refuses wants_memory attribute.values (Ok found)
FindsValue form refuses wants_memory (attribute ∷ []) (Err e) = DecodesAlone form refuses wants_memory attribute.values (Err e)
FindsValue form refuses wants_memory (first ∷ second ∷ others) answer = IsErrAnd answer (λ e. e.kind ≡ Failed)
