-- Values of a type that come out of an element that isn't decoded further.
use Rattle.std.specs.Prelude.{◌≡◌, ◌⊎◌, Result, IfOk, IfErr}
use Rattle.x509_der.specs.Element.{element}
use Rattle.x509_der.specs.declared.error.Error.{Error}
use Rattle.x509_der.specs.declared.error.ErrorKind.TheVariants.{Memory, Malformed}
use Rattle.x509_der.specs.Form.{Form, spelling}
use Rattle.x509_der.specs.Tag.{octet_of}
use Rattle.x509_der.specs.declared.any.Any.{Any}

-- the element is that of the value
abbrev pub IsElementOf : {X : Type 0} → Form X → X → Any → Type 0
IsElementOf form value any = form.good value × (element (octet_of any.tag) any.value ≡ spelling form value)

-- The answer is the value whose element it is; where it is that of none, Malformed. Memory is refused only where reading wants it.
pub record ReadsElement {X : Type 0} (form : Form X) (wants_memory : Type 0) (any : Any) (answer : Result X Error) : Type 0 where
  pub found : IfOk answer (λ value. IsElementOf form value any)
  pub every : (value : X) → IsElementOf form value any → IfErr answer (λ e. (e.kind ≡ Memory) × wants_memory)
  pub refused : IfErr answer (λ e. ((e.kind ≡ Memory) × wants_memory) ⊎ (e.kind ≡ Malformed))
