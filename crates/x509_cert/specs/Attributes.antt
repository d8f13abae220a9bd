-- Attributes that are made of their values.
use Rattle.std.specs.Prelude.{◌≡◌, ◌⊎◌, ℕ, List, [], ◌∷◌, Result, Ok, Err}
use Rattle.x509_der.specs.Element.{limit}
use Rattle.x509_der.specs.declared.error.Error.{Error}
use Rattle.x509_der.specs.declared.error.ErrorKind.TheVariants.{Memory}
use Rattle.x509_der.specs.Any.{any}
use Rattle.x509_der.specs.declared.any.Any.{Any}
use Rattle.x509_der.specs.Form.{Form, spelling}
use Rattle.x509_der.specs.Writing.{Written, IsWritable, IsUnwritable, written_spelling}
use Rattle.x509_name.specs.declared.attr.attribute.Attribute.{Attribute}

-- the attribute of that type with one value, whose element is what is written
pub record HoldsAlone {X : Type 0} (oid : List ℕ) (form : Form X) (written : Written X) (attribute : Attribute) : Type 0 where
  pub value : Any
  pub alone : attribute ≡ record { oid = oid; values = value ∷ [] }
  pub encoded : spelling any value ≡ written_spelling form written

-- What a call that makes it answers: the attribute; or out of memory; or the value can't be written.
abbrev pub MakesAttribute : {X : Type 0} → List ℕ → Form X → Written X → Result Attribute Error → Type 0
MakesAttribute oid form written (Ok attribute) = HoldsAlone oid form written attribute × IsWritable form written limit
MakesAttribute oid form written (Err e) = (e.kind ≡ Memory) ⊎ IsUnwritable form written limit e.kind
