-- An element of any type, by its place (X.690 8.1).
use Rattle.std.specs.Prelude.{◌≡◌, ℕ, List}
use Rattle.x509_c_calls.specs.declared.payloads.element.ElementView.{ElementView}
use Rattle.x509_c_calls.specs.Place.{IsAt}
use Rattle.x509_der.specs.Tag.{octet_of}
use Rattle.x509_der.specs.Any.{any}
use Rattle.x509_der.specs.declared.any.Any.{Any}
use Rattle.x509_der.specs.Form.{spelling}

-- what the view says of an element in these bytes, behind which those others stand
pub record IsElement (bytes : List ℕ) (it : Any) (behind : List ℕ) (view : ElementView) : Type 0 where
  pub tag : view.tag ≡ octet_of it.tag
  pub element : IsAt (spelling any it) behind bytes view.element
  pub content : IsAt it.value behind bytes view.content
