-- An attribute of a name, by its place (RFC 5280 4.1.2.4).
use Rattle.std.specs.Prelude.{◌≡◌, ℕ, List, ◌++◌}
use Rattle.x509_c_calls.specs.declared.payloads.name.AttributeView.{AttributeView}
use Rattle.x509_c_calls.specs.Place.{IsAt}
use Rattle.x509_der.specs.Tag.{octet_of}
use Rattle.x509_der.specs.Any.{any}
use Rattle.x509_der.specs.Form.{spelling}
use Rattle.x509_name.specs.declared.attr.type_and_value.AttributeTypeAndValue.{AttributeTypeAndValue}

-- what the view says of an attribute in these bytes, behind which those others stand
pub record IsAttribute (bytes : List ℕ) (attribute : AttributeTypeAndValue) (behind : List ℕ) (view : AttributeView) : Type 0 where
  pub oid : IsAt attribute.oid (spelling any attribute.value ++ behind) bytes view.oid
  pub tag : view.tag ≡ octet_of attribute.value.tag
  pub element : IsAt (spelling any attribute.value) behind bytes view.element
  pub content : IsAt attribute.value.value behind bytes view.content
