-- An extension in a list of them, by its place (RFC 5280 4.2).
use Rattle.std.specs.Prelude.{◌≡◌, ℕ, Bool, true, false, List, ◌++◌}
use Rattle.x509_c_calls.specs.declared.payloads.extension.ExtensionEntry.{ExtensionEntry}
use Rattle.x509_c_calls.specs.Place.{IsAt}
use Rattle.x509_der.specs.Element.{element}
use Rattle.x509_der.specs.DefaultValues.{boolean_default}
use Rattle.x509_der.specs.Frames.{default_octets}
use Rattle.x509_der.specs.Boolean.{boolean}
use Rattle.x509_der.specs.Form.{spelling}
use Rattle.x509_ext.specs.declared.extension.Extension.{Extension}

abbrev pub flag : Bool → ℕ
flag true = 1
flag false = 0

-- whether it is critical as it is written: nothing where it isn't
abbrev pub critical_text : Extension → List ℕ
critical_text extension = default_octets boolean_default (spelling boolean) extension.critical

-- what the entry says of an extension in these bytes, behind which those others stand
pub record IsExtensionEntry (bytes : List ℕ) (extension : Extension) (behind : List ℕ) (entry : ExtensionEntry) : Type 0 where
  pub oid : IsAt extension.extn_id (critical_text extension ++ (element 4 extension.extn_value ++ behind)) bytes entry.oid
  pub critical : entry.critical ≡ flag extension.critical
  pub value : IsAt extension.extn_value behind bytes entry.value
