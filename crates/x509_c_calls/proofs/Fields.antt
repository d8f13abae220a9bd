-- The fields of an extension, one after the other.
use Rattle.std.proofs.Common.{◌≡◌, ℕ, Bool, true, false, List, ◌++◌, refl, ap, ◌∙◌, append_assoc}
use Rattle.x509_c_calls.specs.PayloadExtensions.{critical_text}
use Rattle.x509_c_calls.specs.Place.{IsField}
use Rattle.x509_der.specs.ObjectIdentifierForm.{object_identifier}
use Rattle.x509_der.specs.Element.{element, is_identifier, is_universal}
use Rattle.x509_der.specs.DefaultValues.{boolean_default}
use Rattle.x509_der.specs.Frames.{default_octets, fields_octets}
use Rattle.x509_der.specs.Boolean.{boolean}
use Rattle.x509_der.specs.Form.{spelling}
use Rattle.x509_ext.specs.Extension.{extension, extension_fields}
use Rattle.x509_ext.specs.declared.extension.Extension.{Extension}

content_is : (e : Extension) → extension.content e ≡ spelling object_identifier e.extn_id ++ (critical_text e ++ element 4 e.extn_value)
unfolding fields_octets extension_fields
content_is e = refl

pub laid_out : (e : Extension) (behind : List ℕ) → extension.content e ++ behind ≡ spelling object_identifier e.extn_id ++ (critical_text e ++ (element 4 e.extn_value ++ behind))
laid_out e behind =
    ap (λ x. x ++ behind) (content_is e) ∙ append_assoc (spelling object_identifier e.extn_id) (critical_text e ++ element 4 e.extn_value) behind
    ∙ ap (λ x. spelling object_identifier e.extn_id ++ x) (append_assoc (critical_text e) (element 4 e.extn_value) behind)

pub critical_field : (b : Bool) → IsField b (default_octets boolean_default (spelling boolean) b)
unfolding default_octets is_identifier is_universal
critical_field true = (1, boolean.content true, refl, refl)
critical_field false = refl
