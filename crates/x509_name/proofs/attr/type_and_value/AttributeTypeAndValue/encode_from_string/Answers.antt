use Rattle.x509_name.specs.Attributes.{AttributeRefused}
use Rattle.x509_name.proofs.EncodedTexts.{encoded, not_encoded}
use Rattle.x509_name.specs.Text.{Reads}
use Rattle.x509_name.specs.TypeAndValue.{attribute_type_and_value}
use Rattle.x509_name.proofs.attr.type_and_value.AttributeTypeAndValue.encode_from_string.Goals as goal

pub returns-clause-ok : goal.returns-clause-ok
returns-clause-ok c = encoded attribute_type_and_value Reads (λ v. v.items) c.args.text.now c.in_ok-from_str.field-0 c.in_ok-from_str.ensures.ok c.to_der.result c.to_der.ensures.ok

pub returns-clause-err : goal.returns-clause-err
returns-clause-err c = not_encoded attribute_type_and_value Reads (λ v. v.items) c.args.text.now c.in_ok-from_str.field-0 c.in_ok-from_str.ensures.ok AttributeRefused c.to_der.result c.to_der.ensures.err
