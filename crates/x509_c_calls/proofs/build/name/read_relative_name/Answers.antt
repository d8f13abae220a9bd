use Rattle.std.proofs.Common.{◌∙◌, ap, inl, inr}
use Rattle.x509_c_calls.proofs.build.name.read_relative_name.Goals as goal
use Rattle.x509_der.specs.Form.{spelling}
use Rattle.x509_der.specs.List.{joined}
use Rattle.x509_name.specs.TypeAndValue.{attribute_type_and_value}

pub returns-in-Err : goal.returns-in-Err
unfolding joined
returns-in-Err c =
    rw c.kind.ensures (inr (inr (elim c.in-Err.ensures.err [
      | inl none ↦ inl (none.0, c.in_ok-attributes.ensures.1 ∙ ap (joined (spelling attribute_type_and_value)) none.1)
      | inr duplicate ↦ inr (c.in_ok-attributes.attributes.items, c.in_ok-attributes.ensures, duplicate.0, duplicate.1)
    ])))
