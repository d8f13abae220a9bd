use Rattle.std.proofs.Common.{◌≡◌, ◌⊎◌, ℕ, List, subst}
use Rattle.std.proofs.lemmas.Result.{err_from_is_err_and}
use Rattle.x509_der.specs.declared.error.ErrorKind.TheVariants.{Memory}
use Rattle.x509_name.specs.Attributes.{AttributeRefused}
use Rattle.x509_name.proofs.attr.type_and_value.AttributeTypeAndValue.from_str.Goals as goal

pub returns-in_err-oid-clause-err : goal.returns-in_err-oid-clause-err
returns-in_err-oid-clause-err c =
    let exit = err_from_is_err_and c.from_residual.result c.from_residual.ensures.1 in
    rw (exit.1, exit.2) (subst (λ (text : List ℕ). (c.in_err-oid.field-0.0.kind ≡ Memory) ⊎ AttributeRefused text c.in_err-oid.field-0.0.kind) c.as_bytes.ensures.value c.in_err-oid.ensures.err)
