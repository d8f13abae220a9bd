use Rattle.std.proofs.Common.{ap, inr}
use Rattle.std.proofs.lemmas.Result.{err_from_is_err_and}
use Rattle.x509_name.proofs.AttributeReading.{refused_cut, refused_key, value_refused}
use Rattle.x509_name.proofs.text.attributes.read_attribute.Goals as goal

pub returns-in_default-clause-err : goal.returns-in_default-clause-err
returns-in_default-clause-err c = inr (refused_cut c.args.text.now _ c.in_default.ensures (ap (λ e. e.kind) c.into.ensures))

pub returns-in_err-oid-clause-err : goal.returns-in_err-oid-clause-err
returns-in_err-oid-clause-err c =
    let exit = err_from_is_err_and c.from_residual.result c.from_residual.ensures.1 in
    let refused = c.in_err-oid.ensures.err in
    rw (exit.1, exit.2) (inr (refused_key c.args.text.now c.in-Some.key.now c.in-Some.rest.now _ c.in-Some.ensures refused.0 refused.1))

pub returns-in_err-value-clause-err : goal.returns-in_err-value-clause-err
returns-in_err-value-clause-err c =
    let exit = err_from_is_err_and c.from_residual-in_err-value.result c.from_residual-in_err-value.ensures.1 in
    rw (exit.1, exit.2) (value_refused c.args.text.now c.in-Some.key.now c.in-Some.rest.now _ _ c.in-Some.ensures c.in_ok-oid.ensures.ok c.in_err-value.ensures.err)
