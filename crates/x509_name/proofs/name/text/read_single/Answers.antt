use Rattle.std.proofs.lemmas.Result.{err_from_is_err_and}
use Rattle.x509_name.proofs.NameReading.{single_read, single_refused}
use Rattle.x509_name.proofs.name.text.read_single.Goals as goal

pub returns-in_err-attribute-clause-err : goal.returns-in_err-attribute-clause-err
returns-in_err-attribute-clause-err c =
    let exit = err_from_is_err_and c.from_residual.result c.from_residual.ensures.1 in
    rw (exit.1, exit.2) (single_refused c.args.text.now _ c.requires c.in_err-attribute.ensures.err)

pub returns-clause-ok : goal.returns-clause-ok
returns-clause-ok c = rw c.from_one.ensures (single_read c.args.text.now _ c.requires c.in_ok-attribute.ensures.ok)
