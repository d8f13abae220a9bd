use Rattle.std.proofs.lemmas.Result.{err_from_is_err_and}
use Rattle.x509_name.specs.Attributes.{AttributeRefused}
use Rattle.x509_name.proofs.FirstRefusals.{read_more}
use Rattle.x509_name.proofs.PartsRead.{parts_refused}
use Rattle.x509_name.specs.Text.{Reads}
use Rattle.x509_name.proofs.NameReading.{rdn_refused}
use Rattle.x509_name.proofs.name.text.read_several.Goals as goal

pub returns-in_err-read_one-clause-err : goal.returns-in_err-read_one-clause-err
returns-in_err-read_one-clause-err c =
    let exit = err_from_is_err_and c.from_residual-in_err-read_one.result c.from_residual-in_err-read_one.ensures.1 in
    rw (exit.1, exit.2) (rdn_refused c.args.text.now _ (parts_refused Reads 43 c.args.text.now _ _ c.loop-part.invariant c.in-Some.part.now _ c.in-Some.ensures.steps AttributeRefused _ _ c.in_err-read_one.ensures.err))

pub loop-part-preserved : goal.loop-part-preserved
loop-part-preserved c =
    let pushed = c.in_ok-push.ensures.items in
    rw pushed (read_more Reads _ _ _ _ c.in-Some.part.now c.loop-part.invariant c.in-Some.ensures.steps _ c.in_ok-read_one.ensures.ok)
