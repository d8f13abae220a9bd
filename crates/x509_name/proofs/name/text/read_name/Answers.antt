use Rattle.std.proofs.lemmas.Result.{err_from_is_err_and}
use Rattle.x509_name.proofs.FirstRefusals.{read_more}
use Rattle.x509_name.proofs.PartsRead.{parts_refused}
use Rattle.x509_name.specs.NameText.{RdnReads, RdnRefused}
use Rattle.x509_name.proofs.NameReading.{some_text, name_refused}
use Rattle.x509_name.proofs.name.text.read_name.Goals as goal

pub returns-in_err-read_rdn-clause-err : goal.returns-in_err-read_rdn-clause-err
returns-in_err-read_rdn-clause-err c =
    let exit = err_from_is_err_and c.from_residual-in_err-read_rdn.result c.from_residual-in_err-read_rdn.ensures.1 in
    rw (exit.1, exit.2) (name_refused c.args.text.now _ (some_text c.args.text.now c.if-is_empty.ensures) (parts_refused RdnReads 44 c.args.text.now _ _ c.loop-part.invariant c.in-Some.part.now _ c.in-Some.ensures.steps RdnRefused _ _ c.in_err-read_rdn.ensures.err))

pub loop-part-preserved : goal.loop-part-preserved
loop-part-preserved c =
    let pushed = c.in_ok-push.ensures.items in
    rw pushed (read_more RdnReads _ _ _ _ c.in-Some.part.now c.loop-part.invariant c.in-Some.ensures.steps _ c.in_ok-read_rdn.ensures.ok)
