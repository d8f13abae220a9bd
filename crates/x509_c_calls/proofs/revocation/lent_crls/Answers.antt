use Rattle.std.proofs.Common.{ap, subst}
use Rattle.std.proofs.lemmas.List.{take_all}
use Rattle.x509_c_calls.proofs.RevocationCrls.{IsLentFrom, lends-all, lent-further}
use Rattle.x509_c_calls.proofs.revocation.lent_crls.Goals as goal
use Rattle.x509_c_calls.specs.RevocationStatus.{AllPairs}
use Rattle.x509_c_calls.specs.declared.revocation.Opened.{Opened}

pub loop-one-preserved : goal.loop-one-preserved
loop-one-preserved c =
    let crl = ap (λ (opened : Opened). opened.crl) c.one-item.is in
    let signer = ap (λ (opened : Opened). opened.signer) c.one-item.is in
    lent-further c.loop-one.lent.items c.push.new.self.items c.args.opened.now c.loop-one.one-index c.one-item.result _ c.loop-one-test.true c.in_ok-push.ensures.items crl signer c.loop-one.invariant

pub returns : goal.returns
returns c = λ given are.
    lends-all c.loop-one.lent.items c.args.opened.now given
    (subst (λ opened. AllPairs IsLentFrom c.loop-one.lent.items opened) (take_all c.loop-one.one-index c.args.opened.now c.loop-one-test.false) c.loop-one.invariant) are
