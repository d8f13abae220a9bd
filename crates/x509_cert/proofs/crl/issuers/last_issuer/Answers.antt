use Rattle.x509_cert.proofs.Issuing.{before, named, refused}
use Rattle.x509_cert.proofs.crl.issuers.last_issuer.Goals as goal

pub returns-in_err-issuer : goal.returns-in_err-issuer
returns-in_err-issuer g c =
    refused c.args.entries.now c.loop-last.rest.now c.in-Some.others.now c.in-Some.last.now c.in-Some.ensures.cases.0 c.loop-last.invariant
    c.in_err-issuer.field-0.0 c.from_residual.result c.from_residual.ensures.1 c.in_err-issuer.ensures

pub returns-in-Some-2 : goal.returns-in-Some-2
returns-in-Some-2 g c = (
  c.in-Some-2.field-0-0,
  named c.args.entries.now c.loop-last.rest.now c.in-Some.others.now c.in-Some.last.now c.in-Some.ensures.cases.0 c.loop-last.invariant
      (c.in-Some-2.field-0-0, c.in-Some-2.issuer) (rw c.in-Some-2.is at c.in_ok-issuer.ensures),
)

pub loop-last-preserved : goal.loop-last-preserved
loop-last-preserved g c =
    before c.args.entries.now c.loop-last.rest.now c.in-Some.others.now c.in-Some.last.now c.in-Some.ensures.cases.0 c.loop-last.invariant
    (rw c.in_default-2.is at c.in_ok-issuer.ensures)
