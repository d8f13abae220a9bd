use Rattle.std.proofs.Common.{take, arith, subst}
use Rattle.std.proofs.lemmas.List.{length-map}
use Rattle.x509_c_calls.specs.PathValidation.{IsCertificateOf}
use Rattle.x509_c_calls.proofs.LentCertificates.{zip_of_bytes}
use Rattle.x509_c_calls.proofs.PutPlaces.{all_put, one_put}
use Rattle.x509_c_calls.proofs.path.views.put_certificates.Goals as goal

pub loop-index-preserved : goal.loop-index-preserved
loop-index-preserved c =
    one_put (λ certificate. IsCertificateOf certificate.bytes.now) c.args.lent.now c.args.room.now c.loop-index.room c.loop-index.index c.index-lent-index.result c.certificate_of.result
    c.loop-index-test.true c.if-room-lent.false (subst (λ certificate. IsCertificateOf certificate.bytes.now c.certificate_of.result) c.index-lent-index.is c.certificate_of.ensures) c.loop-index.invariant

pub returns : goal.returns
returns c =
    let long = length-map c.args.lent.now (λ certificate. certificate.bytes.now) in
    let (each, is) = all_put (λ certificate. IsCertificateOf certificate.bytes.now) c.args.lent.now c.args.room.now c.loop-index.room c.loop-index.index c.loop-index-test.false
    (omega (arith, c.loop-index.auto.index-end, c.if-room-lent.false)) c.loop-index.invariant in (
      (λ short. absurd (omega (arith, short, long, c.if-room-lent.false))),
      (λ fit. (take c.loop-index.index c.loop-index.room, zip_of_bytes (λ certificate. certificate.bytes.now) IsCertificateOf c.args.lent.now (take c.loop-index.index c.loop-index.room) each, is)),
    )
