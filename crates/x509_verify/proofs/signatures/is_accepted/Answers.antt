use Rattle.std.proofs.Common.{sym, ◌∙◌}
use Rattle.x509_verify.proofs.signatures.is_accepted.Goals as goal

pub returns : goal.returns
returns g c = λ certificate key lends spells.
    let said = c.verify.ensures certificate.signature_algorithm key certificate.signature (c.signed_of-signed.ensures.algorithm certificate lends) spells (c.signed_of-signed.ensures.signature certificate lends) in (
      (λ so. (c.signed_of-signed.result.message.now, c.signed_of-signed.ensures.message, sym said ∙ so)),
      (λ (signed, part, so). said ∙ (rw (c.one_signed_part.ensures _ signed c.signed_of-signed.result.message.now part c.signed_of-signed.ensures.message) at so)),
    )
