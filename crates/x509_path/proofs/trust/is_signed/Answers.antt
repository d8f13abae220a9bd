use Rattle.std.proofs.Common.{sym, ◌∙◌}
use Rattle.x509_path.proofs.trust.is_signed.Goals as goal

pub returns-clause-ok : goal.returns-clause-ok
returns-clause-ok g c = λ certificate above lends stands.
    let said = c.in_ok-accepted.ensures.ok above certificate.signature_algorithm certificate.signature stands (c.signed_of-signed.ensures.algorithm certificate lends) (c.signed_of-signed.ensures.signature certificate lends) in (
      (λ so. (c.signed_of-signed.result.message.now, c.signed_of-signed.ensures.message, sym said ∙ so)),
      (λ (signed, part, so). said ∙ (rw (c.one_signed_part.ensures _ signed c.signed_of-signed.result.message.now part c.signed_of-signed.ensures.message) at so)),
    )
