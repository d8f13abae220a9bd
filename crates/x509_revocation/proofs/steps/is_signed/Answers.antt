use Rattle.std.proofs.Common.{sym, ◌∙◌}
use Rattle.x509_revocation.proofs.Parts.{bits_spells, outer_spells}
use Rattle.x509_revocation.proofs.steps.is_signed.Goals as goal

pub returns : goal.returns
returns g c = λ list signer lends anchor.
    let bytes = c.args.crl.now.bytes.now in
    let said = c.verify.ensures list.signature_algorithm signer.key list.signature (outer_spells list bytes lends c.signature_algorithm.result.now (c.signature_algorithm.ensures list lends)) anchor.1 (bits_spells list bytes lends c.signature.result.now (c.signature.ensures list lends)) in (
      (λ so. (c.signed_part.result.now, c.signed_part.ensures.signed, sym said ∙ so)),
      (λ (signed, part, so). said ∙ (rw (c.one_signed_part.ensures _ signed c.signed_part.result.now part c.signed_part.ensures.signed) at so)),
    )
