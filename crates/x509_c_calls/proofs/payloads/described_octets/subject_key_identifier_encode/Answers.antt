use Rattle.std.proofs.Common.{inl, inr, refl}
use Rattle.x509_c_calls.specs.Status.{Fills}
use Rattle.x509_c_calls.proofs.payloads.described_octets.subject_key_identifier_encode.Goals as goal

pub returns-in-Err : goal.returns-in-Err
unfolding Fills
returns-in-Err c = (elim c.in-Err.ensures.found [ inl memory ↦ inl memory | inr long ↦ inr (inr (record { 0 = c.args.octets.now }, refl, long.0, long.1)) ], refl)
