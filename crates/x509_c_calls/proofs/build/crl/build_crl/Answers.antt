use Rattle.std.proofs.Common.{◌∙◌, inl, inr, sym}
use Rattle.x509_c_calls.proofs.Exits.{mapped}
use Rattle.x509_c_calls.proofs.Filled.{refused_as, repeated_as, unrepeated_with}
use Rattle.x509_c_calls.proofs.build.crl.build_crl.Goals as goal

pub returns-in-Err : goal.returns-in-Err
returns-in-Err c = refused_as _ _ _ _ (mapped (λ r. inl r) c.in-Err.ensures)

pub returns-in-Ok-Some : goal.returns-in-Ok-Some
returns-in-Ok-Some c =
    let parts = rw c.in-Ok-Some.field-0-is at c.in-Ok-Some.ensures in
    unrepeated_with _ _ _ _ _ _ _ (rw c.as_slice.ensures.value (c.in-Ok.inputs, c.in-Ok.ensures, parts)) c.fill.ensures.left

pub returns-in-Ok-None : goal.returns-in-Ok-None
returns-in-Ok-None c =
    let repeats = rw c.in-Ok-None.field-0-is at c.in-Ok-None.ensures in
    repeated_as _ _ _ (c.in-Ok.inputs, c.in-Ok.ensures, repeats)

pub returns-in-Err-crl_part : goal.returns-in-Err-crl_part
returns-in-Err-crl_part c =
    refused_as _ _ _ _ (elim c.in-Err-crl_part.ensures [ inl memory ↦ inl (c.kind_of.ensures ∙ memory) | inr refuses ↦ inr (inr (c.in-Ok.inputs, c.in-Ok.ensures, (c.in-Err-crl_part.e, sym c.kind_of.ensures, refuses))) ])
