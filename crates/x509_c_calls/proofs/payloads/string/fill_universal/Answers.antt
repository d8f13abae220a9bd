use Rattle.std.proofs.Common.{inl, inr, refl, ◌∙◌}
use Rattle.x509_c_calls.proofs.Strings.{refused_fill}
use Rattle.x509_c_calls.proofs.Texts.{fills_with}
use Rattle.x509_c_calls.proofs.payloads.string.fill_universal.Goals as goal
use Rattle.x509_c_calls.specs.Status.{Fills}
use Rattle.x509_c_calls.specs.StringTexts.{IsText}

pub returns-in-Ok-Some : goal.returns-in-Ok-Some
returns-in-Ok-Some c =
    let text = c.as_bytes.ensures.value ∙ c.as_str.ensures.value in
    fills_with (IsText _) _ _ _ _ _ _ (rw text (rw c.in-Ok-Some.field-0-is at c.in-Ok-Some.ensures).ok) c.fill.ensures.left c.fill.ensures.accepted

pub returns-in-Ok-None : goal.returns-in-Ok-None
unfolding Fills
returns-in-Ok-None c = (inr (refl, (rw c.in-Ok-None.field-0-is at c.in-Ok-None.ensures).ok), refl)

pub returns-in-Err : goal.returns-in-Err
returns-in-Err c = refused_fill _ _ _ _ _ c.into.ensures (inl c.in-Err.ensures.err)
