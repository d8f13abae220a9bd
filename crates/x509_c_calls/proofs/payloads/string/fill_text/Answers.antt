use Rattle.std.proofs.Common.{refl, inr, ◌∙◌}
use Rattle.x509_c_calls.proofs.Strings.{other_text}
use Rattle.x509_c_calls.proofs.Texts.{fills_with}
use Rattle.x509_c_calls.proofs.payloads.string.fill_text.Goals as goal
use Rattle.x509_c_calls.specs.Status.{Fills}
use Rattle.x509_c_calls.specs.StringTexts.{IsText}

pub returns-in-BmpString : goal.returns-in-BmpString
returns-in-BmpString c = rw c.in-BmpString.is c.fill_bmp.ensures

pub returns-in-UniversalString : goal.returns-in-UniversalString
returns-in-UniversalString c = rw c.in-UniversalString.is c.fill_universal.ensures

pub returns-in-Some : goal.returns-in-Some
returns-in-Some c =
    let text = other_text _ c.args.content.now c.in_default.not-BmpString c.in_default.not-UniversalString ∙ c.in-Some.ensures in
    fills_with (IsText _) _ _ _ _ _ _ (rw c.as_bytes.ensures.value text) c.fill.ensures.left c.fill.ensures.accepted

pub returns-in-None : goal.returns-in-None
unfolding Fills
returns-in-None c = (inr (refl, other_text _ c.args.content.now c.in_default.not-BmpString c.in_default.not-UniversalString ∙ c.in-None.ensures), refl)
