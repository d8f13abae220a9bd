use Rattle.std.proofs.Common.{◌∙◌, sym}
use Rattle.x509_match.proofs.Texts.{chars_are, refused, accepted}
use Rattle.x509_match.proofs.text.prepared.Goals as goal

pub returns-then-has_prohibited : goal.returns-then-has_prohibited
returns-then-has_prohibited c =
    let kept = chars_are _ _ c.as_str.utf8 (c.as_str.ensures.value ∙ c.in_ok-kept.ensures) in
    let normal = chars_are _ _ c.as_str-text.utf8 (c.as_str-text.ensures.value ∙ c.in_ok-normal.ensures) in
    let said = rw (normal, kept) at c.has_prohibited.ensures in
    refused _ (sym said ∙ c.if-has_prohibited.true)

pub returns : goal.returns
returns c =
    let kept = chars_are _ _ c.as_str.utf8 (c.as_str.ensures.value ∙ c.in_ok-kept.ensures) in
    let normal = chars_are _ _ c.as_str-text.utf8 (c.as_str-text.ensures.value ∙ c.in_ok-normal.ensures) in
    let said = rw (normal, kept) at c.has_prohibited.ensures in
    let found = rw (c.as_slice.ensures.value, c.in_ok-characters.ensures) at c.in_ok-found.ensures in
    accepted _ _ (sym said ∙ c.if-has_prohibited.false) (rw (← kept, ← normal) found)
