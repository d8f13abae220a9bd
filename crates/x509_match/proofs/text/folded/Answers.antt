use Rattle.std.proofs.Common.{◌∙◌, refl}
use Rattle.x509_match.specs.Prepared.{folded}
use Rattle.x509_match.proofs.Texts.{chars_are}
use Rattle.x509_match.proofs.text.folded.Goals as goal

pub returns : goal.returns
unfolding folded
returns c =
    let first = chars_are _ _ c.as_str.utf8 (c.as_str.ensures.value ∙ c.in_ok-first.ensures) in
    let normal = chars_are _ _ c.as_str-2.utf8 (c.as_str-2.ensures.value ∙ c.in_ok-normal.ensures) in
    let second = chars_are _ _ c.as_str-3.utf8 (c.as_str-3.ensures.value ∙ c.in_ok-second.ensures) in
    rw (c.in_ok-found.ensures, second, normal, first) refl
