use Rattle.std.proofs.Common.{inl, ◌∙◌}
use Rattle.x509_c_calls.proofs.Strings.{bmp_is, bmp_refused, refused_fill}
use Rattle.x509_c_calls.proofs.Texts.{fills_with}
use Rattle.x509_c_calls.proofs.payloads.string.fill_bmp.Goals as goal

pub returns-in-Err : goal.returns-in-Err
returns-in-Err c = refused_fill _ _ _ _ _ c.into.ensures (bmp_refused _ _ c.in-Err.ensures.exact)

pub returns-in-Ok-to_text : goal.returns-in-Ok-to_text
returns-in-Ok-to_text c =
    let text = c.as_bytes.ensures.value ∙ c.as_str.ensures.value ∙ c.in-Ok-to_text.ensures.ok in
    fills_with _ _ _ _ _ _ _ (bmp_is _ _ _ c.in-Ok.ensures.exact text) c.fill.ensures.left c.fill.ensures.accepted

pub returns : goal.returns
returns c = refused_fill _ _ _ _ _ c.into-in-Err-to_text.ensures (inl c.in-Err-to_text.ensures.err)
