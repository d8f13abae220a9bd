use Rattle.x509_c_calls.proofs.Filled.{fills_as}
use Rattle.x509_c_calls.proofs.Strings.{no_string, refused_fill, string_is}
use Rattle.x509_c_calls.proofs.payloads.string.string_text.Goals as goal

pub returns-in-Ok : goal.returns-in-Ok
returns-in-Ok c =
    let filled = rw (c.tag.ensures, c.value.ensures) at c.fill_text.ensures in
    fills_as _ _ (string_is _ _ c.in-Ok.ensures.found c.in-Ok.ensures.value) _ _ _ _ _ filled

pub returns-in-Err : goal.returns-in-Err
returns-in-Err c = refused_fill _ _ _ _ _ c.into.ensures (no_string _ _ c.in-Err.ensures.overlength c.in-Err.ensures.refused c.in-Err.ensures.only)
