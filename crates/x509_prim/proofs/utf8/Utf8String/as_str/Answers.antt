use Rattle.std.proofs.Common.{◌∙◌}
use Rattle.std.proofs.lemmas.Str.{is_utf8-from_IsUtf8}
use Rattle.x509_prim.proofs.utf8.Utf8String.as_str.Goals as goal

pub returns-clause-utf8 : goal.returns-clause-utf8
returns-clause-utf8 c =
    let same = c.as_str.ensures ∙ c.self.view_is in
    rw (← same) (is_utf8-from_IsUtf8 c.as_str.result.now c.as_str.utf8)
