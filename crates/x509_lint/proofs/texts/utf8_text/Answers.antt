use Rattle.std.proofs.Common.{inl, inr}
use Rattle.std.specs.Str.{is_utf8}
use Rattle.std.proofs.lemmas.Bool.{cases_Bool}
use Rattle.std.proofs.lemmas.Str.{is_utf8-from_IsUtf8, IsUtf8-from_is_utf8}
use Rattle.x509_lint.proofs.texts.utf8_text.Goals as goal

pub returns-in-Ok-clause-some : goal.returns-in-Ok-clause-some
returns-in-Ok-clause-some c = (c.in-Ok.ensures.cases.0, is_utf8-from_IsUtf8 c.args.octets.now c.in-Ok.ensures.cases.1)

pub returns-in-Err-clause-none : goal.returns-in-Err-clause-none
returns-in-Err-clause-none c =
    elim (cases_Bool (is_utf8 c.args.octets.now)) [ inl is ↦ absurd (c.in-Err.ensures.cases.0 (IsUtf8-from_is_utf8 c.args.octets.now is)) | inr not ↦ not ]
