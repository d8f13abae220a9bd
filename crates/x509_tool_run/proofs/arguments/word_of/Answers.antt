use Rattle.std.proofs.Common.{◌≡◌, ℕ, List, ap, refl, inl, inr}
use Rattle.std.specs.Str.{IsUtf8, is_utf8}
use Rattle.std.proofs.lemmas.Bool.{cases_Bool}
use Rattle.std.proofs.lemmas.Str.{is_utf8-from_IsUtf8, IsUtf8-from_is_utf8, IsUtf8-had}
use Rattle.x509_tool_run.specs.Words.{word_of}
use Rattle.x509_tool_run.proofs.arguments.word_of.Goals as goal

of_text : (word argument : List ℕ) → word ≡ argument → IsUtf8 word → word ≡ word_of argument
of_text word argument same is = rw (← same, is_utf8-from_IsUtf8 word is) refl

pub returns-in-Ok : goal.returns-in-Ok
returns-in-Ok c = of_text _ _ (ap (λ v. v.items) c.in-Ok.ensures.ok) (IsUtf8-had _ c.in-Ok.word.ok)

pub returns : goal.returns
returns c =
    elim (cases_Bool (is_utf8 c.args.argument.items)) [
      | inl is ↦ absurd (let ok = c.in-Err.ensures.succeeds (IsUtf8-from_is_utf8 c.args.argument.items is) in cc)
      | inr not ↦ rw (not, c.new.ensures.bytes) refl
    ]
