-- Answers to the line of an input that was read whole.
use Rattle.std.proofs.Common.{◌≡◌, ℕ, List, Option, Result, Ok, Err, MatchResult, ◌⊎◌, inl, inr, ap, refl, subst}
use Rattle.std.specs.Str.{IsUtf8, is_utf8}
use Rattle.std.proofs.lemmas.Bool.{cases_Bool}
use Rattle.std.proofs.lemmas.Str.{is_utf8-from_IsUtf8, IsUtf8-from_is_utf8}
use Rattle.x509_der.specs.declared.error.ErrorKind.TheVariants.{Memory, Overlength, Malformed, Failed, SetDuplicate, Value}
use Rattle.x509_tool_run.specs.declared.refusal.Refusal.{Refusal}
use Rattle.x509_tool_run.specs.declared.refusal.Refusal.TheVariants.{Read, Because}
use Rattle.x509_tool_run.specs.Input.{Whole, TooLong, Unreadable, Unkept, EndsReading, IsRead}
use Rattle.x509_tool_run.specs.Answer.{Answer, IsFromText, IsLine, line_of}
use Rattle.x509_tool_run.specs.Program.{Answers}

-- an answer to the line is one to the input
pub answers_line : {R X A : Type 0} (P : X → A → Type 0) (answers : List ℕ → Result A Refusal → Type 0) (gives : R → Option (List ℕ) → R → Type 0) (from to : R) (bytes line : List ℕ) (result : Result X Refusal) → IsRead gives from (Whole bytes) to → line ≡ line_of bytes → MatchResult result (λ x. (text : A) × answers line (Ok text) × P x text) (λ refusal. (refusal ≡ Because Memory) ⊎ answers line (Err refusal)) → MatchResult result (λ x. (text : A) × Answers answers gives from to (Ok text) × P x text) (λ refusal. Answers answers gives from to (Err refusal))
answers_line P answers gives from to bytes line (Ok x) read is h =
    let At : List ℕ → Type 0 = λ line. answers line (Ok h.0) in
    (h.0, (Whole bytes, read, inl (subst At is h.1)), h.2)
answers_line P answers gives from to bytes line (Err refusal) read is (inl memory) =
    (Whole bytes, read, inr (ap (λ (r : Refusal). Err r) memory))
answers_line P answers gives from to bytes line (Err refusal) read is (inr h) =
    let At : List ℕ → Type 0 = λ line. answers line (Err refusal) in
    (Whole bytes, read, inl (subst At is h))

-- a refusal to read is the answer
pub answers_unread : {R X A : Type 0} (view : X → List ℕ) (answers : List ℕ → Result A Refusal → Type 0) (gives : R → Option (List ℕ) → R → Type 0) (from to : R) (refusal : Refusal) → EndsReading {X = X} view gives from (Err refusal) to → Answers answers gives from to (Err refusal)
answers_unread view answers gives from to Read h = (Unreadable, h, inl refl)
answers_unread view answers gives from to (Because Memory) h = (Unkept, h, inr refl)
answers_unread view answers gives from to (Because Overlength) h = (TooLong, h, inl refl)
answers_unread view answers gives from to (Because Malformed) h = absurd h
answers_unread view answers gives from to (Because Failed) h = absurd h
answers_unread view answers gives from to (Because SetDuplicate) h = absurd h
answers_unread view answers gives from to (Because Value) h = absurd h

-- a line that is UTF-8 is answered as the text that it is
pub text_line : {X : Type 0} (view : X → List ℕ) (answers : List ℕ → Answer → Type 0) (line text : List ℕ) (result : Result X Refusal) → text ≡ line → IsUtf8 line → IsLine view (answers text) result → IsLine view (IsFromText answers (is_utf8 line) line) result
text_line view answers line text result same is h = rw (is_utf8-from_IsUtf8 line is, ← same) h

-- a line that isn't UTF-8 is refused
pub no_text : (answers : List ℕ → Answer → Type 0) (line : List ℕ) → (IsUtf8 line → ⊥) → IsFromText answers (is_utf8 line) line (Err (Because Failed))
no_text answers line bad =
    elim (cases_Bool (is_utf8 line)) [
      | inl is ↦ absurd (bad (IsUtf8-from_is_utf8 line is))
      | inr not ↦ rw not refl
    ]
