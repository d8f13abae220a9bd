-- What a room is filled with.
use Rattle.std.proofs.Common.{◌≡◌, ℕ, List, Result, Ok, Err, sym, subst, inl, inr, ◌∙◌, ap}
use Rattle.x509_c_calls.specs.Status.{Fills}
use Rattle.x509_c_calls.specs.declared.status.status.Status.{Status}
use Rattle.x509_c_calls.specs.declared.status.status.Status.TheVariants.{Done, NoRoom, Absent, Repeated, Faulty, Limit, Refused}
use Rattle.x509_der.specs.declared.error.ErrorKind.{ErrorKind}

-- bytes that are equal to an answer are filled in as one
pub fills_same : (B : Result (List ℕ) ErrorKind → Type 0) (bytes same room filled : List ℕ) (was written : ℕ) (status : Status)
    → Fills (λ answer. answer ≡ Ok bytes) room filled was written status → B (Ok same) → bytes ≡ same → Fills B room filled was written status
unfolding Fills
fills_same B bytes same room filled was written Done (found, answers, front, len) good is = (found, subst B (sym (answers ∙ ap Ok is)) good, front, len)
fills_same B bytes same room filled was written NoRoom (found, answers, more, len) good is = (found, subst B (sym (answers ∙ ap Ok is)) good, more, len)
fills_same B bytes same room filled was written Absent left good is = left
fills_same B bytes same room filled was written Repeated left good is = left
fills_same B bytes same room filled was written Faulty left good is = left
fills_same B bytes same room filled was written Limit left good is = left
fills_same B bytes same room filled was written (Refused e) (why, kept) good is =
    (elim why [ inl memory ↦ inl memory | inr answers ↦ inr (subst B (sym (answers ∙ ap Ok is)) good) ], kept)
