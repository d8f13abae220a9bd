-- How a run ends.
use Rattle.std.proofs.Common.{◌≡◌, ℕ, List, [], ◌++◌, ◌⊎◌, inl, inr, Option, Some, Result, Ok, Err, IfOk, OnOk, OnErr, refl, sym, ◌∙◌, subst, append-nil}
use Rattle.x509_der.specs.declared.error.ErrorKind.{ErrorKind}
use Rattle.x509_tool_run.specs.declared.refusal.Refusal.{Refusal}
use Rattle.x509_codec.specs.Answers.{Reencoding}
use Rattle.x509_tool_run.specs.Answer.{text_of, as_line}
use Rattle.x509_tool_run.specs.Transfer.{Moves}
use Rattle.x509_tool_run.specs.Program.{IsWritten, IsCutOff}
use Rattle.x509_test_rows_run.specs.Lines.{AnswersAll, Said, Stands, Stopped}
use Rattle.x509_test_rows_run.specs.Run.{IsReadInPart, Answers, AnswersFront}

-- what is left to write where a write failed
abbrev pub Cut : {R S : Type 0} → Reencoding → (R → Option (List ℕ) → R → Type 0) → R → R → (S → Option (List ℕ) → S → Type 0) → S → S → Type 0
Cut reencodes gives from to takes old new =
    (output : List ℕ) × (status : ℕ)
    × (Answers reencodes gives from to output status ⊎ AnswersFront reencodes gives from to output)
    × IsCutOff takes old output new

pub whole_ok : {R S E : Type 0} (reencodes : Reencoding) (gives : R → Option (List ℕ) → R → Type 0) (takes : S → Option (List ℕ) → S → Type 0) (from u to : R) (old : S) (kept : List ℕ) (fault : Option ErrorKind) (held : List ℕ) (v : S) (more : List ℕ) (w : S) (clean : Type 0) (reads : ℕ) (result : Result ℕ E)
    → (input : List ℕ) × Moves gives from reads input u × (clean → Stands reencodes takes old input kept fault held v)
    → gives u (Some []) to → IfOk result (λ status. status ≡ 0)
    → OnOk result ((s : S) (input : List ℕ) → Stands reencodes takes s input kept fault held v → (output : List ℕ) × AnswersAll reencodes input output × Said takes s output more w)
    → IfOk result (λ status. clean → (output : List ℕ) × Answers reencodes gives from to output status × Said takes old output more w)
whole_ok reencodes gives takes from u to old kept fault held v more w clean reads (Ok status) h last zero answers = λ is.
    let a = answers old h.0 (h.2 is) in
    (a.0, inl (h.0, (u, (reads, h.1), last), a.1, zero), a.2)
whole_ok reencodes gives takes from u to old kept fault held v more w clean reads (Err e) h last zero answers = tt

pub whole_err : {R S E : Type 0} (reencodes : Reencoding) (gives : R → Option (List ℕ) → R → Type 0) (takes : S → Option (List ℕ) → S → Type 0) (from u to : R) (old : S) (kept : List ℕ) (fault : Option ErrorKind) (held : List ℕ) (v w : S) (clean : Type 0) (reads : ℕ) (result : Result ℕ E)
    → (input : List ℕ) × Moves gives from reads input u × (clean → Stands reencodes takes old input kept fault held v)
    → gives u (Some []) to
    → OnErr result ((s : S) (input : List ℕ) → Stands reencodes takes s input kept fault held v → (output : List ℕ) × AnswersAll reencodes input output × IsCutOff takes s output w)
    → OnErr result (clean → Cut reencodes gives from to takes old w)
whole_err reencodes gives takes from u to old kept fault held v w clean reads (Ok status) h last answers = tt
whole_err reencodes gives takes from u to old kept fault held v w clean reads (Err e) h last answers = λ is.
    let a = answers old h.0 (h.2 is) in
    (a.0, 0, inl (inl (h.0, (u, (reads, h.1), last), a.1, refl)), a.2)

pub part_ok : {R S E : Type 0} (reencodes : Reencoding) (gives : R → Option (List ℕ) → R → Type 0) (takes : S → Option (List ℕ) → S → Type 0) (from to : R) (old : S) (kept : List ℕ) (fault : Option ErrorKind) (held : List ℕ) (v : S) (more : List ℕ) (w : S) (clean : Type 0) (input : List ℕ) (refusal : Refusal) (result : Result ℕ E)
    → IsReadInPart gives from input refusal to → (clean → Stands reencodes takes old input kept fault held v)
    → IfOk result (λ status. status ≡ 1)
    → OnOk result ((s : S) (said : List ℕ) → Said takes s said held v → Said takes s (said ++ as_line (text_of (Err refusal))) more w)
    → IfOk result (λ status. clean → (output : List ℕ) × Answers reencodes gives from to output status × Said takes old output more w)
part_ok reencodes gives takes from to old kept fault held v more w clean input refusal (Ok status) part stands one says = λ is.
    let h = stands is in
    (h.1 ++ as_line (text_of (Err refusal)), inr (input, h.0, h.1, refusal, part, h.2, refl, one), says old h.1 h.4)
part_ok reencodes gives takes from to old kept fault held v more w clean input refusal (Err e) part stands one says = tt

pub part_err : {R S E : Type 0} (reencodes : Reencoding) (gives : R → Option (List ℕ) → R → Type 0) (takes : S → Option (List ℕ) → S → Type 0) (from to : R) (old : S) (kept : List ℕ) (fault : Option ErrorKind) (held : List ℕ) (v w : S) (clean : Type 0) (input : List ℕ) (refusal : Refusal) (result : Result ℕ E)
    → IsReadInPart gives from input refusal to → (clean → Stands reencodes takes old input kept fault held v)
    → OnErr result ((s : S) (said : List ℕ) → Said takes s said held v → IsCutOff takes s (said ++ as_line (text_of (Err refusal))) w)
    → OnErr result (clean → Cut reencodes gives from to takes old w)
part_err reencodes gives takes from to old kept fault held v w clean input refusal (Ok status) part stands says = tt
part_err reencodes gives takes from to old kept fault held v w clean input refusal (Err e) part stands says = λ is.
    let h = stands is in
    (h.1 ++ as_line (text_of (Err refusal)), 1, inl (inr (input, h.0, h.1, refusal, part, h.2, refl, refl)), says old h.1 h.4)

pub front_err : {R S : Type 0} (reencodes : Reencoding) (gives : R → Option (List ℕ) → R → Type 0) (takes : S → Option (List ℕ) → S → Type 0) (from to : R) (old w : S) (reads : ℕ) (input : List ℕ)
    → Moves gives from reads input to → Stopped reencodes takes old input w → Cut reencodes gives from to takes old w
front_err reencodes gives takes from to old w reads input moves h = (h.0, 0, inr (input, (reads, moves), h.1), h.2)

-- where nothing is held back, all is written
pub all_written : {S : Type 0} (step : S → Option (List ℕ) → S → Type 0) (s : S) (output : List ℕ) (t : S) → Said step s output [] t → IsWritten step s output t
all_written step s output t h = subst (λ (text : List ℕ). IsWritten step s text t) (sym (append-nil h.0) ∙ sym h.2) h.1
