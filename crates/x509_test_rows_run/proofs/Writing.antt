-- Texts that are written one after the other.
use Rattle.std.proofs.Common.{◌≢◌, ℕ, suc, zero, List, [], ◌∷◌, ◌++◌, Option, Result, Ok, Err, OnOk, OnErr, refl, ap, sym, ◌∙◌, subst, append_assoc, append-nil}
use Rattle.x509_tool_run.specs.Transfer.{Moves}
use Rattle.x509_tool_run.specs.Program.{IsWritten, IsCutOff}
use Rattle.x509_test_rows_run.specs.Lines.{Said}

-- calls in a row and further ones are calls in a row
pub Moves-both : {S : Type 0} (step : S → Option (List ℕ) → S → Type 0) (s : S) (calls : ℕ) (a : List ℕ) (t : S) (more : ℕ) (b : List ℕ) (u : S) → Moves step s calls a t → Moves step t more b u → (all : ℕ) × Moves step s all (a ++ b) u
Moves-both step s calls a t zero b u h k =
    let At : List ℕ → Type 0 = λ bytes. Moves step s calls bytes u in
    (calls, subst At (sym (append-nil a) ∙ ap (λ xs. a ++ xs) (sym k.0)) (subst (λ v. Moves step s calls a v) (sym k.1) h))
Moves-both step s calls a t (suc more) b u h k =
    let first = Moves-both step s calls a t more k.1 k.0 h k.3 in
    (suc first.0, (k.0, a ++ k.1, k.2, first.1, k.4, k.5, ap (λ xs. a ++ xs) k.6 ∙ sym (append_assoc a k.1 k.2)))

pub said_flush : {S : Type 0} (step : S → Option (List ℕ) → S → Type 0) (s : S) (output held : List ℕ) (t u : S) → Said step s output held t → IsWritten step t held u → Said step s output [] u
said_flush step s output held t u h written =
    (h.0 ++ held, Moves-both step s h.1.0 h.0 t written.0 held u h.1.1 written.1, h.2 ∙ sym (append-nil (h.0 ++ held)))

pub said_cut : {S : Type 0} (step : S → Option (List ℕ) → S → Type 0) (s : S) (output held : List ℕ) (t u : S) → Said step s output held t → IsCutOff step t held u → IsCutOff step s output u
said_cut step s output held t u h cut = (
  cut.0,
  h.0 ++ cut.1,
  cut.2,
  Moves-both step s h.1.0 h.0 t cut.3.0 cut.1 cut.0 h.1.1 cut.3.1,
  cut.4,
  h.2 ∙ ap (λ xs. h.0 ++ xs) cut.5 ∙ sym (append_assoc h.0 cut.1 cut.2),
  cut.6,
)

some_more : (rest more : List ℕ) → rest ≢ [] → (rest ++ more) ≢ []
some_more [] more some = absurd (some refl)
some_more (x ∷ rest) more some = λ h. absurd (cc)

pub cut_longer : {S : Type 0} (step : S → Option (List ℕ) → S → Type 0) (s : S) (output more : List ℕ) (u : S) → IsCutOff step s output u → IsCutOff step s (output ++ more) u
cut_longer step s output more u cut = (
  cut.0,
  cut.1,
  cut.2 ++ more,
  cut.3,
  cut.4,
  ap (λ xs. xs ++ more) cut.5 ∙ append_assoc cut.1 cut.2 more,
  some_more cut.2 more cut.6,
)

pub said_more : {S : Type 0} (step : S → Option (List ℕ) → S → Type 0) (s : S) (output held text : List ℕ) (t : S) → Said step s output held t → Said step s (output ++ text) (held ++ text) t
said_more step s output held text t h =
    (h.0, h.1, ap (λ xs. xs ++ text) h.2 ∙ append_assoc h.0 held text)

-- ---- what a call leaves, by its result

pub flush_ok : {S X E : Type 0} (step : S → Option (List ℕ) → S → Type 0) (held : List ℕ) (t u : S) (result : Result X E) → OnOk result (IsWritten step t held u) → OnOk result ((s : S) (output : List ℕ) → Said step s output held t → Said step s output [] u)
flush_ok step held t u (Ok x) written =
    λ s output h. said_flush step s output held t u h written
flush_ok step held t u (Err e) written = tt

pub flush_err : {S X E : Type 0} (step : S → Option (List ℕ) → S → Type 0) (held : List ℕ) (t u : S) (result : Result X E) → OnErr result (IsCutOff step t held u) → OnErr result ((s : S) (output : List ℕ) → Said step s output held t → IsCutOff step s output u)
flush_err step held t u (Ok x) cut = tt
flush_err step held t u (Err e) cut =
    λ s output h. said_cut step s output held t u h cut

pub page_ok : {S X E : Type 0} (step : S → Option (List ℕ) → S → Type 0) (held text : List ℕ) (t u : S) (result : Result X E) → OnOk result ((s : S) (output : List ℕ) → Said step s output (held ++ text) t → Said step s output [] u) → OnOk result ((s : S) (output : List ℕ) → Said step s output held t → Said step s (output ++ text) [] u)
page_ok step held text t u (Ok x) flushed =
    λ s output h. flushed s (output ++ text) (said_more step s output held text t h)
page_ok step held text t u (Err e) flushed = tt

pub at_once_ok : {S X E : Type 0} (step : S → Option (List ℕ) → S → Type 0) (held text : List ℕ) (t u v : S) (result : Result X E) → ((s : S) (output : List ℕ) → Said step s output held t → Said step s output [] u) → OnOk result (IsWritten step u text v) → OnOk result ((s : S) (output : List ℕ) → Said step s output held t → Said step s (output ++ text) [] v)
at_once_ok step held text t u v (Ok x) flushed written =
    λ s output h. said_flush step s (output ++ text) text u v (said_more step s output [] text u (flushed s output h)) written
at_once_ok step held text t u v (Err e) flushed written = tt

pub at_once_err : {S X E : Type 0} (step : S → Option (List ℕ) → S → Type 0) (held text : List ℕ) (t u v : S) (result : Result X E) → ((s : S) (output : List ℕ) → Said step s output held t → Said step s output [] u) → OnErr result (IsCutOff step u text v) → OnErr result ((s : S) (output : List ℕ) → Said step s output held t → IsCutOff step s (output ++ text) v)
at_once_err step held text t u v (Ok x) flushed cut = tt
at_once_err step held text t u v (Err e) flushed cut =
    λ s output h. said_cut step s (output ++ text) text u v (said_more step s output [] text u (flushed s output h)) cut
