-- Lines that are answered one after the other.
use Rattle.std.proofs.Math.Seq.{split_at}
use Rattle.std.proofs.lemmas.List.{take_all}
use Rattle.std.proofs.Common.{arith, ◌<◌, ◌-◌, ◌+◌, add-one, length, length-drop, take, drop, slice_index, ◌≡◌, ◌≢◌, ℕ, suc, List, [], ◌∷◌, ◌++◌, ◌⊎◌, inl, inr, Option, None, Result, Ok, Err, OnOk, OnErr, MatchResult, refl, ap, sym, ◌∙◌, subst, append_assoc, append-nil}
use Rattle.std.proofs.lemmas.List.Elements.{All-append}
use Rattle.x509_der.specs.declared.error.ErrorKind.{ErrorKind}
use Rattle.x509_der.specs.declared.error.ErrorKind.TheVariants.{Memory}
use Rattle.x509_tool_run.specs.declared.refusal.Refusal.{Refusal}
use Rattle.x509_tool_run.specs.declared.refusal.Refusal.TheVariants.{Because}
use Rattle.x509_codec.specs.Answers.{Reencoding}
use Rattle.x509_tool_run.specs.Answer.{Answer, text_of, as_line}
use Rattle.x509_tool_run.specs.Program.{IsCutOff}
use Rattle.x509_test_rows_run.specs.Row.{Lacks, AnswersKept, AnswersLine}
use Rattle.x509_test_rows_run.specs.Lines.{AnswersFirst, AnswersSoFar, AnswersAll, Keeps, Said, Stands, Stopped}

-- bytes with no line feed leave the answers as they are
pub so_far_more : (reencodes : Reencoding) (input rest output piece : List ℕ) → AnswersSoFar reencodes input rest output → Lacks 10 piece → AnswersSoFar reencodes (input ++ piece) (rest ++ piece) output
so_far_more reencodes input rest output piece h lacks = (
  h.0,
  h.1,
  h.2,
  All-append (λ x. x ≢ 10) rest piece h.3 lacks,
  ap (λ xs. xs ++ piece) h.4 ∙ append_assoc h.0 rest piece,
)

lacks_none : Lacks 10 []
lacks_none k d h = absurd (omega (arith, h))

-- a line feed makes a line of what came before it
pub so_far_line : (reencodes : Reencoding) (input rest output : List ℕ) (answer : Answer) → AnswersSoFar reencodes input rest output → AnswersLine reencodes rest answer → AnswersSoFar reencodes (input ++ 10 ∷ []) [] (output ++ as_line (text_of answer))
so_far_line reencodes input rest output answer h answered = (
  h.0 ++ as_line rest,
  suc h.1,
  (h.0, output, rest, answer, h.2, h.3, answered, refl, refl),
  lacks_none,
  ap (λ xs. xs ++ 10 ∷ []) h.4 ∙ append_assoc h.0 rest (10 ∷ []) ∙ sym (append-nil (h.0 ++ as_line rest)),
)

-- the answers so far are answers to the first lines
pub so_far_first : (reencodes : Reencoding) (input rest output more : List ℕ) → AnswersSoFar reencodes input rest output → AnswersFirst reencodes (input ++ more) output
so_far_first reencodes input rest output more h =
    (h.0, rest ++ more, h.1, h.2, ap (λ xs. xs ++ more) h.4 ∙ append_assoc h.0 rest more)

-- after the last bytes of a line, its line feed and its answer
pub line_stands : {S : Type 0} (reencodes : Reencoding) (step : S → Option (List ℕ) → S → Type 0) (s : S) (input last : List ℕ) (kept : List ℕ) (fault : Option ErrorKind) (held : List ℕ) (t u : S) (more : List ℕ) (now : List ℕ) (clear : Option ErrorKind)
    → Stands reencodes step s input kept fault held t → Lacks 10 last
    → ((rest : List ℕ) (said : List ℕ) → Keeps kept fault rest → Said step s said held t → (answer : Answer) × AnswersLine reencodes (rest ++ last) answer × Said step s (said ++ as_line (text_of answer)) more u)
    → Keeps now clear []
    → Stands reencodes step s (input ++ as_line last) now clear more u
line_stands reencodes step s input last kept fault held t u more now clear h lacks answered empty =
    let a = answered h.0 h.1 h.3 h.4 in
    let line = so_far_line reencodes (input ++ last) (h.0 ++ last) h.1 a.0 (so_far_more reencodes input h.0 h.1 last h.2 lacks) a.1 in
    let At : List ℕ → Type 0 = λ bytes. AnswersSoFar reencodes bytes [] (h.1 ++ as_line (text_of a.0)) in
    ([], h.1 ++ as_line (text_of a.0), subst At (append_assoc input last (10 ∷ [])) line, empty, a.2)

-- the same where a write failed
pub line_stopped : {S : Type 0} (reencodes : Reencoding) (step : S → Option (List ℕ) → S → Type 0) (s : S) (input last : List ℕ) (kept : List ℕ) (fault : Option ErrorKind) (held : List ℕ) (t u : S)
    → Stands reencodes step s input kept fault held t → Lacks 10 last
    → ((rest : List ℕ) (said : List ℕ) → Keeps kept fault rest → Said step s said held t → (answer : Answer) × AnswersLine reencodes (rest ++ last) answer × IsCutOff step s (said ++ as_line (text_of answer)) u)
    → Stopped reencodes step s (input ++ as_line last) u
line_stopped reencodes step s input last kept fault held t u h lacks answered =
    let a = answered h.0 h.1 h.3 h.4 in
    let line = so_far_line reencodes (input ++ last) (h.0 ++ last) h.1 a.0 (so_far_more reencodes input h.0 h.1 last h.2 lacks) a.1 in
    let At : List ℕ → Type 0 = λ bytes. AnswersFirst reencodes bytes (h.1 ++ as_line (text_of a.0)) in
    (h.1 ++ as_line (text_of a.0), subst At (append-nil ((input ++ last) ++ 10 ∷ []) ∙ append_assoc input last (10 ∷ [])) (so_far_first reencodes ((input ++ last) ++ 10 ∷ []) [] (h.1 ++ as_line (text_of a.0)) [] line), a.2)

-- ---- what a call leaves, by its result

-- the answer to the bytes that are kept is the answer to the line
pub kept_answers : {X : Type 0} (view : X → List ℕ) (reencodes : Reencoding) (kept rest : List ℕ) (fault : Option ErrorKind) (result : Result X Refusal)
    → fault ≡ None
    → MatchResult result (λ text. (answer : List ℕ) × AnswersKept reencodes kept (Ok answer) × (view text ≡ as_line answer)) (λ refusal. (refusal ≡ Because Memory) ⊎ AnswersKept reencodes kept (Err refusal))
    → Keeps kept fault rest
    → MatchResult result (λ text. (answer : List ℕ) × AnswersLine reencodes rest (Ok answer) × (view text ≡ as_line answer)) (λ refusal. AnswersLine reencodes rest (Err refusal))
kept_answers view reencodes kept rest fault (Ok text) none h (inl keeps) =
    (h.0, inl (keeps.2, subst (λ (line : List ℕ). AnswersKept reencodes line (Ok h.0)) keeps.1 h.1), h.2)
kept_answers view reencodes kept rest fault (Err refusal) none (inl memory) (inl keeps) = inr (inr (ap (λ (r : Refusal). Err r) memory))
kept_answers view reencodes kept rest fault (Err refusal) none (inr h) (inl keeps) =
    inl (keeps.2, subst (λ (line : List ℕ). AnswersKept reencodes line (Err refusal)) keeps.1 h)
kept_answers view reencodes kept rest fault result none h (inr (inl over)) = let some = over.0 in absurd (cc)
kept_answers view reencodes kept rest fault result none h (inr (inr memory)) = let some = memory.0 in absurd (cc)

pub answered_ok : {S X E : Type 0} (step : S → Option (List ℕ) → S → Type 0) (reencodes : Reencoding) (kept : List ℕ) (fault : Option ErrorKind) (held text more : List ℕ) (t u : S) (result : Result X E)
    → ((rest : List ℕ) → Keeps kept fault rest → (answer : Answer) × AnswersLine reencodes rest answer × (text ≡ as_line (text_of answer)))
    → OnOk result ((s : S) (output : List ℕ) → Said step s output held t → Said step s (output ++ text) more u)
    → OnOk result ((s : S) (said : List ℕ) (rest : List ℕ) → Keeps kept fault rest → Said step s said held t → (answer : Answer) × AnswersLine reencodes rest answer × Said step s (said ++ as_line (text_of answer)) more u)
answered_ok step reencodes kept fault held text more t u (Ok x) answers says =
    λ s said rest keeps h. let a = answers rest keeps in
    (a.0, a.1, subst (λ (line : List ℕ). Said step s (said ++ line) more u) a.2 (says s said h))
answered_ok step reencodes kept fault held text more t u (Err e) answers says = tt

pub answered_err : {S X E : Type 0} (step : S → Option (List ℕ) → S → Type 0) (reencodes : Reencoding) (kept : List ℕ) (fault : Option ErrorKind) (held text : List ℕ) (t u : S) (result : Result X E)
    → ((rest : List ℕ) → Keeps kept fault rest → (answer : Answer) × AnswersLine reencodes rest answer × (text ≡ as_line (text_of answer)))
    → OnErr result ((s : S) (output : List ℕ) → Said step s output held t → IsCutOff step s (output ++ text) u)
    → OnErr result ((s : S) (said : List ℕ) (rest : List ℕ) → Keeps kept fault rest → Said step s said held t → (answer : Answer) × AnswersLine reencodes rest answer × IsCutOff step s (said ++ as_line (text_of answer)) u)
answered_err step reencodes kept fault held text t u (Ok x) answers says = tt
answered_err step reencodes kept fault held text t u (Err e) answers says =
    λ s said rest keeps h. let a = answers rest keeps in
    (a.0, a.1, subst (λ (line : List ℕ). IsCutOff step s (said ++ line) u) a.2 (says s said h))

pub line_ok : {S X E : Type 0} (reencodes : Reencoding) (step : S → Option (List ℕ) → S → Type 0) (last kept full : List ℕ) (fault fault2 : Option ErrorKind) (held more now : List ℕ) (clear : Option ErrorKind) (t u : S) (result : Result X E)
    → ((rest : List ℕ) → Keeps kept fault rest → Keeps full fault2 (rest ++ last))
    → OnOk result ((s : S) (said : List ℕ) (rest : List ℕ) → Keeps full fault2 rest → Said step s said held t → (answer : Answer) × AnswersLine reencodes rest answer × Said step s (said ++ as_line (text_of answer)) more u)
    → Keeps now clear []
    → OnOk result ((s : S) (input : List ℕ) → Stands reencodes step s input kept fault held t → Lacks 10 last → Stands reencodes step s (input ++ as_line last) now clear more u)
line_ok reencodes step last kept full fault fault2 held more now clear t u (Ok x) adds answers empty =
    λ s input h lacks. line_stands reencodes step s input last kept fault held t u more now clear h lacks (λ rest said keeps old. answers s said (rest ++ last) (adds rest keeps) old) empty
line_ok reencodes step last kept full fault fault2 held more now clear t u (Err e) adds answers empty = tt

pub line_err : {S X E : Type 0} (reencodes : Reencoding) (step : S → Option (List ℕ) → S → Type 0) (last kept full : List ℕ) (fault fault2 : Option ErrorKind) (held : List ℕ) (t u : S) (result : Result X E)
    → ((rest : List ℕ) → Keeps kept fault rest → Keeps full fault2 (rest ++ last))
    → OnErr result ((s : S) (said : List ℕ) (rest : List ℕ) → Keeps full fault2 rest → Said step s said held t → (answer : Answer) × AnswersLine reencodes rest answer × IsCutOff step s (said ++ as_line (text_of answer)) u)
    → OnErr result ((s : S) (input : List ℕ) → Stands reencodes step s input kept fault held t → Lacks 10 last → Stopped reencodes step s (input ++ as_line last) u)
line_err reencodes step last kept full fault fault2 held t u (Ok x) adds answers = tt
line_err reencodes step last kept full fault fault2 held t u (Err e) adds answers =
    λ s input h lacks. line_stopped reencodes step s input last kept fault held t u h lacks (λ rest said keeps old. answers s said (rest ++ last) (adds rest keeps) old)

-- ---- the end of the input

pub ends_empty : {S : Type 0} (reencodes : Reencoding) (step : S → Option (List ℕ) → S → Type 0) (kept : List ℕ) (fault : Option ErrorKind) (held : List ℕ) (s : S) (input : List ℕ) (t : S)
    → ((rest : List ℕ) → Keeps kept fault rest → rest ≡ [])
    → Stands reencodes step s input kept fault held t
    → (output : List ℕ) × AnswersAll reencodes input output × Said step s output held t
ends_empty reencodes step kept fault held s input t empty h =
    (h.1, inl (subst (λ (rest : List ℕ). AnswersSoFar reencodes input rest h.1) (empty h.0 h.3) h.2), h.4)

pub ends_said : {S : Type 0} (reencodes : Reencoding) (step : S → Option (List ℕ) → S → Type 0) (kept : List ℕ) (fault : Option ErrorKind) (held more : List ℕ) (s : S) (input : List ℕ) (t u : S)
    → ((rest : List ℕ) → Keeps kept fault rest → rest ≢ [])
    → ((s : S) (said : List ℕ) (rest : List ℕ) → Keeps kept fault rest → Said step s said held t → (answer : Answer) × AnswersLine reencodes rest answer × Said step s (said ++ as_line (text_of answer)) more u)
    → Stands reencodes step s input kept fault held t
    → (output : List ℕ) × AnswersAll reencodes input output × Said step s output more u
ends_said reencodes step kept fault held more s input t u some answers h =
    let a = answers s h.1 h.0 h.3 h.4 in
    (h.1 ++ as_line (text_of a.0), inr (h.0, h.1, a.0, h.2, some h.0 h.3, a.1, refl), a.2)

pub ends_cut : {S : Type 0} (reencodes : Reencoding) (step : S → Option (List ℕ) → S → Type 0) (kept : List ℕ) (fault : Option ErrorKind) (held : List ℕ) (s : S) (input : List ℕ) (t u : S)
    → ((rest : List ℕ) → Keeps kept fault rest → rest ≢ [])
    → ((s : S) (said : List ℕ) (rest : List ℕ) → Keeps kept fault rest → Said step s said held t → (answer : Answer) × AnswersLine reencodes rest answer × IsCutOff step s (said ++ as_line (text_of answer)) u)
    → Stands reencodes step s input kept fault held t
    → (output : List ℕ) × AnswersAll reencodes input output × IsCutOff step s output u
ends_cut reencodes step kept fault held s input t u some answers h =
    let a = answers s h.1 h.0 h.3 h.4 in
    (h.1 ++ as_line (text_of a.0), inr (h.0, h.1, a.0, h.2, some h.0 h.3, a.1, refl), a.2)

-- ---- a piece of the input

-- what stands after an input stands after a piece more
abbrev pub Carries : {S : Type 0} → Reencoding → (S → Option (List ℕ) → S → Type 0) → List ℕ → Option ErrorKind → List ℕ → S → List ℕ → List ℕ → Option ErrorKind → List ℕ → S → Type 0
Carries {S} reencodes step kept fault held t piece full fault2 more u =
    (s : S) (input : List ℕ) → Stands reencodes step s input kept fault held t → Stands reencodes step s (input ++ piece) full fault2 more u

line_split : (rest : List ℕ) (at : ℕ) → at < length rest → slice_index rest at ≡ 10 → rest ≡ take at rest ++ 10 ∷ drop (at + 1) rest
line_split rest at fits is =
    let whole : rest ≡ take at rest ++ slice_index rest at ∷ drop (suc at) rest = split_at rest at 0 fits in
    rw add-one (whole ∙ ap (λ (x : ℕ). take at rest ++ x ∷ drop (suc at) rest) is)

-- what follows a line, as a slice
rest_of : (rest : List ℕ) (at : ℕ) → take (length rest - (at + 1)) (drop (at + 1) rest) ≡ drop (at + 1) rest
rest_of rest at = take_all _ _ (rw length-drop (omega arith))

parts_of : (piece done rest : List ℕ) (at : ℕ) → piece ≡ done ++ rest → at < length rest → slice_index rest at ≡ 10 → piece ≡ (done ++ as_line (take at rest)) ++ take (length rest - (at + 1)) (drop (at + 1) rest)
parts_of piece done rest at parts fits is =
    let after = drop (at + 1) rest in
    let front = take at rest in
    parts ∙ ap (λ (xs : List ℕ). done ++ xs) (line_split rest at fits is ∙ sym (append_assoc front (10 ∷ []) after)) ∙ sym (append_assoc done (as_line front) after) ∙ ap (λ (xs : List ℕ). (done ++ as_line front) ++ xs) (sym (rest_of rest at))

pub piece_more : {S : Type 0} (reencodes : Reencoding) (step : S → Option (List ℕ) → S → Type 0) (kept : List ℕ) (fault : Option ErrorKind) (held : List ℕ) (t : S) (piece rest : List ℕ) (at : ℕ) (kept1 : List ℕ) (fault1 : Option ErrorKind) (held1 : List ℕ) (u : S) (kept2 : List ℕ) (fault2 : Option ErrorKind) (held2 : List ℕ) (v : S)
    → (done : List ℕ) × (piece ≡ done ++ rest) × Carries reencodes step kept fault held t done kept1 fault1 held1 u
    → at < length rest → slice_index rest at ≡ 10 → Lacks 10 (take at rest)
    → ((s : S) (input : List ℕ) → Stands reencodes step s input kept1 fault1 held1 u → Lacks 10 (take at rest) → Stands reencodes step s (input ++ as_line (take at rest)) kept2 fault2 held2 v)
    → (done : List ℕ) × (piece ≡ done ++ take (length rest - (at + 1)) (drop (at + 1) rest)) × Carries reencodes step kept fault held t done kept2 fault2 held2 v
piece_more reencodes step kept fault held t piece rest at kept1 fault1 held1 u kept2 fault2 held2 v h fits is lacks next = (
  h.0 ++ as_line (take at rest),
  parts_of piece h.0 rest at h.1 fits is,
  λ s input stands. subst (λ (bytes : List ℕ). Stands reencodes step s bytes kept2 fault2 held2 v) (append_assoc input h.0 (as_line (take at rest))) (next s (input ++ h.0) (h.2 s input stands) lacks),
)

stopped_more : {S : Type 0} (reencodes : Reencoding) (step : S → Option (List ℕ) → S → Type 0) (s : S) (input more : List ℕ) (t : S) → Stopped reencodes step s input t → Stopped reencodes step s (input ++ more) t
stopped_more reencodes step s input more t h =
    (h.0, (h.1.0, h.1.1 ++ more, h.1.2, h.1.3, ap (λ (xs : List ℕ). xs ++ more) h.1.4 ∙ append_assoc h.1.0 h.1.1 more), h.2)

pub piece_stopped : {S : Type 0} (reencodes : Reencoding) (step : S → Option (List ℕ) → S → Type 0) (kept : List ℕ) (fault : Option ErrorKind) (held : List ℕ) (t : S) (piece rest : List ℕ) (at : ℕ) (kept1 : List ℕ) (fault1 : Option ErrorKind) (held1 : List ℕ) (u v : S)
    → (done : List ℕ) × (piece ≡ done ++ rest) × Carries reencodes step kept fault held t done kept1 fault1 held1 u
    → at < length rest → slice_index rest at ≡ 10 → Lacks 10 (take at rest)
    → ((s : S) (input : List ℕ) → Stands reencodes step s input kept1 fault1 held1 u → Lacks 10 (take at rest) → Stopped reencodes step s (input ++ as_line (take at rest)) v)
    → (s : S) (input : List ℕ) → Stands reencodes step s input kept fault held t → Stopped reencodes step s (input ++ piece) v
piece_stopped reencodes step kept fault held t piece rest at kept1 fault1 held1 u v h fits is lacks next s input stands =
    let front = as_line (take at rest) in
    let after = take (length rest - (at + 1)) (drop (at + 1) rest) in
    let cut = stopped_more reencodes step s ((input ++ h.0) ++ front) after v (next s (input ++ h.0) (h.2 s input stands) lacks) in
    let whole = append_assoc (input ++ h.0) front after ∙ append_assoc input h.0 (front ++ after) ∙ ap (λ (xs : List ℕ). input ++ xs) (sym (append_assoc h.0 front after) ∙ sym (parts_of piece h.0 rest at h.1 fits is)) in
    subst (λ (bytes : List ℕ). Stopped reencodes step s bytes v) whole cut

pub piece_ends : {S : Type 0} (reencodes : Reencoding) (step : S → Option (List ℕ) → S → Type 0) (kept : List ℕ) (fault : Option ErrorKind) (held : List ℕ) (t : S) (piece rest kept1 : List ℕ) (fault1 : Option ErrorKind) (held1 : List ℕ) (u : S) (full : List ℕ) (fault2 : Option ErrorKind)
    → (done : List ℕ) × (piece ≡ done ++ rest) × Carries reencodes step kept fault held t done kept1 fault1 held1 u
    → Lacks 10 rest → ((front : List ℕ) → Keeps kept1 fault1 front → Keeps full fault2 (front ++ rest))
    → (s : S) (input : List ℕ) → Stands reencodes step s input kept fault held t → Stands reencodes step s (input ++ piece) full fault2 held1 u
piece_ends reencodes step kept fault held t piece rest kept1 fault1 held1 u full fault2 h lacks adds s input stands =
    let a = h.2 s input stands in
    let more = so_far_more reencodes (input ++ h.0) a.0 a.1 rest a.2 lacks in
    let whole = append_assoc input h.0 rest ∙ ap (λ (xs : List ℕ). input ++ xs) (sym h.1) in
    (a.0 ++ rest, a.1, subst (λ (bytes : List ℕ). AnswersSoFar reencodes bytes (a.0 ++ rest) a.1) whole more, adds a.0 a.3, a.4)
