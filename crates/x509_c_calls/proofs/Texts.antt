-- What a room is filled with, and texts of object identifiers.
use Rattle.std.proofs.Common.{◌≡◌, ◌⊎◌, ℕ, Bool, true, false, List, Result, Ok, sym, ap, subst, inl, inr}
use Rattle.std.specs.Str.{IsUtf8}
use Rattle.x509_c_calls.specs.Status.{Fills}
use Rattle.x509_c_calls.specs.declared.status.status.Status.{Status}
use Rattle.x509_c_calls.specs.declared.status.status.Status.TheVariants.{Done, NoRoom, Absent, Repeated, Faulty, Limit, Refused}
use Rattle.x509_c_calls.specs.Identifiers.{IsDotted}
use Rattle.x509_der.specs.ArcLaws.{content_of-arcs_of}
use Rattle.x509_der.specs.Arcs.{AreArcs, dotted}
use Rattle.x509_der.specs.ObjectIdentifier.{arcs_of, is_object_identifier}
use Rattle.x509_der.specs.declared.error.ErrorKind.{ErrorKind}
use Rattle.x509_name.proofs.DottedTexts.{dotted_is_utf8}

abbrev is_refused : Status → Bool
is_refused (Refused e) = true
is_refused _ = false

not_done : (e : ErrorKind) → Refused e ≡ Done → ⊥
not_done e is = absurd (let k : true ≡ false = ap is_refused is in cc)

not_room : (e : ErrorKind) → Refused e ≡ NoRoom → ⊥
not_room e is = absurd (let k : true ≡ false = ap is_refused is in cc)

-- bytes that are an answer are filled in as one
pub fills_with : (answers : Result (List ℕ) ErrorKind → Type 0) (bytes room filled : List ℕ) (was written : ℕ) (status : Status)
    → answers (Ok bytes) → Fills (λ answer. answer ≡ Ok bytes) room filled was written status → (status ≡ Done) ⊎ (status ≡ NoRoom) → Fills answers room filled was written status
unfolding Fills
fills_with answers bytes room filled was written Done good (filled_in, same, front, len) accepted = (filled_in, subst answers (sym same) good, front, len)
fills_with answers bytes room filled was written NoRoom good (wanted, same, more, len) accepted = (wanted, subst answers (sym same) good, more, len)
fills_with answers bytes room filled was written Absent good left accepted = left
fills_with answers bytes room filled was written Repeated good left accepted = left
fills_with answers bytes room filled was written Faulty good left accepted = left
fills_with answers bytes room filled was written Limit good left accepted = left
fills_with answers bytes room filled was written (Refused e) good left accepted = elim accepted [ inl is ↦ absurd (not_done e is) | inr is ↦ absurd (not_room e is) ]

-- the text of content octets
pub is_dotted : (content text : List ℕ) → is_object_identifier content ≡ true → text ≡ dotted (arcs_of content) → IsDotted content (Ok text)
is_dotted content text is e = let known = content_of-arcs_of content is in (arcs_of content, known.0, sym known.1, e)

pub no_text : (text : List ℕ) → (IsUtf8 text → ⊥) → (arcs : List ℕ) → AreArcs arcs → text ≡ dotted arcs → ⊥
no_text text bad arcs are is = bad (subst IsUtf8 (sym is) (dotted_is_utf8 arcs are))
