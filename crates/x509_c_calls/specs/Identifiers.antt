-- Object identifiers as texts: their arcs as decimal numbers, joined by full stops (X.690 8.19).
use Rattle.std.specs.Prelude.{◌≡◌, ℕ, List, Result, Ok, Err}
use Rattle.x509_der.specs.Arcs.{AreArcs, content_of, dotted}
use Rattle.x509_der.specs.declared.error.ErrorKind.{ErrorKind}
use Rattle.x509_der.specs.declared.error.ErrorKind.TheVariants.{Malformed, Failed}

-- the text of the arcs that have these content octets, or Malformed where none have them
abbrev pub IsDotted : List ℕ → Result (List ℕ) ErrorKind → Type 0
IsDotted content (Ok text) = (arcs : List ℕ) × AreArcs arcs × (content ≡ content_of arcs) × (text ≡ dotted arcs)
IsDotted content (Err e) = (e ≡ Malformed) × ((arcs : List ℕ) → AreArcs arcs → content ≡ content_of arcs → ⊥)

-- the content octets of the arcs that have this text, or Failed where none have it
abbrev pub IsIdentified : List ℕ → Result (List ℕ) ErrorKind → Type 0
IsIdentified text (Ok content) = (arcs : List ℕ) × AreArcs arcs × (text ≡ dotted arcs) × (content ≡ content_of arcs)
IsIdentified text (Err e) = (e ≡ Failed) × ((arcs : List ℕ) → AreArcs arcs → text ≡ dotted arcs → ⊥)
