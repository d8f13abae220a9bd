-- Lines of PEM that are read one after the other.
use Rattle.std.proofs.Common.{◌≡◌, ℕ, true, false, List, [], ◌∷◌, ◌++◌, Option, Some, None, map, Result, Ok, Err, IsErr, refl, sym, ap, ◌∙◌, append_assoc, append-nil, ◌<◌, length, drop, get_or, add-one}
use Rattle.std.proofs.Math.Seq.{drop-cons, drop-length}
use Rattle.base64.specs.Engines.{standard}
use Rattle.base64.specs.declared.decode.DecodeError.{DecodeError}
use Rattle.base64.specs.GeneralPurpose.{decode_of}
use Rattle.std.proofs.lemmas.List.{map_push, length_push}
use Rattle.x509_tool_run.specs.Pem.{in_front, is_end, label_of, lines_of, objects_of, trimmed}

-- objects, and those behind them
abbrev pub behind : List (List ℕ) → Option (List (List ℕ)) → Option (List (List ℕ))
behind objects None = None
behind objects (Some others) = Some (objects ++ others)

-- what all lines come to, where the first are read and these are left
pub record ReadSo (whole : Option (List (List ℕ))) (objects : List (List ℕ)) (label : Option (List ℕ)) (digits : List ℕ) (rest : List (List ℕ)) : Type 0 where
  pub so : whole ≡ behind objects (objects_of label digits rest)

nothing_behind : (others : Option (List (List ℕ))) → others ≡ behind [] others
nothing_behind None = refl
nothing_behind (Some others) = refl

-- before the first line
pub at_first : (lines : List (List ℕ)) → ReadSo (objects_of None [] lines) [] None [] lines
at_first lines = record { so = nothing_behind (objects_of None [] lines) }

module _ (whole : Option (List (List ℕ))) (objects : List (List ℕ)) (digits : List ℕ) where
  -- a line outside of texts
  pub after_outside : (line : List ℕ) (rest : List (List ℕ)) → ReadSo whole objects None digits (line ∷ rest) → ReadSo whole objects (label_of line) digits rest
  after_outside line rest h = record { so = h.so }

  -- a line of base64
  pub after_digits : (label line : List ℕ) (rest : List (List ℕ)) → ReadSo whole objects (Some label) digits (line ∷ rest) → is_end label line ≡ false → ReadSo whole objects (Some label) (digits ++ line) rest
  after_digits label line rest h other = record { so = rw other at h.so }

  one_more : (bytes : List ℕ) (more : Option (List (List ℕ))) (given : Result (List ℕ) DecodeError) → given ≡ Ok bytes → behind objects (in_front given more) ≡ behind (objects ++ bytes ∷ []) more
  one_more bytes None (Ok b) is = refl
  one_more bytes (Some others) (Ok b) is =
      let same : b ≡ bytes = cc in
      rw same (ap Some (sym (append_assoc objects (bytes ∷ []) others)))
  one_more bytes more (Err e) is = absurd cc

  -- the line that ends a text
  pub after_end : (label line : List ℕ) (rest : List (List ℕ)) (bytes : List ℕ) → ReadSo whole objects (Some label) digits (line ∷ rest) → is_end label line ≡ true → decode_of standard digits ≡ Ok bytes → ReadSo whole (objects ++ bytes ∷ []) None [] rest
  after_end label line rest bytes h ends is = record { so = (rw ends at h.so) ∙ one_more bytes (objects_of None [] rest) (decode_of standard digits) is }

  no_more : (more : Option (List (List ℕ))) (given : Result (List ℕ) DecodeError) → IsErr given → behind objects (in_front given more) ≡ None
  no_more more (Ok b) bad = absurd cc
  no_more more (Err e) bad = refl

  -- the line that ends a text that is no base64
  pub at_malformed : (label line : List ℕ) (rest : List (List ℕ)) → ReadSo whole objects (Some label) digits (line ∷ rest) → is_end label line ≡ true → IsErr (decode_of standard digits) → whole ≡ None
  at_malformed label line rest h ends bad = (rw ends at h.so) ∙ no_more (objects_of None [] rest) (decode_of standard digits) bad

  -- the end of the lines
  pub at_last : ReadSo whole objects None digits [] → whole ≡ Some objects
  at_last h = h.so ∙ ap Some (append-nil objects)

  pub at_open : (label : List ℕ) → ReadSo whole objects (Some label) digits [] → whole ≡ None
  at_open label h = h.so

-- the line that ends a text, of objects that are seen by view
pub after_object : {X : Type 0} (view : X → List ℕ) (whole : Option (List (List ℕ))) (objects : List X) (digits label line : List ℕ) (rest : List (List ℕ)) (object : X) → ReadSo whole (map view objects) (Some label) digits (line ∷ rest) → is_end label line ≡ true → decode_of standard digits ≡ Ok (view object) → ReadSo whole (map view (objects ++ object ∷ [])) None [] rest
after_object view whole objects digits label line rest object h ends is =
    rw (map_push view objects object) (after_end whole (map view objects) digits label line rest (view object) h ends is)

-- the next line of a text, behind others
pub at_line : {X : Type 0} (text given line : List ℕ) (others : List X) (item : X) (whole : Option (List (List ℕ))) (objects : List (List ℕ)) (label : Option (List ℕ)) (digits : List ℕ) → (length others < length (lines_of text)) × (given ≡ get_or (lines_of text) (length others) given) → line ≡ trimmed given → ReadSo whole objects label digits (map trimmed (drop (length others) (lines_of text))) → ReadSo whole objects label digits (line ∷ map trimmed (drop (length (others ++ item ∷ [])) (lines_of text)))
at_line text given line others item whole objects label digits turn is h = rw (length_push others item, add-one (length others), is ∙ ap trimmed turn.1) (rw (drop-cons (lines_of text) (length others) given turn.0) at h)

-- behind the last line of a text
pub at_end : (text : List ℕ) (n : ℕ) (whole : Option (List (List ℕ))) (objects : List (List ℕ)) (label : Option (List ℕ)) (digits : List ℕ) → n ≡ length (lines_of text) → ReadSo whole objects label digits (map trimmed (drop n (lines_of text))) → ReadSo whole objects label digits []
at_end text n whole objects label digits is h = rw (is, drop-length (lines_of text)) at h
