-- Hex texts one after the other.
use Rattle.std.proofs.Common.{◌≡◌, ℕ, ◌+◌, ◌<◌, zero, suc, List, [], ◌∷◌, ◌++◌, length, map, take, get_or, Option, Some, None, Result, Ok, Err, IsErr, refl, ◌∙◌, ap, add-one, arith}
use Rattle.std.proofs.lemmas.List.{map_push}
use Rattle.std.proofs.Math.Seq.{take-suc}
use Rattle.hex.specs.Hex.{decode_of}
use Rattle.hex.specs.declared.error.FromHexError.{FromHexError}
use Rattle.x509_tool_run.specs.Path.{decode_all, fault_line, fault_text}
use Rattle.x509_tool_run.specs.Pem.{in_front}
use Rattle.x509_tool_run.specs.Answer.{as_line}

-- what two lists of texts stand for, one behind the other
abbrev joined : Option (List (List ℕ)) → Option (List (List ℕ)) → Option (List (List ℕ))
joined (Some xs) (Some ys) = Some (xs ++ ys)
joined (Some xs) None = None
joined None ys = None

in_front-joined : (r : Result (List ℕ) FromHexError) (a b : Option (List (List ℕ))) → in_front r (joined a b) ≡ joined (in_front r a) b
in_front-joined (Ok bytes) (Some xs) (Some ys) = refl
in_front-joined (Ok bytes) (Some xs) None = refl
in_front-joined (Ok bytes) None b = refl
in_front-joined (Err e) a b = refl

nothing_joined : (b : Option (List (List ℕ))) → b ≡ joined (Some []) b
nothing_joined (Some ys) = refl
nothing_joined None = refl

decode_all-append : (xs ys : List (List ℕ)) → decode_all (xs ++ ys) ≡ joined (decode_all xs) (decode_all ys)
decode_all-append [] ys = nothing_joined (decode_all ys)
decode_all-append (x ∷ xs) ys = ap (in_front (decode_of x)) (decode_all-append xs ys) ∙ in_front-joined (decode_of x) (decode_all xs) (decode_all ys)

in_front-bad : (r : Result (List ℕ) FromHexError) (others : Option (List (List ℕ))) → IsErr r → in_front r others ≡ None
in_front-bad (Ok bytes) others bad = absurd cc
in_front-bad (Err e) others bad = refl

-- one text more
pub decode_all-push : (texts : List (List ℕ)) (text : List ℕ) (decoded : List (List ℕ)) (bytes : List ℕ) → decode_all texts ≡ Some decoded → decode_of text ≡ Ok bytes → decode_all (texts ++ text ∷ []) ≡ Some (decoded ++ bytes ∷ [])
decode_all-push texts text decoded bytes h is = decode_all-append texts (text ∷ []) ∙ rw (h, is) refl

nothing_in_front : (r : Result (List ℕ) FromHexError) → in_front r None ≡ None
nothing_in_front (Ok bytes) = refl
nothing_in_front (Err e) = refl

module _ {X : Type 0} (view : X → List ℕ) (d : X) where
  -- the texts up to the next one, which is hex text
  pub decode_all-further : (texts : List X) (i : ℕ) (decoded : List (List ℕ)) (bytes : List ℕ) → i < length texts → decode_all (map view (take i texts)) ≡ Some decoded → decode_of (view (get_or texts i d)) ≡ Ok bytes → decode_all (map view (take (i + 1) texts)) ≡ Some (decoded ++ bytes ∷ [])
  decode_all-further texts i decoded bytes lt h is =
      rw (add-one i, take-suc texts i d lt, map_push view (take i texts) (get_or texts i d)) (decode_all-push (map view (take i texts)) (view (get_or texts i d)) decoded bytes h is)

  -- a text that is no hex text
  pub decode_all-bad : (texts : List X) (i : ℕ) → i < length texts → IsErr (decode_of (view (get_or texts i d))) → decode_all (map view texts) ≡ None
  decode_all-bad [] i lt bad = absurd (omega (arith, lt))
  decode_all-bad (text ∷ texts) zero lt bad = in_front-bad (decode_of (view text)) (decode_all (map view texts)) bad
  decode_all-bad (text ∷ texts) (suc i) lt bad = ap (in_front (decode_of (view text))) (decode_all-bad texts i (omega (arith, lt)) bad) ∙ nothing_in_front (decode_of (view text))

-- ---- lines that tell of faults

-- there is no line exactly where there is no fault
pub no_fault : (fault : Option (List ℕ)) → None ≡ fault_line fault → fault ≡ None
no_fault None is = refl
no_fault (Some fault) is = absurd cc

-- a line tells of a fault
pub one_fault : (line : List ℕ) (fault : Option (List ℕ)) → Some line ≡ fault_line fault → (text : List ℕ) × (fault ≡ Some text) × (line ≡ as_line (fault_text text))
one_fault line None is = absurd cc
one_fault line (Some fault) is = (fault, refl, cc)
