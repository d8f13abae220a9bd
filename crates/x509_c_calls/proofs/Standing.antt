-- Where the element at a place of bytes stands.
use Rattle.std.proofs.Common.{◌≡◌, ℕ, ◌+◌, ◌-◌, ◌<◌, ◌≤◌, true, List, [], ◌∷◌, ◌++◌, length, drop, Ok, Err, refl, sym, ap, ◌∙◌, arith, length-append, length-drop, append_assoc}
use Rattle.std.proofs.lemmas.List.{append-nil, drop_at, drop-drop}
use Rattle.x509_cert.specs.Signed.{IsSignedPart}
use Rattle.x509_c_calls.specs.Place.{IsAt}
use Rattle.x509_der.specs.declared.error.ErrorKind.TheVariants.{Malformed}
use Rattle.x509_der.specs.Element.{element, is_identifier, is_universal, length_octets, limit}
use Rattle.x509_der.specs.ElementReading.{Piece, piece_at}
use Rattle.x509_der.specs.ElementLaws.{piece_at-element, piece_at-sound}
use Rattle.x509_der.specs.FrontLaws.{elements}
use Rattle.x509_der.specs.OutcomeLaws.{not_refused, ok_is}

module _ (input : List ℕ) (place : ℕ) (inside : place ≤ length input) (tag : ℕ) (content more : List ℕ) (e : drop place input ≡ element tag content ++ more) where
  -- the octets in front of the content
  abbrev pub front : List ℕ
  front = tag ∷ length_octets (length content)

  split : drop place input ≡ front ++ (content ++ more)
  unfolding element
  split = e ∙ ap (λ x. tag ∷ x) (append_assoc (length_octets (length content)) content more)

  element_len : length (element tag content) ≡ length front + length content
  unfolding element
  element_len = length-append front content

  total : length input ≡ place + (length front + (length content + length more))
  total = omega (arith, inside, length-drop place input, ap length split, length-append front (content ++ more), length-append content more)

  pub rest_fits : length more ≤ length input
  rest_fits = omega (arith, total)

  pub content_fits : length content ≤ length input - length more
  content_fits = omega (arith, total)

  pub ordered : (place ≤ length input - length more - length content) × (length input - length more - length content ≤ length input - length more) × (length input - length more ≤ length input)
  ordered = (omega (arith, total), omega (arith, total), omega (arith, total))

  begins : (at : ℕ) → at ≡ place + length front → drop at input ≡ content ++ more
  begins at is = rw is (sym (drop-drop (length front) place input) ∙ ap (drop (length front)) split ∙ drop_at front (content ++ more) (length front) refl)

  ends : (at : ℕ) → at ≡ place + length (element tag content) → drop at input ≡ more
  ends at is = rw is (sym (drop-drop (length (element tag content)) place input) ∙ ap (drop (length (element tag content))) e ∙ drop_at (element tag content) more (length (element tag content)) refl)

  abbrev pub begin : ℕ
  begin = length input - length more - length content

  abbrev pub end : ℕ
  end = length input - length more

  pub stands : (t : ℕ) (c m : List ℕ) → drop place input ≡ element t c ++ m → (drop begin input ≡ c ++ m) × (drop end input ≡ m) × (begin + length c ≡ end) × (place + length (element t c) ≡ end)
  stands t c m other =
      let same = elements t tag c content m more (sym other ∙ e) in
      rw (same.0, same.1, same.2) (begins begin (omega (arith, total)), ends end (omega (arith, total, element_len)), omega (arith, total), omega (arith, total, element_len))

-- where no element stands at all
pub none_stands : {Q : Type 0} (bytes : List ℕ) → piece_at bytes ≡ Err Malformed → (tag : ℕ) (content more : List ℕ) → is_identifier tag ≡ true → bytes ≡ element tag content ++ more → Q
none_stands bytes refused tag content more is e = not_refused (record { tag = tag; content = content; rest = more }) Malformed (sym (ap piece_at e ∙ piece_at-element tag content more is) ∙ refused)

pub is_sequence : is_identifier 48 ≡ true
unfolding is_identifier is_universal
is_sequence = refl

-- ---- a part of a known length

pub passed : (input text more : List ℕ) (place len : ℕ) → place ≤ length input → len ≡ length text → drop place input ≡ text ++ more → IsAt text more input (record { place = place; len = len }) × (drop (place + len) input ≡ more)
passed input text more place len inside same e =
    ((e, same, inside), rw same (sym (drop-drop (length text) place input) ∙ ap (drop (length text)) e ∙ drop_at text more (length text) refl))

pub too_few : {Q : Type 0} (input text more : List ℕ) (place len : ℕ) → place ≤ length input → len ≡ length text → drop place input ≡ text ++ more → length input - place < len → Q
too_few input text more place len inside same e few = absurd (omega (arith, length-drop place input, ap length e, length-append text more))

-- ---- the signed part

pub sequence_found : (bytes : List ℕ) (piece : Piece) → piece_at bytes ≡ Ok piece → piece.tag ≡ 48 → bytes ≡ element 48 piece.content ++ piece.rest
sequence_found bytes piece p is = (piece_at-sound bytes piece p).0 ∙ ap (λ t. element t piece.content ++ piece.rest) is

pub other_sequence : (bytes : List ℕ) (piece : Piece) → piece_at bytes ≡ Ok piece → (piece.tag ≡ 48 → ⊥) → (content rest : List ℕ) → bytes ≡ element 48 content ++ rest → ⊥
other_sequence bytes piece p other content rest e = other (ap (λ (q : Piece). q.tag) (ok_is _ _ (sym p ∙ ap piece_at e ∙ piece_at-element 48 content rest is_sequence)))

-- the content of an element stands behind its header
header_front : (bytes content : List ℕ) → bytes ≡ element 48 content → (drop (length bytes - length content) bytes ≡ content) × (length bytes - length content ≤ length bytes)
unfolding element
header_front bytes content e =
    let header = 48 ∷ length_octets (length content) in
    let front : length header ≡ length bytes - length content = omega (arith, ap length e, length-append (length_octets (length content)) content) in
    (ap (drop (length bytes - length content)) e ∙ drop_at header content (length bytes - length content) front, omega arith)

pub inside_whole : (bytes content after : List ℕ) → bytes ≡ element 48 content ++ after → length content ≤ length bytes
unfolding element
inside_whole bytes content after e = omega (arith, ap length e, length-append (element 48 content) after, length-append (length_octets (length content)) content)

-- where it stands
pub signed_stands : (bytes content inner behind : List ℕ) → length bytes ≤ limit → bytes ≡ element 48 content ++ [] → content ≡ element 48 inner ++ behind
    → (signed : List ℕ) × (part : IsSignedPart bytes signed) × IsAt signed part.behind bytes (record { place = length bytes - length content; len = length content - length behind })
signed_stands bytes content inner behind within whole part =
    let outer : bytes ≡ element 48 content = whole ∙ append-nil (element 48 content) in
    let signed = element 48 inner in
    let lengths = ap length outer in
    let place = header_front bytes content outer in
    (signed, record { content = inner; behind = behind; part = refl; whole = outer ∙ ap (element 48) part; within = within }, (place.0 ∙ part, omega (arith, ap length part, length-append (element 48 inner) behind), place.1))
