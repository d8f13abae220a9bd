-- The loop that prints a text: which bytes are escaped, and what is left to print.
use Rattle.std.proofs.Common.{◌+◌, ◌-◌, ◌/◌, ◌%◌, ◌^◌, bit_and, map, ◌<◌, ◌≤◌, ◌≡◌, ◌≢◌, ℕ, suc, Bool, true, false, not, ◌&&◌, ◌||◌, eqb, List, [], ◌∷◌, ◌++◌, length, get_or, take, drop, refl, sym, ap, ◌∙◌, arith, inl, inr, append_assoc, append-nil, add-one, drop-cons, length-drop}
use Rattle.std.specs.Char.{encode_utf8}
use Rattle.std.specs.Bool.{OnTrue}
use Rattle.std.specs.List.{flat_map, list_all, range_with_len, slice_range}
use Rattle.std.proofs.lemmas.List.FromFn.{get_or-map-range_with_len}
use Rattle.std.proofs.lemmas.Bool.{ne_eqb}
use Rattle.std.proofs.lemmas.Str.{encode_ascii}
use Rattle.std.proofs.lemmas.Bool.Decides.{nat_tests}
use Rattle.std.proofs.lemmas.List.{drop_all, take_more, take_all, get_or-drop}
use Rattle.x509_name.proofs.Printed.{bool_tells, or_false}
use Rattle.x509_name.specs.Escapes.{Item, Plain, item_text, item_of, is_empty, is_control, is_always_escaped, items_of, further_items, escaped}

-- what is printed of the bytes at the front, or of further ones
abbrev pub items_from : Bool → List ℕ → List Item
items_from true bytes = items_of bytes
items_from false bytes = further_items bytes

-- whether the place of a byte asks for an escape
abbrev pub at_its_place : ℕ → Bool → Bool → Bool
at_its_place byte is_first is_last = (eqb byte 32 && (is_first || is_last)) || (eqb byte 35 && is_first)

place_first : (space sign is_last : Bool) → ((space && (true || is_last)) || (sign && true)) ≡ (space || sign)
place_first true sign is_last = refl
place_first false true is_last = refl
place_first false false is_last = refl

place_further : (space sign is_last : Bool) → ((space && (false || is_last)) || (sign && false)) ≡ (space && is_last)
place_further true true true = refl
place_further true false true = refl
place_further true true false = refl
place_further true false false = refl
place_further false true is_last = refl
place_further false false is_last = refl

items_none : (is_first : Bool) → items_from is_first [] ≡ []
items_none true = refl
items_none false = refl

items_next : (is_first : Bool) (byte : ℕ) (rest : List ℕ) → items_from is_first (byte ∷ rest) ≡ item_of (at_its_place byte is_first (is_empty rest)) byte ∷ further_items rest
items_next true byte rest = ap (λ (t : Bool). item_of t byte ∷ further_items rest) (sym (place_first (eqb byte 32) (eqb byte 35) (is_empty rest)))
items_next false byte rest = ap (λ (t : Bool). item_of t byte ∷ further_items rest) (sym (place_further (eqb byte 32) (eqb byte 35) (is_empty rest)))

empty_is : (bytes : List ℕ) → is_empty bytes ≡ eqb (length bytes) 0
empty_is [] = refl
empty_is (byte ∷ bytes) = grind (arith, nat_tests)

last_is : (text : List ℕ) (i : ℕ) → i < length text → is_empty (drop (i + 1) text) ≡ eqb (i + 1) (length text)
last_is text i lt = empty_is (drop (i + 1) text) ∙ (let h = length-drop (i + 1) text in grind (arith, nat_tests))

-- ---- one byte

or_true : (b : Bool) → (b || true) ≡ true
or_true true = refl
or_true false = refl

-- a byte with an escape that is no control stands behind a backslash
pub escape_other : (byte : ℕ) → byte < 128 → is_control byte ≡ false → encode_utf8 92 ++ encode_utf8 byte ≡ item_text (item_of true byte)
escape_other byte ascii other = rw (other, or_true (is_always_escaped byte), encode_ascii byte ascii, encode_ascii 92 (omega arith)) refl

-- which bytes are escaped
pub escaped_is : (byte : ℕ) (by_its_place : Bool) → (is_control byte || (is_always_escaped byte || by_its_place)) ≡ true → item_of by_its_place byte ≡ item_of true byte
escaped_is byte by_its_place is =
    elim (bool_tells (is_control byte)) [
      | inl t ↦ rw t refl
      | inr f ↦ let other : (is_always_escaped byte || by_its_place) ≡ true = rw f at is in rw (f, other, or_true (is_always_escaped byte)) refl
    ]

pub escaped_ascii : (byte : ℕ) (is_first is_last : Bool) → (is_control byte || (is_always_escaped byte || at_its_place byte is_first is_last)) ≡ true → byte < 128
escaped_ascii byte is_first is_last is = grind (arith, nat_tests)

pub escaped_not : (byte : ℕ) (by_its_place : Bool) → (is_control byte || (is_always_escaped byte || by_its_place)) ≡ false → item_of by_its_place byte ≡ Plain byte
escaped_not byte by_its_place not =
    let h = or_false (is_control byte) (is_always_escaped byte || by_its_place) not in
    rw (h.0, h.1) refl

-- ---- a text of which no byte is escaped

abbrev pub is_plain : ℕ → Bool
is_plain byte = not (is_control byte || is_always_escaped byte)

-- the bit of a byte in the table
abbrev pub has_bit : ℕ → Bool
has_bit byte = eqb (bit_and (get_or (12105649388617990144 ∷ 9223372036586340351 ∷ 18446744073709551615 ∷ 18446744073709551615 ∷ []) (byte / 64) 0 / 2 ^ (byte % 64)) 1) 1

table_is : map has_bit (range_with_len 0 256) ≡ map is_plain (range_with_len 0 256)
table_is = refl

pub bit_is_plain : (byte : ℕ) → byte < 256 → has_bit byte ≡ is_plain byte
bit_is_plain byte below =
    sym (get_or-map-range_with_len has_bit 0 256 byte byte false below (omega arith)) ∙ ap (λ (t : List Bool). get_or t byte false) table_is
    ∙ get_or-map-range_with_len is_plain 0 256 byte byte false below (omega arith)

plain_item : (byte : ℕ) (by_its_place : Bool) → is_plain byte ≡ true → by_its_place ≡ false → item_of by_its_place byte ≡ Plain byte
plain_item byte by_its_place plain place = escaped_not byte by_its_place (grind (arith, nat_tests))

further_plain : (bytes : List ℕ) → get_or bytes (length bytes - 1) 0 ≢ 32 → list_all is_plain bytes ≡ true → flat_map item_text (further_items bytes) ≡ bytes
further_plain [] last all = refl
further_plain (byte ∷ []) last all = rw (plain_item byte (eqb byte 32 && true) (grind (arith, nat_tests)) (grind (arith, nat_tests))) refl
further_plain (byte ∷ next ∷ rest) last all =
    let one : suc (length rest) - 1 ≡ length rest = omega arith in
    let two : suc (suc (length rest)) - 1 ≡ suc (length rest) = omega arith in
    let further : get_or (next ∷ rest) (suc (length rest) - 1) 0 ≢ 32 = λ h.
    last (ap (λ (n : ℕ). get_or (byte ∷ next ∷ rest) n 0) two ∙ ap (λ (n : ℕ). get_or (next ∷ rest) n 0) (sym one) ∙ h) in
    rw (plain_item byte (eqb byte 32 && false) (grind (arith, nat_tests)) (grind (arith, nat_tests)))
    (ap (λ (t : List ℕ). byte ∷ t) (further_plain (next ∷ rest) further (grind (arith, nat_tests))))

-- at the front a number sign and a space are escaped, at the end a space
pub escaped_plain : (bytes : List ℕ) → get_or bytes 0 0 ≢ 32 → get_or bytes 0 0 ≢ 35 → get_or bytes (length bytes - 1) 0 ≢ 32 → list_all is_plain bytes ≡ true → escaped bytes ≡ bytes
unfolding escaped
escaped_plain [] space sign last all = refl
escaped_plain (byte ∷ bytes) space sign last all =
    let front : item_of (eqb byte 32 || eqb byte 35) byte ≡ Plain byte = plain_item byte (eqb byte 32 || eqb byte 35) (grind (arith, nat_tests)) (grind (arith, nat_tests)) in
    let further : item_of (eqb byte 32 && is_empty bytes) byte ≡ Plain byte = plain_item byte (eqb byte 32 && is_empty bytes) (grind (arith, nat_tests)) (grind (arith, nat_tests)) in
    rw front (rw further at (further_plain (byte ∷ bytes) last all))

pub escaped_where : (plain : Bool) (bytes : List ℕ) → get_or bytes 0 0 ≢ 32 → get_or bytes 0 0 ≢ 35 → get_or bytes (length bytes - 1) 0 ≢ 32 → plain ≡ list_all is_plain bytes
    → OnTrue plain (escaped bytes ≡ bytes)
escaped_where true bytes space sign last all = escaped_plain bytes space sign last (sym all)
escaped_where false bytes space sign last all = tt

pub escaped_nothing : (bytes : List ℕ) → length bytes < 1 → escaped bytes ≡ bytes
unfolding escaped
escaped_nothing [] none = refl
escaped_nothing (byte ∷ bytes) none = absurd (omega arith)

-- ---- the loop

range_more : (text : List ℕ) (start i : ℕ) → start ≤ i → i < length text → slice_range text start (i + 1) ≡ slice_range text start i ++ get_or text i 0 ∷ []
range_more text start i le lt =
    let next : i + 1 - start ≡ i - start + 1 = omega arith in
    let at : start + (i - start) ≡ i = omega arith in
    let len : i - start < length (drop start text) = omega (arith, length-drop start text) in
    ap (λ (n : ℕ). take n (drop start text)) next ∙ take_more (drop start text) (i - start) 0 len
    ∙ ap (λ (byte : ℕ). take (i - start) (drop start text) ++ byte ∷ []) (get_or-drop start text (i - start) 0 ∙ ap (λ (n : ℕ). get_or text n 0) at)

range_none : (text : List ℕ) (i : ℕ) → slice_range text i i ≡ []
range_none text i = let e : i - i ≡ 0 = omega arith in rw e refl

further : (i : ℕ) (bytes : List ℕ) → items_from (eqb (i + 1) 0) bytes ≡ further_items bytes
further i bytes = ap (λ (t : Bool). items_from t bytes) (ne_eqb (i + 1) 0 (λ e. omega arith))

module _ (text done whole : List ℕ) (start i : ℕ) (lt : i < length text) (so_far : done ++ (slice_range text start i ++ flat_map item_text (items_from (eqb i 0) (drop i text))) ≡ whole) where
  opened : (item : Item) → item_of (at_its_place (get_or text i 0) (eqb i 0) (eqb (i + 1) (length text))) (get_or text i 0) ≡ item
      → done ++ (slice_range text start i ++ (item_text item ++ flat_map item_text (further_items (drop (i + 1) text)))) ≡ whole
  opened item is =
      let at : drop i text ≡ get_or text i 0 ∷ drop (i + 1) text = rw add-one (drop-cons text i 0 lt) in
      let items : items_from (eqb i 0) (drop i text) ≡ item ∷ further_items (drop (i + 1) text) =
      ap (items_from (eqb i 0)) at ∙ items_next (eqb i 0) (get_or text i 0) (drop (i + 1) text)
      ∙ ap (λ (t : Bool). item_of (at_its_place (get_or text i 0) (eqb i 0) t) (get_or text i 0) ∷ further_items (drop (i + 1) text)) (last_is text i lt)
      ∙ ap (λ (t : Item). t ∷ further_items (drop (i + 1) text)) is in
      ap (λ (t : List Item). done ++ (slice_range text start i ++ flat_map item_text t)) (sym items) ∙ so_far

  pub printed_escape : item_of (at_its_place (get_or text i 0) (eqb i 0) (eqb (i + 1) (length text))) (get_or text i 0) ≡ item_of true (get_or text i 0)
      → (done ++ (slice_range text start i ++ item_text (item_of true (get_or text i 0)))) ++ (slice_range text (i + 1) (i + 1) ++ flat_map item_text (items_from (eqb (i + 1) 0) (drop (i + 1) text))) ≡ whole
  printed_escape is =
      let tail : List ℕ = flat_map item_text (further_items (drop (i + 1) text)) in
      let front : List ℕ = slice_range text start i in
      let escape : List ℕ = item_text (item_of true (get_or text i 0)) in
      ap (λ (t : List Item). (done ++ (front ++ escape)) ++ (slice_range text (i + 1) (i + 1) ++ flat_map item_text t)) (further i (drop (i + 1) text))
      ∙ ap (λ (t : List ℕ). (done ++ (front ++ escape)) ++ (t ++ tail)) (range_none text (i + 1))
      ∙ append_assoc done (front ++ escape) tail
      ∙ ap (λ (t : List ℕ). done ++ t) (append_assoc front escape tail)
      ∙ opened (item_of true (get_or text i 0)) is

  pub printed_plain : start ≤ i → item_of (at_its_place (get_or text i 0) (eqb i 0) (eqb (i + 1) (length text))) (get_or text i 0) ≡ Plain (get_or text i 0)
      → done ++ (slice_range text start (i + 1) ++ flat_map item_text (items_from (eqb (i + 1) 0) (drop (i + 1) text))) ≡ whole
  printed_plain before is =
      let tail : List ℕ = flat_map item_text (further_items (drop (i + 1) text)) in
      ap (λ (t : List Item). done ++ (slice_range text start (i + 1) ++ flat_map item_text t)) (further i (drop (i + 1) text))
      ∙ ap (λ (t : List ℕ). done ++ (t ++ tail)) (range_more text start i before lt)
      ∙ ap (λ (t : List ℕ). done ++ t) (append_assoc (slice_range text start i) (get_or text i 0 ∷ []) tail)
      ∙ opened (Plain (get_or text i 0)) is

pub printed_none : (text : List ℕ) → [] ++ ([] ++ flat_map item_text (items_of text)) ≡ escaped text
unfolding escaped
printed_none text = refl

pub printed_end : (text done whole : List ℕ) (start i : ℕ) → length text ≤ i → i ≤ length text → done ++ (slice_range text start i ++ flat_map item_text (items_from (eqb i 0) (drop i text))) ≡ whole
    → done ++ drop start text ≡ whole
printed_end text done whole start i ge le so_far =
    let none : items_from (eqb i 0) (drop i text) ≡ [] = ap (items_from (eqb i 0)) (drop_all i text ge) ∙ items_none (eqb i 0) in
    let all : slice_range text start i ≡ drop start text = take_all (i - start) (drop start text) (omega (arith, length-drop start text)) in
    ap (λ (t : List ℕ). done ++ t) (sym all ∙ sym (append-nil (slice_range text start i)))
    ∙ ap (λ (t : List Item). done ++ (slice_range text start i ++ flat_map item_text t)) (sym none) ∙ so_far
