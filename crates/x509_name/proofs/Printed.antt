-- What is printed of bytes.
use Rattle.std.proofs.Common.{◌⊎◌, ◌/◌, ◌%◌, ◌<◌, ◌≡◌, ◌≢◌, ℕ, Bool, true, false, ◌&&◌, ◌||◌, eqb, List, [], ◌∷◌, ◌++◌, map, refl, sym, ap, ◌∙◌, arith, inl, inr}
use Rattle.std.specs.Char.{digit_value}
use Rattle.std.specs.Fmt.{digit_glyph}
use Rattle.std.specs.List.{AllByRecursion}
use Rattle.std.proofs.lemmas.Bool.Decides.{nat_tests}
use Rattle.x509_name.specs.Escapes.{Item, Plain, Special, Pair, IsItem, item_text, item_byte, Unescapes, is_special, is_control, is_always_escaped, is_empty, item_of, further_items, items_of, escaped}

pub bool_tells : (b : Bool) → (b ≡ true) ⊎ (b ≡ false)
bool_tells true = inl refl
bool_tells false = inr refl

pub glyph_value : (digit : ℕ) → digit < 16 → digit_value (digit_glyph false digit) ≡ digit
glyph_value digit h = grind (arith, nat_tests)

pub space_special : (byte : ℕ) (is_last : Bool) → (eqb byte 32 && is_last) ≡ true → is_special byte ≡ true
space_special byte is_last h = grind (arith, nat_tests)

pub front_special : (byte : ℕ) → (eqb byte 32 || eqb byte 35) ≡ true → is_special byte ≡ true
front_special byte h = grind (arith, nat_tests)

always_special : (byte : ℕ) → is_always_escaped byte ≡ true → is_special byte ≡ true
always_special byte h = grind (arith, nat_tests)

control_small : (byte : ℕ) → is_control byte ≡ true → byte < 128
control_small byte h = grind (arith, nat_tests)

always_backslash : (byte : ℕ) → is_always_escaped byte ≡ false → byte ≢ 92
always_backslash byte h = λ e. absurd (let k = rw e at h in cc)

pub or_tells : (a b : Bool) → (a || b) ≡ true → (a ≡ true) ⊎ (b ≡ true)
or_tells true b h = inl refl
or_tells false b h = inr h

pub or_false : (a b : Bool) → (a || b) ≡ false → (a ≡ false) × (b ≡ false)
or_false true b h = absurd cc
or_false false b h = (refl, h)

-- which item is printed
pub data Prints (byte : ℕ) (by_its_place : Bool) (item : Item) : Type 0 where
  as_pair : is_control byte ≡ true → item ≡ Pair (digit_glyph false (byte / 16)) (digit_glyph false (byte % 16)) → Prints byte by_its_place item
  as_special : (is_always_escaped byte ≡ true) ⊎ (by_its_place ≡ true) → item ≡ Special byte → Prints byte by_its_place item
  as_plain : is_always_escaped byte ≡ false → by_its_place ≡ false → item ≡ Plain byte → Prints byte by_its_place item

pub prints : (byte : ℕ) (by_its_place : Bool) → Prints byte by_its_place (item_of by_its_place byte)
prints byte by_its_place =
    elim (bool_tells (is_control byte)) [
      | inl t ↦ as_pair t (rw t refl)
      | inr f ↦ elim (bool_tells (is_always_escaped byte || by_its_place)) [
        | inl u ↦ as_special (or_tells (is_always_escaped byte) by_its_place u) (rw (f, u) refl)
        | inr g ↦ let h = or_false (is_always_escaped byte) by_its_place g in as_plain h.0 h.1 (rw (f, g) refl)
      ]
    ]

pub record IsItemOf (byte : ℕ) (item : Item) : Type 0 where
  pub is : IsItem item
  pub gives : item_byte item ≡ byte

pair_is : (byte : ℕ) → byte < 128 → IsItemOf byte (Pair (digit_glyph false (byte / 16)) (digit_glyph false (byte % 16)))
pair_is byte h =
    let high = glyph_value (byte / 16) (omega arith) in
    let low = glyph_value (byte % 16) (omega arith) in
    record { is = (rw high (grind (arith, nat_tests)), rw low (grind (arith, nat_tests))); gives = rw (high, low) (omega arith) }

item_is : (byte : ℕ) (by_its_place : Bool) (item : Item) → (by_its_place ≡ true → is_special byte ≡ true) → Prints byte by_its_place item → IsItemOf byte item
item_is byte by_its_place item special (as_pair t e) = rw e (pair_is byte (control_small byte t))
item_is byte by_its_place item special (as_special (inl a) e) = rw e (record { is = always_special byte a; gives = refl })
item_is byte by_its_place item special (as_special (inr t) e) = rw e (record { is = special t; gives = refl })
item_is byte by_its_place item special (as_plain a t e) = rw e (record { is = always_backslash byte a; gives = refl })

pub of_item : (byte : ℕ) (by_its_place : Bool) → (by_its_place ≡ true → is_special byte ≡ true) → IsItemOf byte (item_of by_its_place byte)
of_item byte by_its_place special = item_is byte by_its_place (item_of by_its_place byte) special (prints byte by_its_place)

pub record AreItemsOf (content : List ℕ) (items : List Item) : Type 0 where
  pub are : AllByRecursion IsItem items
  pub bytes : map item_byte items ≡ content

AreItemsOf-cons : (byte : ℕ) (item : Item) (bytes : List ℕ) (items : List Item) → IsItemOf byte item → AreItemsOf bytes items → AreItemsOf (byte ∷ bytes) (item ∷ items)
AreItemsOf-cons byte item bytes items p q = record { are = (p.is, q.are); bytes = λ i. p.gives i ∷ q.bytes i }

no_items : AreItemsOf [] []
no_items = record { are = tt; bytes = refl }

further_are : (bytes : List ℕ) → AreItemsOf bytes (further_items bytes)
further_are [] = no_items
further_are (byte ∷ bytes) = AreItemsOf-cons byte _ bytes (further_items bytes) (of_item byte _ (space_special byte (is_empty bytes))) (further_are bytes)

items_are : (bytes : List ℕ) → AreItemsOf bytes (items_of bytes)
items_are [] = no_items
items_are (byte ∷ bytes) = AreItemsOf-cons byte _ bytes (further_items bytes) (of_item byte _ (front_special byte)) (further_are bytes)

pub escaped_again : (bytes : List ℕ) → Unescapes (escaped bytes) bytes
unfolding escaped
escaped_again bytes = let h = items_are bytes in (items_of bytes, h.are, refl, sym h.bytes)

heads : (a byte : ℕ) (x y : List ℕ) → a ∷ x ≡ byte ∷ y → a ≡ byte
heads a byte x y e = cc

front_item : (item : Item) (rest more : List ℕ) → item_text item ++ rest ≡ 35 ∷ more → item ≡ Plain 35
front_item (Plain byte) rest more e = ap Plain (heads byte 35 rest more e)
front_item (Special byte) rest more e = absurd (let h = heads 92 35 (byte ∷ rest) more e in omega arith)
front_item (Pair high low) rest more e = absurd (let h = heads 92 35 (high ∷ low ∷ rest) more e in omega arith)

abbrev is_escaped_in_front : ℕ → Bool
is_escaped_in_front byte = eqb byte 32 || eqb byte 35

pub escaped_front : (bytes rest : List ℕ) → escaped bytes ≢ 35 ∷ rest
unfolding escaped
escaped_front [] rest e = absurd cc
escaped_front (byte ∷ bytes) rest e =
    let item = front_item (item_of (is_escaped_in_front byte) byte) _ rest e in
    let byte : byte ≡ 35 = sym (of_item byte (is_escaped_in_front byte) (front_special byte)).gives ∙ ap item_byte item in
    absurd (let h : item_of (is_escaped_in_front 35) 35 ≡ Plain 35 = rw byte at item in cc)
