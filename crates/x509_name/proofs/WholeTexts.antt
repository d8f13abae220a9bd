-- Texts with no separator outside an escape and no escape left open, which stay whole when they are joined.
use Rattle.std.proofs.Common.{◌<◌, ◌≡◌, ◌≢◌, ℕ, Bool, true, false, List, [], ◌∷◌, ◌++◌, length, Some, flat_map, refl, sym, ◌∙◌, arith}
use Rattle.std.specs.List.{AllByRecursion, join_with_byte}
use Rattle.std.proofs.lemmas.Bool.{ne_eqb}
use Rattle.x509_name.specs.Escapes.{Item, Plain, Special, Pair, IsItem, item_text, is_hex, is_special, is_empty, is_always_escaped, item_of, further_items, escaped}
use Rattle.x509_name.specs.Parts.{Joined}
use Rattle.x509_name.specs.Cutting.{passes}
use Rattle.x509_name.proofs.Cuts.{CutsFrom, passes-append, keeps_of, even_of}
use Rattle.x509_name.proofs.Printed.{Prints, as_pair, as_special, as_plain, prints, of_item, space_special, front_special}

-- ---- what is whole, and what joins

abbrev pub Whole : ℕ → List ℕ → Type 0
Whole separator text = passes separator text false ≡ Some false

pub Whole-append : (separator : ℕ) (front back : List ℕ) → Whole separator front → Whole separator back → Whole separator (front ++ back)
Whole-append separator front back p q = passes-append separator front back false false p ∙ q

pub Whole-byte : (separator byte : ℕ) → byte ≢ separator → byte ≢ 92 → Whole separator (byte ∷ [])
Whole-byte separator byte h k = rw (ne_eqb byte separator h, ne_eqb byte 92 k) refl

-- a text with neither the separator nor a backslash
pub Whole-plain : (separator : ℕ) (text : List ℕ) → AllByRecursion (λ byte. (byte ≢ separator) × (byte ≢ 92)) text → Whole separator text
Whole-plain separator [] each = refl
Whole-plain separator (byte ∷ text) each = Whole-append separator (byte ∷ []) text (Whole-byte separator byte each.0.0 each.0.1) (Whole-plain separator text each.1)

-- whole texts with another separator between
pub Whole-join : (separator other : ℕ) (parts : List (List ℕ)) → other ≢ separator → other ≢ 92 → AllByRecursion (Whole separator) parts → Whole separator (join_with_byte other parts)
Whole-join separator other [] h k each = refl
Whole-join separator other (part ∷ []) h k each = each.0
Whole-join separator other (part ∷ next ∷ parts) h k each =
    Whole-append separator part (other ∷ join_with_byte other (next ∷ parts)) each.0
    (Whole-append separator (other ∷ []) (join_with_byte other (next ∷ parts)) (Whole-byte separator other h k) (Whole-join separator other (next ∷ parts) h k each.1))

whole_cuts : (separator : ℕ) (parts : List (List ℕ)) → 0 < length parts → AllByRecursion (Whole separator) parts → CutsFrom separator false parts
whole_cuts separator [] some each = absurd (omega arith)
whole_cuts separator (part ∷ []) some each = (false, each.0)
whole_cuts separator (part ∷ next ∷ parts) some each = (each.0, whole_cuts separator (next ∷ parts) (omega arith) each.1)

-- whole texts, joined, are joined of themselves
pub join_whole : (separator : ℕ) (parts : List (List ℕ)) → 0 < length parts → AllByRecursion (Whole separator) parts → Joined separator parts (join_with_byte separator parts)
join_whole separator parts some each =
    let h = whole_cuts separator parts some each in
    record { some = some; joined = refl; keep = keeps_of separator parts h; even = even_of separator parts h }

-- ---- what is printed of bytes is whole

pub record IsSeparator (separator : ℕ) : Type 0 where
  pub always : is_always_escaped separator ≡ true
  pub no_digit : is_hex separator ≡ false
  pub not_backslash : separator ≢ 92

pub plus : IsSeparator 43
plus = record { always = refl; no_digit = refl; not_backslash = λ e. omega arith }

pub comma : IsSeparator 44
comma = record { always = refl; no_digit = refl; not_backslash = λ e. omega arith }

hex_apart : (byte other : ℕ) → is_hex byte ≡ true → is_hex other ≡ false → byte ≢ other
hex_apart byte other h k e = absurd (let l = rw e at h in cc)

-- an item that isn't the separator itself
IsApart : ℕ → Item → Type 0
IsApart separator (Plain byte) = byte ≢ separator
IsApart separator (Special byte) = Unit {0}
IsApart separator (Pair high low) = Unit {0}

whole_escape : (separator byte : ℕ) → IsSeparator separator → Whole separator (92 ∷ byte ∷ [])
whole_escape separator byte s = let ne : 92 ≢ separator = λ e. s.not_backslash (sym e) in rw (ne_eqb 92 separator ne) refl

whole_item : (separator : ℕ) (item : Item) → IsSeparator separator → IsItem item → IsApart separator item → Whole separator (item_text item)
unfolding IsApart
whole_item separator (Plain byte) s is apart = Whole-byte separator byte apart is
whole_item separator (Special byte) s is apart = whole_escape separator byte s
whole_item separator (Pair high low) s is apart =
    Whole-append separator (92 ∷ high ∷ []) (low ∷ []) (whole_escape separator high s)
    (Whole-byte separator low (hex_apart low separator is.1 s.no_digit) (hex_apart low 92 is.1 refl))

apart : (separator byte : ℕ) (by_its_place : Bool) (item : Item) → IsSeparator separator → Prints byte by_its_place item → IsApart separator item
unfolding IsApart
apart separator byte by_its_place item s (as_pair t e) = rw e tt
apart separator byte by_its_place item s (as_special t e) = rw e tt
apart separator byte by_its_place item s (as_plain a t e) = rw e (λ (is : byte ≡ separator). absurd (let k = rw is at a in let l = s.always in cc))

whole_of : (separator byte : ℕ) (by_its_place : Bool) → IsSeparator separator → (by_its_place ≡ true → is_special byte ≡ true) → Whole separator (item_text (item_of by_its_place byte))
whole_of separator byte by_its_place s special = whole_item separator (item_of by_its_place byte) s (of_item byte by_its_place special).is (apart separator byte by_its_place (item_of by_its_place byte) s (prints byte by_its_place))

whole_further : (separator : ℕ) (bytes : List ℕ) → IsSeparator separator → Whole separator (flat_map item_text (further_items bytes))
whole_further separator [] s = refl
whole_further separator (byte ∷ bytes) s = Whole-append separator _ _ (whole_of separator byte _ s (space_special byte (is_empty bytes))) (whole_further separator bytes s)

pub whole_escaped : (separator : ℕ) (bytes : List ℕ) → IsSeparator separator → Whole separator (escaped bytes)
unfolding escaped
whole_escaped separator [] s = refl
whole_escaped separator (byte ∷ bytes) s = Whole-append separator _ _ (whole_of separator byte _ s (front_special byte)) (whole_further separator bytes s)
