-- The reader of escapes answers exactly what a text stands for.
use Rattle.std.proofs.Common.{◌+◌, ◌<◌, ◌≤◌, length, get_or, subst, add-one, drop-cons, ◌≡◌, ◌≢◌, ℕ, true, false, eqb, List, [], ◌∷◌, ◌++◌, map, drop, Option, Some, None, refl, sym, ap, ◌∙◌, append_assoc, append-nil, arith, inl, inr}
use Rattle.std.specs.List.{AllByRecursion, flat_map, list_any}
use Rattle.std.proofs.lemmas.Bool.{ne_eqb}
use Rattle.std.proofs.lemmas.List.{drop_all}
use Rattle.std.proofs.lemmas.Bool.Decides.{nat_tests, eqb_tells}
use Rattle.x509_name.proofs.Printed.{bool_tells, or_false}
use Rattle.x509_name.specs.Escapes.{Item, Plain, Special, Pair, IsItem, item_text, item_byte, Unescapes, is_special, is_hex}
use Rattle.x509_name.specs.Reading.{IsPosition, step, with_front, at_end, after, reading}
use Rattle.x509_name.specs.declared.text.escapes.Position.{Position}
use Rattle.x509_name.specs.declared.text.escapes.Position.TheVariants.{Between, Escape, Digit}
use Rattle.x509_name.specs.declared.text.escapes.Turn.TheVariants.{On, Gives, Fails}

pub hex_not_special : (byte : ℕ) → is_hex byte ≡ true → is_special byte ≡ false
hex_not_special byte h = grind (arith, nat_tests)

-- an item in front
pub Unescapes-cons : (item : Item) (text bytes : List ℕ) → IsItem item → Unescapes text bytes → Unescapes (item_text item ++ text) (item_byte item ∷ bytes)
Unescapes-cons item text bytes is rest =
    (item ∷ rest.0, (is, rest.1), ap (λ (t : List ℕ). item_text item ++ t) rest.2, ap (λ (t : List ℕ). item_byte item ∷ t) rest.3)

front_some : (byte : ℕ) (read : Option (List ℕ)) (bytes : List ℕ) → with_front (byte ∷ []) read ≡ Some bytes → (more : List ℕ) × (read ≡ Some more) × (bytes ≡ byte ∷ more)
front_some byte None bytes e = absurd cc
front_some byte (Some more) bytes e = (more, refl, cc)

-- the bytes of the item that is begun
abbrev begun : Position → List ℕ
begun Between = []
begun Escape = 92 ∷ []
begun (Digit high) = 92 ∷ high ∷ []

sound_from : (text : List ℕ) (position : Position) (bytes : List ℕ) → IsPosition position → reading text position ≡ Some bytes → Unescapes (begun position ++ text) bytes
unfolding reading
sound_from [] Between bytes is e = ([], tt, refl, cc)
sound_from [] Escape bytes is e = absurd cc
sound_from [] (Digit high) bytes is e = absurd cc
sound_from (byte ∷ text) Between bytes is e =
    elim (eqb_tells byte 92) [
      | inl t ↦ rw t.1 (sound_from text Escape bytes tt (rw t.0 at e))
      | inr f ↦
          let more = front_some byte (reading text Between) bytes (rw f.0 at e) in
          rw more.2 (Unescapes-cons (Plain byte) text more.0 f.1 (sound_from text Between more.0 tt more.1))
    ]
sound_from (byte ∷ text) Escape bytes is e =
    elim (bool_tells (is_special byte)) [
      | inl t ↦
          let more = front_some byte (reading text Between) bytes (rw t at e) in
          rw more.2 (Unescapes-cons (Special byte) text more.0 t (sound_from text Between more.0 tt more.1))
      | inr f ↦ elim (bool_tells (is_hex byte)) [
        | inl t ↦ sound_from text (Digit byte) bytes t (rw (f, t) at e)
        | inr g ↦ absurd (let h = rw (f, g) at e in cc)
      ]
    ]
sound_from (byte ∷ text) (Digit high) bytes is e =
    elim (bool_tells (is_hex byte)) [
      | inl t ↦
          let more = front_some (item_byte (Pair high byte)) (reading text Between) bytes (rw t at e) in
          rw more.2 (Unescapes-cons (Pair high byte) text more.0 (is, t) (sound_from text Between more.0 tt more.1))
      | inr f ↦ absurd (let h = rw f at e in cc)
    ]

complete_items : (items : List Item) → AllByRecursion IsItem items → reading (flat_map item_text items) Between ≡ Some (map item_byte items)
unfolding reading
complete_items [] each = refl
complete_items (Plain byte ∷ items) each = rw (ne_eqb byte 92 each.0, complete_items items each.1) refl
complete_items (Special byte ∷ items) each = rw (each.0, complete_items items each.1) refl
complete_items (Pair high low ∷ items) each = rw (hex_not_special high each.0.0, each.0.0, each.0.1, complete_items items each.1) refl

pub sound : (text bytes : List ℕ) → reading text Between ≡ Some bytes → Unescapes text bytes
sound text bytes e = sound_from text Between bytes tt e

pub complete : (text bytes : List ℕ) → Unescapes text bytes → reading text Between ≡ Some bytes
complete text bytes u = ap (λ (t : List ℕ). reading t Between) u.2 ∙ complete_items u.0 u.1 ∙ ap (λ (t : List ℕ). Some t) (sym u.3)

-- a text stands for at most one list of bytes
pub one_reading : (text a b : List ℕ) → Unescapes text a → Unescapes text b → a ≡ b
one_reading text a b p q = let e : Some a ≡ Some b = sym (complete text a p) ∙ complete text b q in cc

-- a text without a backslash stands for itself
pub no_escape : (text : List ℕ) → list_any (λ byte. eqb byte 92) text ≡ false → Unescapes text text
no_escape [] none = ([], tt, refl, refl)
no_escape (byte ∷ text) none =
    let parts = or_false (eqb byte 92) (list_any (λ b. eqb b 92) text) none in
    Unescapes-cons (Plain byte) text text (λ e. absurd (let h = rw e at parts.0 in cc)) (no_escape text parts.1)

-- ---- the loop

pub turned : (text : List ℕ) (i : ℕ) (position : Position) → i < length text → reading (drop i text) position ≡ after (step position (get_or text i 0)) (reading (drop (i + 1) text))
unfolding reading
turned text i position below = rw (add-one, drop-cons text i 0) refl

on_is : (a b : Position) → On a ≡ On b → a ≡ b
on_is a b e = cc

pub on_position : (position next : Position) (byte : ℕ) → IsPosition position → On next ≡ step position byte → IsPosition next
on_position Between next byte is e = elim (bool_tells (eqb byte 92)) [ inl t ↦ let h = rw t at e in subst IsPosition (sym (on_is next Escape h)) tt | inr f ↦ absurd (let h = rw f at e in cc) ]
on_position Escape next byte is e =
    elim (bool_tells (is_special byte)) [
      | inl t ↦ absurd (let h = rw t at e in cc)
      | inr f ↦ elim (bool_tells (is_hex byte)) [
        | inl t ↦ let h = rw (f, t) at e in subst IsPosition (sym (on_is next (Digit byte) h)) t
        | inr g ↦ absurd (let h = rw (f, g) at e in cc)
      ]
    ]
on_position (Digit high) next byte is e = elim (bool_tells (is_hex byte)) [ inl t ↦ absurd (let h = rw t at e in cc) | inr f ↦ absurd (let h = rw f at e in cc) ]

pub keep_on : (text front : List ℕ) (i byte : ℕ) (position next : Position) → i < length text → byte ≡ get_or text i 0 → On next ≡ step position byte
    → with_front front (reading (drop i text) position) ≡ reading text Between → with_front front (reading (drop (i + 1) text) next) ≡ reading text Between
keep_on text front i byte position next below is e so_far =
    ap (λ t. with_front front (after t (reading (drop (i + 1) text)))) (e ∙ ap (step position) is) ∙ ap (with_front front) (sym (turned text i position below)) ∙ so_far

front_twice : (front : List ℕ) (byte : ℕ) (read : Option (List ℕ)) → with_front (front ++ byte ∷ []) read ≡ with_front front (with_front (byte ∷ []) read)
front_twice front byte None = refl
front_twice front byte (Some bytes) = ap (λ (t : List ℕ). Some t) (append_assoc front (byte ∷ []) bytes)

pub keep_gives : (text front : List ℕ) (i byte : ℕ) (position : Position) (given : ℕ) → i < length text → byte ≡ get_or text i 0 → Gives given ≡ step position byte
    → with_front front (reading (drop i text) position) ≡ reading text Between → with_front (front ++ given ∷ []) (reading (drop (i + 1) text) Between) ≡ reading text Between
keep_gives text front i byte position given below is e so_far =
    front_twice front given (reading (drop (i + 1) text) Between)
    ∙ ap (λ t. with_front front (after t (reading (drop (i + 1) text)))) (e ∙ ap (step position) is) ∙ ap (with_front front) (sym (turned text i position below)) ∙ so_far

-- a text that gives nothing stands for nothing
nothing : (text bytes : List ℕ) → None ≡ reading text Between → Unescapes text bytes → ⊥
nothing text bytes e u = let h : None ≡ Some bytes = e ∙ complete text bytes u in cc

pub fails : (text front : List ℕ) (i byte : ℕ) (position : Position) → i < length text → byte ≡ get_or text i 0 → Fails ≡ step position byte
    → with_front front (reading (drop i text) position) ≡ reading text Between → (bytes : List ℕ) → Unescapes text bytes → ⊥
fails text front i byte position below is e so_far bytes =
    nothing text bytes (ap (λ t. with_front front (after t (reading (drop (i + 1) text)))) (e ∙ ap (step position) is) ∙ ap (with_front front) (sym (turned text i position below)) ∙ so_far)

pub at_the_end : (text front : List ℕ) (i : ℕ) (position : Position) → i ≤ length text → length text ≤ i
    → with_front front (reading (drop i text) position) ≡ reading text Between → with_front front (at_end position) ≡ reading text Between
unfolding reading
at_the_end text front i position le ge so_far = ap (λ t. with_front front (reading t position)) (sym (drop_all i text ge)) ∙ so_far

pub ends_between : (text front : List ℕ) → with_front front (at_end Between) ≡ reading text Between → Unescapes text front
ends_between text front e = sound text front (sym e ∙ ap (λ (t : List ℕ). Some t) (append-nil front))

pub ends_within : (text front : List ℕ) (position : Position) → position ≢ Between → with_front front (at_end position) ≡ reading text Between → (bytes : List ℕ) → Unescapes text bytes → ⊥
ends_within text front Between ne e bytes u = ne refl
ends_within text front Escape ne e bytes u = nothing text bytes e u
ends_within text front (Digit high) ne e bytes u = nothing text bytes e u
