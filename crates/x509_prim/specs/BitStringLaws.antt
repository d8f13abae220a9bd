-- The contents of bit strings are read as they are written.
use Rattle.std.proofs.Common.{◌≡◌, ℕ, true, List, [], ◌∷◌, Ok, Err, refl, sym, ap, subst, inl, inr}
use Rattle.x509_der.specs.declared.error.ErrorKind.{ErrorKind}
use Rattle.x509_der.specs.declared.error.ErrorKind.TheVariants.{Malformed}
use Rattle.x509_der.specs.declared.tag.Tag.TheVariants as tags
use Rattle.x509_der.specs.Form.{IsForm, IsContents}
use Rattle.x509_der.specs.FormLaws.{universal_lawful}
use Rattle.x509_der.specs.OutcomeLaws.{ok_is, test_ok, test_err}
use Rattle.x509_prim.specs.BitString.{BitParts, parts_of, is_padded, bit_string_reading, bit_string_contents, bit_string}
use Rattle.x509_der.specs.Writing.{plain, writes}
use Rattle.x509_der.specs.Order.{IsOrder}
use Rattle.x509_der.specs.Ordered.{by_bytes, by_bytes_lawful}

bit_string_sound : (bytes : List ℕ) (parts : BitParts) → bit_string_reading bytes ≡ Ok parts → (is_padded parts ≡ true) × (bytes ≡ parts.unused ∷ parts.octets)
unfolding bit_string_reading
bit_string_sound [] parts e = absurd cc
bit_string_sound (unused ∷ octets) parts e =
    let read : BitParts = parts_of unused octets in
    let t = test_ok (is_padded read) Malformed (Ok read) parts e in
    subst (λ (p : BitParts). (is_padded p ≡ true) × (unused ∷ octets ≡ p.unused ∷ p.octets)) (ok_is read parts t.1) (t.0, refl)

bit_string_complete : (parts : BitParts) → is_padded parts ≡ true → bit_string_reading (parts.unused ∷ parts.octets) ≡ Ok parts
unfolding bit_string_reading
bit_string_complete parts good = rw good refl

bit_string_refused : (bytes : List ℕ) (e : ErrorKind) → bit_string_reading bytes ≡ Err e → e ≡ Malformed
unfolding bit_string_reading
bit_string_refused [] e h = cc
bit_string_refused (unused ∷ octets) e h =
    let read : BitParts = parts_of unused octets in
    elim (test_err (is_padded read) Malformed (Ok read) e h) [ inl j ↦ absurd (let k = j in cc) | inr j ↦ sym j ]

pub bit_string_contents_lawful : {R : ErrorKind → Type 0} → IsContents R bit_string_contents
bit_string_contents_lawful = record { sound = bit_string_sound; complete = bit_string_complete; refused = λ bytes e r. inl (bit_string_refused bytes e r) }

pub bit_string_lawful : {R : ErrorKind → Type 0} → IsForm R bit_string
bit_string_lawful = universal_lawful tags.BitString bit_string_contents bit_string_contents_lawful

-- no two bit strings share a content
pub one_bit_string : (x y : BitParts) → x.unused ∷ x.octets ≡ y.unused ∷ y.octets → x ≡ y
one_bit_string x y e =
    let first : x.unused ≡ y.unused = ap head e in
    let others : x.octets ≡ y.octets = ap tail e in
    λ i. record { unused = first i; octets = others i }
  where
    head : List ℕ → ℕ
    head [] = 0
    head (octet ∷ octets) = octet

    tail : List ℕ → List ℕ
    tail [] = []
    tail (octet ∷ octets) = octets

pub bit_string_ordered : IsOrder bit_string (writes plain) (by_bytes bit_string)
bit_string_ordered = by_bytes_lawful bit_string (writes plain) (λ x y p q. one_bit_string x y q)
