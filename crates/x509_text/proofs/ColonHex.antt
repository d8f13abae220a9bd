-- Octets in hex, each with a colon behind it, but for the last.
use Rattle.std.proofs.Common.{◌≡◌, ◌≤◌, ◌<◌, ◌+◌, ◌-◌, ◌*◌, ◌/◌, ◌%◌, ℕ, suc, true, Fits, w8, List, [], ◌∷◌, ◌++◌, length, get_or, take, take_all, refl, sym, ap, ap₂, ◌∙◌, arith}
use Rattle.std.specs.Fmt.{digit_glyph}
use Rattle.std.specs.List.{flat_map}
use Rattle.std.specs.Prelude.{slice_index, slice_set}
use Rattle.std.specs.Str.{IsAscii, IsUtf8}
use Rattle.std.proofs.lemmas.Bool.Decides.{nat_tests}
use Rattle.std.proofs.lemmas.Grind.{flat_map-append}
use Rattle.std.proofs.lemmas.List.{append_assoc, take_more, take_more_set, length-set}
use Rattle.std.proofs.lemmas.Str.Ascii.{IsAscii-nil, IsAscii-cons}
use Rattle.std.proofs.lemmas.Str.{IsAscii-take, IsUtf8-from_ascii}
use Rattle.hex.proofs.Pairs.{take-two_writes}
use Rattle.x509_base.specs.Serial.{hex_octet, colon_hex}
use Rattle.x509_text.specs.ColonHex.{octet_colon}

pub none_in_hex : (octets : List ℕ) → length octets < 1 → [] ≡ colon_hex octets
unfolding colon_hex
none_in_hex [] none = refl
none_in_hex (octet ∷ octets) none = absurd (omega arith)

-- ---- one octet more

pub fill_step : (octets digits : List ℕ) (i x y : ℕ) → i < length octets → 3 * i + 2 < length digits
    → x ≡ digit_glyph true (slice_index octets i / 16) → y ≡ digit_glyph true (slice_index octets i % 16)
    → take (3 * i) digits ≡ flat_map octet_colon (take i octets)
    → take (3 * (i + 1)) (slice_set (slice_set (slice_set digits (3 * i) x) (3 * i + 1) y) (3 * i + 2) 58) ≡ flat_map octet_colon (take (i + 1) octets)
fill_step octets digits i x y within fits high low so_far =
    let three : 3 * (i + 1) ≡ 3 * i + 2 + 1 = omega arith in
    let two : List ℕ = slice_set (slice_set digits (3 * i) x) (3 * i + 1) y in
    let room : 3 * i + 2 < length two = omega (arith, length-set (slice_set digits (3 * i) x) (3 * i + 1) y, length-set digits (3 * i) x) in
    ap (λ (n : ℕ). take n (slice_set two (3 * i + 2) 58)) three
    ∙ take_more_set two (3 * i + 2) 58 room
    ∙ ap (λ (t : List ℕ). t ++ 58 ∷ []) (take-two_writes digits (3 * i) x y (omega arith))
    ∙ append_assoc (take (3 * i) digits) (x ∷ y ∷ []) (58 ∷ [])
    ∙ ap₂ (λ (t o : List ℕ). t ++ o) so_far (ap₂ (λ (a b : ℕ). a ∷ b ∷ 58 ∷ []) high low)
    ∙ sym (flat_map-append octet_colon (take i octets) (slice_index octets i ∷ []))
    ∙ ap (flat_map octet_colon) (sym (take_more octets i 0 within))

pub fill_done : (octets digits : List ℕ) (i : ℕ) → length octets ≤ i → length digits ≡ 3 * length octets
    → take (3 * i) digits ≡ flat_map octet_colon (take i octets) → digits ≡ flat_map octet_colon octets
fill_done octets digits i all size so_far =
    let digits_all : take (3 * i) digits ≡ digits = take_all (3 * i) digits (omega arith) in
    let octets_all : take i octets ≡ octets = take_all i octets all in
    sym digits_all ∙ so_far ∙ ap (flat_map octet_colon) octets_all

-- ---- all but the last colon

pub all_in_hex : (octets : List ℕ) → 1 ≤ length octets → take (3 * length octets - 1) (flat_map octet_colon octets) ≡ colon_hex octets
unfolding colon_hex
all_in_hex [] some = absurd (omega arith)
all_in_hex (octet ∷ []) some = refl
all_in_hex (octet ∷ next ∷ octets) some =
    let more : 3 * length (octet ∷ next ∷ octets) - 1 ≡ suc (suc (suc (3 * length (next ∷ octets) - 1))) = omega arith in
    rw more (ap (λ (text : List ℕ). hex_octet octet ++ 58 ∷ text) (all_in_hex (next ∷ octets) (omega arith)))

-- ---- ASCII

glyph_ascii : (digit : ℕ) → digit < 16 → digit_glyph true digit < 128
glyph_ascii digit small = grind (arith, nat_tests)

pub octets_ascii : (octets : List ℕ) → ((k : ℕ) → Fits w8 (get_or octets k 0)) → IsAscii (flat_map octet_colon octets)
octets_ascii [] fits = IsAscii-nil
octets_ascii (octet ∷ octets) fits =
    let small : octet < 256 = (fits 0).fits in
    let rest : List ℕ = flat_map octet_colon octets in
    IsAscii-cons (digit_glyph true (octet / 16)) (digit_glyph true (octet % 16) ∷ 58 ∷ rest) (glyph_ascii (octet / 16) (omega arith))
    (IsAscii-cons (digit_glyph true (octet % 16)) (58 ∷ rest) (glyph_ascii (octet % 16) (omega arith))
    (IsAscii-cons 58 rest (omega arith) (octets_ascii octets (λ k. fits (suc k)))))

-- ---- the text

module _ (octets digits items : List ℕ) (len : ℕ) (size : len ≡ 3 * length octets) (filled : digits ≡ flat_map octet_colon octets) (cut : items ≡ take (len - 1) digits) where
  pub text_in_hex : 1 ≤ length octets → items ≡ colon_hex octets
  text_in_hex some = cut ∙ rw (size, filled) (all_in_hex octets some)

  pub text_utf8 : ((k : ℕ) → Fits w8 (get_or octets k 0)) → IsUtf8 items
  text_utf8 fits = rw (cut, filled) (IsUtf8-from_ascii _ (IsAscii-take (flat_map octet_colon octets) (len - 1) (octets_ascii octets fits)))
