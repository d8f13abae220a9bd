-- The digits of octets.
use Rattle.std.proofs.Common.{◌≡◌, ◌<◌, ◌+◌, ◌/◌, ◌%◌, ℕ, true, List, get_or, take, append-nil, [], ◌∷◌, ◌++◌, length, refl, sym, ap, ◌∙◌, arith}
use Rattle.std.specs.Prelude.{slice_index, is_ok, OnOk, Result, Ok, Err}
use Rattle.std.specs.Str.{IsAscii}
use Rattle.std.specs.Char.{encode_utf8}
use Rattle.std.proofs.lemmas.List.{append_assoc, take_more}
use Rattle.std.proofs.lemmas.List.Elements.{All-from_recursion}
use Rattle.std.proofs.lemmas.Str.{encode_ascii}
use Rattle.std.proofs.lemmas.Str.Ascii.{IsAscii-from_all}
use Rattle.hex.specs.Hex.{encode_with, encode_lower, lower_digits}
use Rattle.x509_der.specs.Element.{element, header}

pub encode_with-append : (table front back : List ℕ) → encode_with table (front ++ back) ≡ encode_with table front ++ encode_with table back
unfolding encode_with
encode_with-append table [] back = refl
encode_with-append table (octet ∷ front) back = ap (λ (digits : List ℕ). slice_index table (octet / 16) ∷ slice_index table (octet % 16) ∷ digits) (encode_with-append table front back)

-- the digits of an element
pub encode_element : (tag : ℕ) (content : List ℕ) → encode_lower (header tag (length content)) ++ encode_lower content ≡ encode_lower (element tag content)
unfolding element
encode_element tag content = sym (encode_with-append lower_digits (header tag (length content)) content)

-- ---- one octet more

digits_ascii : IsAscii lower_digits
digits_ascii = IsAscii-from_all lower_digits (All-from_recursion (λ (char : ℕ). char < 128) lower_digits
    (omega arith, (omega arith, (omega arith, (omega arith, (omega arith, (omega arith, (omega arith, (omega arith, (omega arith, (omega arith, (omega arith, (omega arith, (omega arith, (omega arith, (omega arith, (omega arith, tt)))))))))))))))))

encode_digit : (number : ℕ) → encode_utf8 (slice_index lower_digits number) ≡ slice_index lower_digits number ∷ []
encode_digit number = encode_ascii (slice_index lower_digits number) (digits_ascii number)

two_digits : (octet : ℕ) → encode_utf8 (slice_index lower_digits (octet / 16)) ++ encode_utf8 (slice_index lower_digits (octet % 16)) ≡ encode_lower (octet ∷ [])
unfolding encode_with
two_digits octet = rw (encode_digit (octet / 16), encode_digit (octet % 16)) refl

pub one_more : (octets : List ℕ) (i : ℕ) → i < length octets
    → encode_lower (take i octets) ++ (encode_utf8 (slice_index lower_digits (get_or octets i 0 / 16)) ++ encode_utf8 (slice_index lower_digits (get_or octets i 0 % 16))) ≡ encode_lower (take (i + 1) octets)
one_more octets i lt =
    ap (λ (digits : List ℕ). encode_lower (take i octets) ++ digits) (two_digits (get_or octets i 0))
    ∙ sym (encode_with-append lower_digits (take i octets) (get_or octets i 0 ∷ []))
    ∙ ap encode_lower (sym (take_more octets i 0 lt))

-- ---- some octets more

pub some_more : (front written chunk others octets : List ℕ) → front ≡ chunk ++ others → written ++ encode_lower front ≡ encode_lower octets → (written ++ encode_lower chunk) ++ encode_lower others ≡ encode_lower octets
some_more front written chunk others octets cut so_far =
    append_assoc written (encode_lower chunk) (encode_lower others)
    ∙ ap (λ (digits : List ℕ). written ++ digits) (sym (encode_with-append lower_digits chunk others) ∙ ap encode_lower (sym cut))
    ∙ so_far

pub no_more : (rest written octets : List ℕ) → length rest ≡ 0 → written ++ encode_lower rest ≡ encode_lower octets → written ≡ encode_lower octets
unfolding encode_with
no_more [] written octets none so_far = sym (append-nil written) ∙ so_far
no_more (octet ∷ rest) written octets none so_far = absurd (omega arith)

pub none_yet : (octets : List ℕ) → [] ≡ encode_lower (take 0 octets)
unfolding encode_with
none_yet octets = refl

pub on_ok : {T E P : Type 0} (result : Result T E) → is_ok result ≡ true → OnOk result P → P
on_ok (Ok x) is h = h
on_ok (Err e) is h = absurd cc
