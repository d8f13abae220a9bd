-- The table of PrintableString's characters, by computation.
use Rattle.std.proofs.Common.{◌≡◌, ℕ, ◌/◌, ◌%◌, ◌^◌, ◌<◌, Bool, false, eqb, List, [], ◌∷◌, map, get_or, refl, sym, ap, ◌∙◌, arith, bit_and}
use Rattle.std.specs.List.{range_with_len}
use Rattle.std.proofs.lemmas.List.FromFn.{get_or-map-range_with_len}
use Rattle.x509_prim.specs.Alphabet.{is_printable}

-- the bit of an octet
abbrev pub has_bit : ℕ → Bool
has_bit octet = eqb (bit_and (get_or (12105670854864535552 ∷ 576460743847706622 ∷ 0 ∷ 0 ∷ []) (octet / 64) 0 / 2 ^ (octet % 64)) 1) 1

table_is : map has_bit (range_with_len 0 256) ≡ map is_printable (range_with_len 0 256)
unfolding is_printable
table_is = refl

pub bit_is_printable : (octet : ℕ) → octet < 256 → has_bit octet ≡ is_printable octet
bit_is_printable octet below =
    sym (get_or-map-range_with_len has_bit 0 256 octet octet false below (omega arith)) ∙ ap (λ (t : List Bool). get_or t octet false) table_is
    ∙ get_or-map-range_with_len is_printable 0 256 octet octet false below (omega arith)
