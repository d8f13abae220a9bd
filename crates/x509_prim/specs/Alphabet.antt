-- The characters of the restricted character string types, each of which is one octet (X.680 41, X.690 8.23).
use Rattle.std.specs.Prelude.{◌≡◌, ℕ, ◌<◌, Bool, true, ◌&&◌, ◌||◌, nat_eq, nat_lt, nat_le, codes}
use Rattle.std.proofs.Common.{arith}
use Rattle.std.proofs.lemmas.Bool.Decides.{nat_tests}
use Rattle.std.specs.List.{list_any}

-- PrintableString: capital and small letters, digits, space and eleven marks (X.680 41.4, Table 10)
unfoldable pub is_printable : ℕ → Bool
is_printable char =
    (nat_le 0x41 char && nat_le char 0x5A) || ((nat_le 0x61 char && nat_le char 0x7A) || ((nat_le 0x30 char && nat_le char 0x39)
    || list_any (λ mark. nat_eq char mark) (codes " '()+,-./:=?")))

-- IA5String: the 128 characters of the International Reference Alphabet (X.680 41.1, Table 8)
unfoldable pub is_ia5 : ℕ → Bool
is_ia5 char = nat_lt char 0x80

-- VisibleString: the graphic characters of ISO 646 and the space (X.680 41.1, Table 8)
unfoldable pub is_visible : ℕ → Bool
is_visible char = nat_le 0x20 char && nat_le char 0x7E

pub printable_ascii : (char : ℕ) → is_printable char ≡ true → char < 0x80
unfolding is_printable
printable_ascii char h = grind (arith, nat_tests)

pub ia5_ascii : (char : ℕ) → is_ia5 char ≡ true → char < 0x80
unfolding is_ia5
ia5_ascii char h = grind (arith, nat_tests)

pub visible_ascii : (char : ℕ) → is_visible char ≡ true → char < 0x80
unfolding is_visible
visible_ascii char h = grind (arith, nat_tests)
