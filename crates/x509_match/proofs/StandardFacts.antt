-- Texts that RFC 4518 prepares, computed from the definitions.
use Rattle.std.proofs.Common.{◌≡◌, false, [], ◌∷◌, Some, None, codes, map, refl}
use Rattle.std.specs.Char.{to_ascii_lowercase}
use Rattle.x509_match.specs.Keys.{is_character, universal_characters}
use Rattle.x509_match.specs.Plain.{plain_behind}
use Rattle.x509_match.specs.Prepared.{is_kept, is_mark, mapped, spaced, squeezed}

-- spaces at the ends are dropped, runs of them are one, and case is folded (2.2, 2.6.1)
pub good_ca : plain_behind false false (codes "  Good   CA ") ≡ codes "good ca"
unfolding mapped is_kept spaced is_mark
good_ca = refl

-- a tab is a space, and a NUL is left out (2.2)
pub controls : mapped (0x41 ∷ 0x09 ∷ 0x00 ∷ 0x42 ∷ []) ≡ 0x41 ∷ 0x20 ∷ 0x42 ∷ []
unfolding mapped is_kept spaced
controls = refl

-- a soft hyphen, a zero width space and a variation selector are left out; an ideographic space is a space (2.2)
pub beyond_ascii : mapped (0xAD ∷ 0x200B ∷ 0xFE0F ∷ 0x3000 ∷ []) ≡ 0x20 ∷ []
unfolding mapped is_kept spaced
beyond_ascii = refl

-- a text of spaces has nothing left (2.6.1)
pub spaces_alone : squeezed (0x20 ∷ 0x20 ∷ []) ≡ []
unfolding squeezed is_mark
spaces_alone = refl

-- an emailAddress has no case (RFC 5280 4.1.2.6)
pub no_case : map to_ascii_lowercase (codes "Subscriber@Example.COM") ≡ map to_ascii_lowercase (codes "SUBSCRIBER@EXAMPLE.COM")
no_case = refl

-- a character in four octets, and a half of a surrogate pair (X.690 8.23.8)
pub one_in_four : universal_characters (0 ∷ 1 ∷ 0xF6 ∷ 0x00 ∷ []) ≡ Some (0x1F600 ∷ [])
unfolding is_character
one_in_four = refl

pub no_half : universal_characters (0 ∷ 0 ∷ 0xD8 ∷ 0x00 ∷ []) ≡ None
unfolding is_character
no_half = refl
