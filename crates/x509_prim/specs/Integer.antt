-- INTEGER: a whole number as a two's complement number in octets, as few as there can be (X.690 8.3).
use Rattle.std.specs.Prelude.{ℕ, ◌+◌, ◌-◌, ◌*◌, Bool, true, false, ◌&&◌, not, nat_eq, nat_lt, nat_le, List, [], ◌∷◌, ℤ, pos, negsuc, map, fold, Option, Some, None, if◌then◌else◌}
use Rattle.x509_der.specs.declared.tag.Tag.TheVariants as tags
use Rattle.x509_der.specs.Form.{Form, Contents, universal}
use Rattle.x509_der.specs.Tested.{tested_contents}

-- ---- contents

-- One octet or more. Where there are more, the first octet and bit 8 of the second are neither all zeros nor all ones
-- (X.690 8.3.1, 8.3.2).
unfoldable pub is_integer : List ℕ → Bool
is_integer [] = false
is_integer (first ∷ []) = true
is_integer (first ∷ second ∷ octets) = not (nat_eq first 0x00 && nat_lt second 0x80) && not (nat_eq first 0xFF && nat_le 0x80 second)

-- the sign is bit 8 of the first octet (X.690 8.3.3)
abbrev pub is_negative : List ℕ → Bool
is_negative [] = false
is_negative (first ∷ octets) = nat_le 0x80 first

-- the content of a number that is not negative
unfoldable pub is_unsigned : List ℕ → Bool
is_unsigned octets = is_integer octets && not (is_negative octets)

-- a value is seen as its content octets
abbrev pub integer_contents : Contents (List ℕ)
integer_contents = tested_contents is_integer

abbrev pub unsigned_integer_contents : Contents (List ℕ)
unsigned_integer_contents = tested_contents is_unsigned

abbrev pub integer : Form (List ℕ)
integer = universal tags.Integer integer_contents

abbrev pub unsigned_integer : Form (List ℕ)
unsigned_integer = universal tags.Integer unsigned_integer_contents

-- ---- numbers

-- the number of octets as digits in base 256, the most significant first
abbrev pub number : List ℕ → ℕ
number octets = fold (λ high octet. 256 * high + octet) 0 octets

-- The whole number of a content (X.690 8.3.3): that of its octets where the sign is 0. Where it is 1, the two's complement
-- number is -1 less the number of the octets with each bit turned; negsuc n is -1 - n.
abbrev pub integer_value : List ℕ → ℤ
integer_value octets = if is_negative octets then negsuc (number (map (λ octet. 255 - octet) octets)) else pos (number octets)

-- the whole number where it is from 0 on and below the bound
abbrev pub natural_below : ℕ → ℤ → Option ℕ
natural_below bound (pos n) = if nat_lt n bound then Some n else None
natural_below bound (negsuc n) = None

-- ---- octets of a number that is not negative

-- without zeros in front, but with one octet at least
abbrev pub without_zeros : List ℕ → List ℕ
without_zeros [] = []
without_zeros (first ∷ []) = first ∷ []
without_zeros (first ∷ second ∷ octets) = if nat_eq first 0 then without_zeros (second ∷ octets) else first ∷ second ∷ octets

-- with a zero in front where the sign would be 1
abbrev pub with_sign : List ℕ → List ℕ
with_sign octets = if is_negative octets then 0x00 ∷ octets else octets
