-- An element: an identifier octet, the length octets and the content octets (X.690 8.1).
use Rattle.std.specs.Prelude.{ℕ, ◌/◌, ◌%◌, Bool, ◌&&◌, ◌||◌, not, nat_lt, nat_le, nat_eq, List, [], ◌∷◌, ◌++◌, length, if◌then◌else◌}

-- The length octets of a number (X.690 8.1.3, 10.1). A length below 128 is one octet. Any other is 128 + k and its k
-- digits in base 256, most significant first, as few as there can be. Here the fourth digit is the last that a length
-- within the limit wants; it takes all that is left, so that each number has length octets of its own.
unfoldable pub length_octets : ℕ → List ℕ
length_octets n =
    if nat_lt n 128 then n ∷ []
    else (if nat_lt n 256 then 129 ∷ n ∷ []
    else (if nat_lt n 65536 then 130 ∷ (n / 256) ∷ (n % 256) ∷ []
    else (if nat_lt n 16777216 then 131 ∷ (n / 65536) ∷ (n / 256 % 256) ∷ (n % 256) ∷ []
    else 132 ∷ (n / 16777216) ∷ (n / 65536 % 256) ∷ (n / 256 % 256) ∷ (n % 256) ∷ [])))

-- the identifier octet and the length octets of a content of n octets (X.690 8.1.2, 8.1.3)
abbrev pub header : ℕ → ℕ → List ℕ
header tag n = tag ∷ length_octets n

-- identifier, length and content, one after the other (X.690 8.1.1)
unfoldable pub element : ℕ → List ℕ → List ℕ
element tag content = tag ∷ (length_octets (length content) ++ content)

-- the most octets that an element has here (our own limit)
abbrev pub limit : ℕ
limit = 268435455

-- The identifier octets of the universal class that begin an element here: of the types of X.680 8.4 all up to number 30 but the
-- object descriptor, external, embedded and unrestricted character values and TIME; SEQUENCE and SET constructed, all others primitive.
unfoldable pub is_universal : ℕ → Bool
is_universal tag =
    (nat_le 1 tag && nat_le tag 6)
    || (nat_eq tag 9 || (nat_eq tag 10 || (nat_eq tag 12 || (nat_eq tag 13
    || ((nat_le 18 tag && nat_le tag 28) || (nat_eq tag 30 || (nat_eq tag 48 || nat_eq tag 49)))))))

-- The identifier octets that begin an element: the universal ones, and those of the other classes, whose low five bits
-- are a number of at most 30, so that no further identifier octets follow (X.690 8.1.2.2, 8.1.2.4).
unfoldable pub is_identifier : ℕ → Bool
is_identifier tag = is_universal tag || (nat_le 64 tag && (nat_lt tag 256 && not (nat_eq (tag % 32) 31)))
