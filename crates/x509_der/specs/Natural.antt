-- INTEGER from 0 on (X.690 8.3).
use Rattle.std.specs.Prelude.{ℕ, zero, suc, ◌+◌, ◌*◌, ◌/◌, ◌%◌, ◌<◌, Bool, true, false, ◌&&◌, not, nat_eq, nat_lt, nat_le, List, [], ◌∷◌, ◌++◌, length, Result, Ok, Err, if◌then◌else◌}
use Rattle.x509_der.specs.declared.error.ErrorKind.{ErrorKind}
use Rattle.x509_der.specs.declared.error.ErrorKind.TheVariants.{Malformed}
use Rattle.x509_der.specs.declared.tag.Tag.TheVariants.{Integer}
use Rattle.x509_der.specs.Form.{Form, Contents, universal}

-- The number in base 256, most significant digit first, in as few octets as there can be where the first is below 128
-- (two's complement, X.690 8.3.2, 8.3.3): a number below 128 is one octet, and any other ends with its last digit
-- behind those of the rest. After k digits the first takes all that is left, so that each number has octets.
unfoldable pub digits : ℕ → ℕ → List ℕ
digits zero n = n ∷ []
digits (suc k) n = if nat_lt n 128 then n ∷ [] else digits k (n / 256) ++ (n % 256) ∷ []

-- seventeen octets are enough below 2 ^ 128
unfoldable pub natural_octets : ℕ → List ℕ
natural_octets n = digits 16 n

-- ---- reading, a tool of the proofs

-- the number whose digits so far are those of n
abbrev pub number_after : ℕ → List ℕ → ℕ
number_after n [] = n
number_after n (b ∷ bytes) = number_after (256 * n + b) bytes

abbrev pub are_octets : List ℕ → Bool
are_octets [] = true
are_octets (b ∷ bytes) = nat_lt b 256 && are_octets bytes

-- not below 0, and the first nine bits are not all 0
abbrev pub is_shortest : List ℕ → Bool
is_shortest [] = false
is_shortest (a ∷ []) = nat_lt a 128
is_shortest (a ∷ b ∷ bytes) = nat_lt a 128 && not (nat_eq a 0 && nat_lt b 128)

abbrev pub is_natural : List ℕ → Bool
is_natural bytes = are_octets bytes && (is_shortest bytes && nat_le (length bytes) 17)

unfoldable pub natural_reading : ℕ → List ℕ → Result ℕ ErrorKind
natural_reading bound bytes = if is_natural bytes && nat_lt (number_after 0 bytes) bound then Ok (number_after 0 bytes) else Err Malformed

-- the numbers below a bound
abbrev pub natural_contents : ℕ → Contents ℕ
natural_contents bound = record { octets = natural_octets; good = λ n. n < bound; reading = natural_reading bound }

abbrev pub natural : ℕ → Form ℕ
natural bound = universal Integer (natural_contents bound)
