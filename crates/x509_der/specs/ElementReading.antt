-- How an element is read from the front of bytes. A tool of the proofs: `ElementLaws` ties it to `element`.
use Rattle.std.specs.Prelude.{ℕ, ◌+◌, ◌*◌, ◌&&◌, ◌||◌, not, nat_lt, nat_eq, List, [], ◌∷◌, length, take, drop, Result, Ok, Err, if◌then◌else◌}
use Rattle.x509_der.specs.declared.error.ErrorKind.{ErrorKind}
use Rattle.x509_der.specs.declared.error.ErrorKind.TheVariants.{Malformed}
use Rattle.x509_der.specs.Outcome.{◌>>=◌}
use Rattle.x509_der.specs.Element.{is_identifier}

-- an element, and what follows it
pub record Piece : Type 0 where
  pub tag : ℕ
  pub content : List ℕ
  pub rest : List ℕ

-- One to four digits of a length, the first not 0, that fewer octets could not say (X.690 10.1).
unfoldable pub one_digit : List ℕ → Result (ℕ × List ℕ) ErrorKind
one_digit [] = Err Malformed
one_digit (a ∷ bytes) = if nat_lt a 128 || not (nat_lt a 256) then Err Malformed else Ok (a, bytes)

unfoldable pub two_digits : List ℕ → Result (ℕ × List ℕ) ErrorKind
two_digits [] = Err Malformed
two_digits (a ∷ []) = Err Malformed
two_digits (a ∷ b ∷ bytes) = if nat_eq a 0 || not (nat_lt a 256 && nat_lt b 256) then Err Malformed else Ok (256 * a + b, bytes)

unfoldable pub three_digits : List ℕ → Result (ℕ × List ℕ) ErrorKind
three_digits [] = Err Malformed
three_digits (a ∷ []) = Err Malformed
three_digits (a ∷ b ∷ []) = Err Malformed
three_digits (a ∷ b ∷ c ∷ bytes) = if nat_eq a 0 || not (nat_lt a 256 && (nat_lt b 256 && nat_lt c 256)) then Err Malformed else Ok (65536 * a + 256 * b + c, bytes)

unfoldable pub four_digits : List ℕ → Result (ℕ × List ℕ) ErrorKind
four_digits [] = Err Malformed
four_digits (a ∷ []) = Err Malformed
four_digits (a ∷ b ∷ []) = Err Malformed
four_digits (a ∷ b ∷ c ∷ []) = Err Malformed
four_digits (a ∷ b ∷ c ∷ d ∷ bytes) = if nat_eq a 0 || not (nat_lt b 256 && (nat_lt c 256 && nat_lt d 256)) then Err Malformed else Ok (16777216 * a + 65536 * b + 256 * c + d, bytes)

-- the length at the front, and what follows it
unfoldable pub length_at : List ℕ → Result (ℕ × List ℕ) ErrorKind
length_at [] = Err Malformed
length_at (k ∷ bytes) =
    if nat_lt k 128 then Ok (k, bytes)
    else (if nat_eq k 129 then one_digit bytes
    else (if nat_eq k 130 then two_digits bytes
    else (if nat_eq k 131 then three_digits bytes
    else (if nat_eq k 132 then four_digits bytes else Err Malformed))))

-- as many octets of content as the length says
unfoldable pub content_at : ℕ → ℕ × List ℕ → Result Piece ErrorKind
content_at tag found = if nat_lt (length found.1) found.0 then Err Malformed else Ok (record { tag = tag; content = take found.0 found.1; rest = drop found.0 found.1 })

-- the element at the front
unfoldable pub piece_at : List ℕ → Result Piece ErrorKind
piece_at [] = Err Malformed
piece_at (tag ∷ bytes) = if is_identifier tag then (length_at bytes >>= content_at tag) else Err Malformed
