-- Numbers in base 128 as a reader goes over them, and which contents are read.
use Rattle.std.proofs.Common.{◌≡◌, ℕ, Bool, true, false, List, ◌∷◌, refl, sym, subst, arith}
use Rattle.std.proofs.lemmas.Bool.Decides.{nat_tests}
use Rattle.std.specs.Prelude.{◌&&◌, ◌==◌, not, nat_lt, Result, Ok, Err, if◌then◌else◌}
use Rattle.x509_der.specs.declared.error.ErrorKind.{ErrorKind}
use Rattle.x509_der.specs.declared.error.ErrorKind.TheVariants.{Malformed}
use Rattle.x509_lint.specs.Beyond.{are_numbers}

chosen : (fresh padded : Bool) (rest : List ℕ) → padded ≡ false → are_numbers fresh rest ≡ (if fresh then are_numbers true rest else not padded && are_numbers false rest)
chosen true padded rest e = refl
chosen false padded rest e = rw e refl

-- the numbers behind an octet that begins none with 0x80
pub next_numbers : (fresh : Bool) (octet : ℕ) (rest : List ℕ) → (fresh && (octet == 128)) ≡ false → are_numbers (nat_lt octet 128) rest ≡ are_numbers fresh (octet ∷ rest)
next_numbers fresh octet rest e = chosen (nat_lt octet 128) (fresh && (octet == 128)) rest e

-- an octet that begins one with 0x80
pub padded_numbers : (fresh : Bool) (octet : ℕ) (rest : List ℕ) → (fresh && (octet == 128)) ≡ true → are_numbers fresh (octet ∷ rest) ≡ false
padded_numbers false octet rest e = absurd cc
padded_numbers true octet rest e = let is : octet ≡ 128 = grind (arith, nat_tests) in subst (λ (n : ℕ). are_numbers true (n ∷ rest) ≡ false) (sym is) refl

-- what is answered of a content
abbrev pub answer : Bool → List ℕ → Result (List ℕ) ErrorKind
answer is_content content = if is_content then Ok content else Err Malformed

-- a content that is read
pub held : (is_content : Bool) (content found : List ℕ) → answer is_content content ≡ Ok found → true ≡ is_content
held true content found e = refl
held false content found e = absurd cc

-- one that isn't
pub unheld : (is_content : Bool) (content : List ℕ) → answer is_content content ≡ Err Malformed → false ≡ is_content
unheld true content e = absurd cc
unheld false content e = refl
