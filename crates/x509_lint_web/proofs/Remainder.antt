-- Remainders of numbers by their digits.
use Rattle.std.proofs.Common.{◌≡◌, ◌<◌, ◌+◌, ◌*◌, ◌%◌, ◌∙◌, ℕ, List, [], ◌∷◌, ◌++◌, length, take, get_or, refl, ap, sym, add-one}
use Rattle.std.proofs.Math.Nat.{mod-add-mod, mul_comm}
use Rattle.std.proofs.Math.Seq.{take-suc}
use Rattle.std.proofs.lemmas.Nat.{mul-mod_second}
use Rattle.x509_lint_web.specs.Words.{number_of}

-- a digit behind the remainder
pub digit_behind : (divisor high digit : ℕ) → ((high % divisor) * 256 + digit) % divisor ≡ (high * 256 + digit) % divisor
digit_behind divisor high digit =
    let times : (high % divisor) * 256 % divisor ≡ high * 256 % divisor =
    ap (λ n. n % divisor) (mul_comm (high % divisor) 256) ∙ (mul-mod_second 256 high divisor ∙ ap (λ n. n % divisor) (mul_comm 256 high)) in
    sym (mod-add-mod ((high % divisor) * 256) divisor digit) ∙ (ap (λ n. (n + digit) % divisor) times ∙ mod-add-mod (high * 256) divisor digit)

-- the last digit is the lowest
pub number_of-last : (high digit : ℕ) (digits : List ℕ) → number_of 256 high (digits ++ (digit ∷ [])) ≡ number_of 256 high digits * 256 + digit
number_of-last high digit [] = refl
number_of-last high digit (first ∷ digits) = number_of-last (high * 256 + first) digit digits

-- one digit further
pub remainder_next : (divisor left next i : ℕ) (digits : List ℕ) → i < length digits → left ≡ number_of 256 0 (take i digits) % divisor
    → next ≡ (left * 256 + get_or digits i 0) % divisor → next ≡ number_of 256 0 (take (i + 1) digits) % divisor
remainder_next divisor left next i digits here before is =
    is ∙ (ap (λ n. (n * 256 + get_or digits i 0) % divisor) before
    ∙ (digit_behind divisor (number_of 256 0 (take i digits)) (get_or digits i 0)
    ∙ ap (λ n. n % divisor) (sym (number_of-last 0 (get_or digits i 0) (take i digits))
    ∙ ap (λ ds. number_of 256 0 ds) (sym (ap (λ n. take n digits) (add-one i) ∙ take-suc digits i 0 here)))))
