-- The fields of a CSR, one after the other.
use Rattle.std.proofs.Common.{◌≡◌, ℕ, true, List, ◌++◌, refl, append_assoc}
use Rattle.x509_der.specs.Element.{is_identifier, is_universal}

pub is_integer : is_identifier 2 ≡ true
unfolding is_identifier is_universal
is_integer = refl

pub is_set : is_identifier 49 ≡ true
unfolding is_identifier is_universal
is_set = refl

pub three : (a b c more : List ℕ) → (a ++ (b ++ c)) ++ more ≡ a ++ (b ++ (c ++ more))
three a b c more = simp append_assoc refl

pub four : (a b c d more : List ℕ) → (a ++ (b ++ (c ++ d))) ++ more ≡ a ++ (b ++ (c ++ (d ++ more)))
four a b c d more = simp append_assoc refl
