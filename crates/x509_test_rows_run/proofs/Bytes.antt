-- Bytes before and after the first that is a given byte.
use Rattle.std.proofs.Common.{◌≡◌, ℕ, suc, List, [], ◌∷◌, ◌++◌, refl, arith}
use Rattle.x509_test_rows_run.specs.Row.{Lacks}

lacks_head : (byte x : ℕ) (xs : List ℕ) → Lacks byte (x ∷ xs) → x ≡ byte → ⊥
lacks_head byte x xs l = l 0 0 (omega arith)

lacks_tail : (byte x : ℕ) (xs : List ℕ) → Lacks byte (x ∷ xs) → Lacks byte xs
lacks_tail byte x xs l k d h = l (suc k) d (omega (arith, h))

-- what has no such byte has no first one
pub no_cut : (byte : ℕ) (xs a b : List ℕ) → Lacks byte xs → xs ≡ a ++ byte ∷ b → ⊥
no_cut byte [] [] b l h = absurd (cc)
no_cut byte [] (y ∷ a) b l h = absurd (cc)
no_cut byte (x ∷ xs) [] b l h = lacks_head byte x xs l (cc)
no_cut byte (x ∷ xs) (y ∷ a) b l h = no_cut byte xs a b (lacks_tail byte x xs l) (cc)

-- bytes are parted at the first such byte in one way
pub one_cut : (byte : ℕ) (a b c d : List ℕ) → Lacks byte a → Lacks byte c → a ++ byte ∷ b ≡ c ++ byte ∷ d → (a ≡ c) × (b ≡ d)
one_cut byte [] b [] d la lc h = (refl, cc)
one_cut byte [] b (x ∷ c) d la lc h = absurd (lacks_head byte x c lc (cc))
one_cut byte (x ∷ a) b [] d la lc h = absurd (lacks_head byte x a la (cc))
one_cut byte (x ∷ a) b (y ∷ c) d la lc h =
    let rest = one_cut byte a b c d (lacks_tail byte x a la) (lacks_tail byte y c lc) (cc) in
    let head : x ≡ y = cc in
    let tail : a ≡ c = rest.0 in
    (cc, rest.1)
