-- The bit string of a set of named bits (X.680 22.7, X.690 11.2.2).
use Rattle.std.specs.Prelude.{◌≡◌, ℕ, Bool, false, List, [], ◌∷◌, ◌++◌, get_or}
use Rattle.x509_prim.specs.BitString.{is_one}

-- Bit n of the list says whether the named bit n is there, a bit after its end being zero; and no zero bit ends it.
pub record AreSetBits (set : ℕ) (bits : List Bool) : Type 0 where
  pub named : (n : ℕ) → get_or bits n false ≡ is_one set n
  pub trimmed : (front : List Bool) → bits ≡ front ++ false ∷ [] → ⊥
