-- The OIDs of extensions, and of what stands in them.
use Rattle.std.specs.Prelude.{ℕ, List, [], ◌∷◌}

-- the content octets of 2.5.29.n, where n is below 128 (id-ce; RFC 5280 4.2.1)
abbrev pub id_ce : ℕ → List ℕ
id_ce n = 0x55 ∷ 0x1D ∷ n ∷ []

-- the content octets of 1.3.6.1.5.5.7.a.n, where a and n are below 128 (id-pkix; RFC 5280 4.2.2)
abbrev pub id_pkix : ℕ → ℕ → List ℕ
id_pkix a n = 0x2B ∷ 0x06 ∷ 0x01 ∷ 0x05 ∷ 0x05 ∷ 0x07 ∷ a ∷ n ∷ []
