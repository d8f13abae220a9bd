-- The OIDs of attributes.
use Rattle.std.specs.Prelude.{ℕ, List, [], ◌∷◌}

-- the content octets of 1.2.840.113549.1.9.n, where n is below 128 (pkcs-9; RFC 2985, appendix A)
abbrev pub pkcs_9 : ℕ → List ℕ
pkcs_9 n = 0x2A ∷ 0x86 ∷ 0x48 ∷ 0x86 ∷ 0xF7 ∷ 0x0D ∷ 0x01 ∷ 0x09 ∷ n ∷ []
