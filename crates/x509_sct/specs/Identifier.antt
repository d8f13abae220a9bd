-- The OIDs of the extensions of RFC 6962.
use Rattle.std.specs.Prelude.{ℕ, List, [], ◌∷◌}

-- the content octets of 1.3.6.1.4.1.11129.2.4.2 (RFC 6962 3.3)
abbrev pub embedded_timestamps : List ℕ
embedded_timestamps = 0x2B ∷ 0x06 ∷ 0x01 ∷ 0x04 ∷ 0x01 ∷ 0xD6 ∷ 0x79 ∷ 0x02 ∷ 0x04 ∷ 0x02 ∷ []

-- the content octets of 1.3.6.1.4.1.11129.2.4.3 (RFC 6962 3.1)
abbrev pub precertificate_poison : List ℕ
precertificate_poison = 0x2B ∷ 0x06 ∷ 0x01 ∷ 0x04 ∷ 0x01 ∷ 0xD6 ∷ 0x79 ∷ 0x02 ∷ 0x04 ∷ 0x03 ∷ []
