-- Octets in hex, in front of others.
use Rattle.std.specs.Prelude.{ℕ, List, [], ◌∷◌, ◌++◌}
use Rattle.x509_base.specs.Serial.{hex_octet}

-- the octet's two hex digits and a colon
abbrev pub octet_colon : ℕ → List ℕ
octet_colon octet = hex_octet octet ++ 58 ∷ []
