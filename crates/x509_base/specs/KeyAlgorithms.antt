-- The algorithms of keys that have a name here, as the content octets of their object identifiers.
use Rattle.std.specs.Prelude.{ℕ, List, [], ◌∷◌}
use Rattle.x509_der.specs.Arcs.{content_of}

-- rsaEncryption (RFC 3279 2.3.1)
abbrev pub rsa_encryption : List ℕ
rsa_encryption = content_of (1 ∷ 2 ∷ 840 ∷ 113549 ∷ 1 ∷ 1 ∷ 1 ∷ [])

-- id-ecPublicKey (RFC 5480 2.1.1)
abbrev pub ec_public_key : List ℕ
ec_public_key = content_of (1 ∷ 2 ∷ 840 ∷ 10045 ∷ 2 ∷ 1 ∷ [])
