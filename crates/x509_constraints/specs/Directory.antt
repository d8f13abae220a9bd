-- Directory names under constraints (RFC 5280 4.2.1.10). Each RDN is given by octets that are the same exactly where RDNs match.
use Rattle.std.specs.Prelude.{ℕ, List, [], ◌∷◌, ◌++◌}
use Rattle.std.specs.List.{flat_map}
use Rattle.x509_constraints.specs.Keys.{stop, symbols}

abbrev pub rdn_key : List ℕ → List ℕ
rdn_key rdn = symbols rdn ++ stop ∷ []

abbrev pub directory_key : List (List ℕ) → List ℕ
directory_key name = flat_map rdn_key name
