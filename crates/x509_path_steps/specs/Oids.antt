-- Tools of the proofs: sequences with OIDs in front.
use Rattle.std.specs.Prelude.{ℕ, List, ◌++◌}
use Rattle.x509_der.specs.Element.{element}

-- a SEQUENCE that begins with an OBJECT IDENTIFIER
abbrev pub item : List ℕ × List ℕ → List ℕ
item i = element 48 (element 6 i.0 ++ i.1)

-- a SEQUENCE of two
abbrev pub pair : List ℕ × List ℕ → List ℕ
pair p = element 48 (element 6 p.0 ++ element 6 p.1)
