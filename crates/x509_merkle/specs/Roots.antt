-- The code's roots, as the definitions name them.
use Rattle.x509_merkle.specs.Merkle as merkle
use Rattle.x509_merkle.specs.declared.consistency.Roots.{Roots}

abbrev pub roots_of : Roots → merkle.Roots
roots_of roots = record { old = roots.old; new = roots.new }
