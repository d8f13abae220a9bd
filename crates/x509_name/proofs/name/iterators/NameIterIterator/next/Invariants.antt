use Rattle.std.proofs.Common.{◌≡◌, length}
use Rattle.x509_name.specs.Iterators.{attributes_left}
use Rattle.x509_name.proofs.name.iterators.NameIterIterator.next.Given as goal

-- what is left is what was left
abbrev pub invariant-loop-rdn : goal.invariant-loop-rdn
invariant-loop-rdn l = attributes_left l.self ≡ attributes_left l.initial.self

abbrev pub decreases-loop-rdn : goal.decreases-loop-rdn
decreases-loop-rdn l = length l.self.rest.now
