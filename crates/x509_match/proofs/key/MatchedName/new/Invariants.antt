use Rattle.std.proofs.Common.{take}
use Rattle.x509_match.specs.NameKeys.{AreRdnKeys}
use Rattle.x509_match.proofs.key.MatchedName.new.Given as goal

abbrev pub invariant-loop-rdn : goal.invariant-loop-rdn
invariant-loop-rdn l = AreRdnKeys l.keys.items (take l.rdn-index l.rdns)
