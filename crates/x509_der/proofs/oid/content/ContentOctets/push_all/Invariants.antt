use Rattle.std.proofs.Common.{◌≡◌, ◌++◌, take}
use Rattle.std.specs.List.{flat_map}
use Rattle.x509_der.specs.Arcs.{subidentifier}
use Rattle.x509_der.proofs.oid.content.ContentOctets.push_all.Given as goal

abbrev pub invariant-loop-number : goal.invariant-loop-number
invariant-loop-number l = l.self ≡ l.fn.self ++ flat_map subidentifier (take l.number-index l.numbers)
