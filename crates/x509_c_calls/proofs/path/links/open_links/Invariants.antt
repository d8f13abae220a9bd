use Rattle.std.proofs.Common.{take}
use Rattle.std.specs.List.{AllZip}
use Rattle.x509_c_calls.proofs.path.links.open_links.Given as goal
use Rattle.x509_c_calls.specs.PathFinding.{IsOpenedLink}

abbrev pub invariant-loop-link : goal.invariant-loop-link
invariant-loop-link l = AllZip (IsOpenedLink l.bytes) (take l.link-index l.links) l.found.items
