use Rattle.std.proofs.Common.{◌↔◌, length}
use Rattle.x509_ext.specs.LookUp.{IsRepeated}
use Rattle.x509_ext.proofs.look_up.is_any_repeated.Given as goal

-- none that was passed has the identifier of another
abbrev pub invariant-loop-first : goal.invariant-loop-first
invariant-loop-first l = IsRepeated l.extensions ↔ IsRepeated l.rest

abbrev pub decreases-loop-first : goal.decreases-loop-first
decreases-loop-first l = length l.rest
