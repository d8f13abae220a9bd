use Rattle.std.proofs.Common.{take}
use Rattle.std.specs.List.{All}
use Rattle.x509_path_steps.proofs.Readables.{IsOid}
use Rattle.x509_path_steps.proofs.readable.are_all_oids.Given as goal

abbrev pub invariant-loop-policy : goal.invariant-loop-policy
invariant-loop-policy l = All (IsOid l.policies l.policy-index) (take l.policy-index l.policies)
