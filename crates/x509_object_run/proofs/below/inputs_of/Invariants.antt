use Rattle.std.proofs.Common.{map, take}
use Rattle.std.specs.Cow.{cow_str_bytes}
use Rattle.x509_object_run.specs.Below.{AreOfAll}
use Rattle.x509_object_run.proofs.below.inputs_of.Given as goal

-- the inputs of the names so far
abbrev pub invariant-loop-name : goal.invariant-loop-name
invariant-loop-name g l =
    AreOfAll (g.O.Opener.lists l.opener) (g.O.Opener.stands l.opener) (map (λ name. name.now) (take l.name-index l.names)) (map cow_str_bytes l.inputs.items) l.has_directory
