use Rattle.std.proofs.Common.{◌≡◌, length}
use Rattle.x509_build.specs.Modules.{first_module}
use Rattle.x509_build.proofs.profile.devid.first_module.Given as goal

-- what was passed isn't said to be the name of a module
abbrev pub invariant-loop-names : goal.invariant-loop-names
invariant-loop-names l = first_module l.names ≡ first_module l.initial.names

abbrev pub decreases-loop-names : goal.decreases-loop-names
decreases-loop-names l = length l.names
