use Rattle.std.proofs.Common.{◌≡◌, ◌++◌, drop}
use Rattle.x509_c_calls.proofs.path.settings.purposes_of.Given as goal
use Rattle.x509_c_calls.specs.PathValidation.{known_purposes, named_purposes}
use Rattle.x509_policy.specs.Views.{octets_of}

-- what was found, and what is left of the number
abbrev pub invariant-loop-purpose : goal.invariant-loop-purpose
invariant-loop-purpose l = octets_of l.found.items ++ named_purposes l.left (drop l.purpose-index known_purposes) ≡ named_purposes l.fn.number known_purposes
