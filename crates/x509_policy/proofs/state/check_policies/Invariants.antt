use Rattle.std.proofs.Common.{◌+◌, length, map, take}
use Rattle.x509_policy.specs.Follows.{Follows}
use Rattle.x509_policy.specs.Views.{certificate_of, settings_of}
use Rattle.x509_policy.proofs.state.check_policies.Given as goal

abbrev pub invariant-loop-place : goal.invariant-loop-place
invariant-loop-place l = Follows (settings_of l.settings) (length l.path + 1) (map certificate_of (take l.place l.path)) l.state
