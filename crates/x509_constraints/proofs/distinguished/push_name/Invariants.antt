use Rattle.std.proofs.Common.{◌≡◌, ◌++◌, take}
use Rattle.std.specs.List.{flat_map}
use Rattle.x509_constraints.specs.Directory.{rdn_key}
use Rattle.x509_constraints.specs.SubtreeKeys.{rdn_octets}
use Rattle.x509_constraints.proofs.distinguished.push_name.Given as goal

abbrev pub invariant-loop-rdn : goal.invariant-loop-rdn
invariant-loop-rdn l = l.key ≡ l.initial.key ++ flat_map (λ rdn. rdn_key (rdn_octets rdn)) (take l.rdn-index l.name)
