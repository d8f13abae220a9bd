use Rattle.std.proofs.Common.{◌≡◌, map, take}
use Rattle.x509_path.proofs.path.slices.Given as goal

abbrev pub invariant-loop-input : goal.invariant-loop-input
invariant-loop-input l = map (λ input. input.now) l.lent.items ≡ map (λ input. input.items) (take l.input-index l.inputs)
