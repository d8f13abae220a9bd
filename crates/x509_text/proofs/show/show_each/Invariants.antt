use Rattle.std.proofs.Common.{◌≡◌, ◌++◌, take, string_bytes}
use Rattle.std.specs.List.{flat_map}
use Rattle.x509_text.proofs.show.show_each.Given as goal

abbrev pub invariant-loop-value : goal.invariant-loop-value
invariant-loop-value g l = string_bytes l.out ≡ string_bytes l.fn.out ++ flat_map (g.T.Show.lines l.at) (take l.value-index l.values)
