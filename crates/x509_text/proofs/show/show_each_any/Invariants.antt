use Rattle.std.proofs.Common.{◌≡◌, ◌++◌, take, string_bytes}
use Rattle.std.specs.List.{flat_map}
use Rattle.x509_text.specs.Payloads.{any_lines}
use Rattle.x509_text.proofs.show.show_each_any.Given as goal

abbrev pub invariant-loop-any : goal.invariant-loop-any
invariant-loop-any g l = string_bytes l.out ≡ string_bytes l.fn.out ++ flat_map (any_lines g.T.Grammar.form (g.T.Show.lines) l.at) (take l.any-index l.elements)
