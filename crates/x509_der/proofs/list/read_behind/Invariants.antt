use Rattle.std.proofs.Common.{◌≡◌, [], ◌∷◌, length}
use Rattle.x509_der.specs.List.{list_reading, with_front}
use Rattle.x509_der.proofs.list.read_behind.Given as goal

abbrev pub invariant-loop-rest : goal.invariant-loop-rest
invariant-loop-rest g l = with_front l.items.items (list_reading g.T.Grammar.form.reading l.rest) ≡ with_front l.fn.items.items (list_reading g.T.Grammar.form.reading l.bytes)

abbrev pub decreases-loop-rest : goal.decreases-loop-rest
decreases-loop-rest g l = length l.rest
