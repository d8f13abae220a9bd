use Rattle.std.proofs.Common.{◌≡◌, length}
use Rattle.x509_sct.specs.Items.{items_reading, with_front}
use Rattle.x509_log.proofs.chain.take_items.Given as goal

abbrev pub invariant-loop-rest : goal.invariant-loop-rest
invariant-loop-rest g l = with_front l.items.items (items_reading g.T.Tls.form.reading l.rest) ≡ items_reading g.T.Tls.form.reading l.bytes

abbrev pub decreases-loop-rest : goal.decreases-loop-rest
decreases-loop-rest g l = length l.rest
