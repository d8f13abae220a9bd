use Rattle.std.proofs.Common.{◌≡◌, ◌+◌, ◌≤◌, length, drop}
use Rattle.x509_sct.specs.Items.{joined}
use Rattle.x509_sct.proofs.tls.list.items_len.Given as goal

abbrev pub invariant-loop-item : goal.invariant-loop-item
invariant-loop-item g l =
    record { whole : l.total + length (joined g.T.Tls.form (drop l.item-index l.items)) ≡ length (joined g.T.Tls.form l.items); short : l.total ≤ 65535 }
