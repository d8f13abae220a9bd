use Rattle.std.proofs.Common.{◌≡◌, ◌++◌, length, drop}
use Rattle.x509_sct.specs.Items.{joined, AreGood}
use Rattle.x509_sct.specs.Numbers.{uint16}
use Rattle.x509_sct.proofs.tls.list.serialize_list.Given as goal

abbrev pub invariant-loop-item : goal.invariant-loop-item
invariant-loop-item g l =
    record {
      bytes : l.out.items ++ joined g.T.Tls.form (drop l.item-index l.items) ≡ uint16.bytes (length (joined g.T.Tls.form l.items)) ++ joined g.T.Tls.form l.items;
      good : AreGood g.T.Tls.form (drop l.item-index l.items) → AreGood g.T.Tls.form l.items;
    }
