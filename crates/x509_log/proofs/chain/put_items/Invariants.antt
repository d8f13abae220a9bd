use Rattle.std.proofs.Common.{◌≡◌, ◌++◌, drop}
use Rattle.x509_sct.specs.Items.{joined, AreGood}
use Rattle.x509_log.proofs.chain.put_items.Given as goal

abbrev pub invariant-loop-item : goal.invariant-loop-item
invariant-loop-item g l =
    record {
      bytes : l.out.items ++ joined g.T.Tls.form (drop l.item-index l.items) ≡ l.fn.out.items ++ joined g.T.Tls.form l.items;
      good : AreGood g.T.Tls.form (drop l.item-index l.items) → AreGood g.T.Tls.form l.items;
    }
