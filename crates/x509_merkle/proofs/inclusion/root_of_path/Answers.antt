use Rattle.std.proofs.Common.{◌∙◌, sym}
use Rattle.x509_merkle.proofs.RootSteps.{Ends-start, Ends-left, Ends-right, Ends-alone, no_left, no_right, root_where_empty, none_where_left, recomputed_in, recomputed_outside}
use Rattle.x509_merkle.proofs.inclusion.root_of_path.Goals as goal
use Rattle.x509_merkle.proofs.inclusion.root_of_path.Goals.{then-node-eq1+in_ok-left, else-node-eq1+then-node-last+in_ok-right, else-node-eq1+else-node-last}

pub returns-then-index-size : goal.returns-then-index-size
returns-then-index-size g c = sym (recomputed_outside g.H.TreeHash.hash _ _ _ _ c.if-index-size.true)

pub loop-last-init : goal.loop-last-init
loop-last-init g c = Ends-start g.H.TreeHash.hash _ _ _ _ c.if-index-size.false

pub returns-in_err-left : goal.returns-in_err-left
returns-in_err-left g c =
    c.from_residual.ensures
    ∙ sym (recomputed_in g.H.TreeHash.hash _ _ _ _ c.if-index-size.false
    ∙ no_left g.H.TreeHash.hash _ _ _ _ _ c.loop-last.invariant c.in_err-left.ensures.cases c.if-node-eq1.true)

pub returns-in_err-right : goal.returns-in_err-right
returns-in_err-right g c =
    c.from_residual-in_err-right.ensures
    ∙ sym (recomputed_in g.H.TreeHash.hash _ _ _ _ c.if-index-size.false
    ∙ no_right g.H.TreeHash.hash _ _ _ _ _ c.loop-last.invariant c.in_err-right.ensures.cases c.if-node-eq1.false c.if-node-last.true)

pub loop-last-preserved : goal.loop-last-preserved
loop-last-preserved g c =
    elim c.if-node-eq1.branch [
      | then-node-eq1+in_ok-left w ↦
          rw (w.hash-is, w.rest-is, w.node_hash-hash.ensures)
          (Ends-left g.H.TreeHash.hash _ _ _ _ _ c.loop-last.invariant _ _ w.in_ok-left.ensures.cases.0 w.if-node-eq1.true)
      | else-node-eq1+then-node-last+in_ok-right w ↦
          rw (w.hash-is, w.rest-is, w.node_hash-hash-then-node-last.ensures)
          (Ends-right g.H.TreeHash.hash _ _ _ _ _ c.loop-last.invariant _ _ w.in_ok-right.ensures.cases.0 w.if-node-eq1.false w.if-node-last.true)
      | else-node-eq1+else-node-last w ↦
          rw (w.hash-is, w.rest-is) (Ends-alone g.H.TreeHash.hash _ _ _ _ _ c.loop-last.invariant w.if-node-eq1.false w.if-node-last.false)
    ]

pub returns-then-is_empty : goal.returns-then-is_empty
returns-then-is_empty g c =
    sym (recomputed_in g.H.TreeHash.hash _ _ _ _ c.if-index-size.false
    ∙ root_where_empty g.H.TreeHash.hash _ _ _ _ _ c.loop-last.invariant c.loop-last-test.false c.if-is_empty.ensures)

pub returns-else-is_empty : goal.returns-else-is_empty
returns-else-is_empty g c =
    sym (recomputed_in g.H.TreeHash.hash _ _ _ _ c.if-index-size.false
    ∙ none_where_left g.H.TreeHash.hash _ _ _ _ _ c.loop-last.invariant c.loop-last-test.false c.if-is_empty.ensures)
