use Rattle.std.proofs.Common.{◌∙◌, sym, ap, arith, refl}
use Rattle.std.specs.Option.{option_map}
use Rattle.x509_merkle.specs.Roots.{roots_of}
use Rattle.x509_merkle.proofs.BothSteps.{Rises-start, Rises-odd, Rises-begun, begun_first, begun_next, no_begin, Rises-left, Rises-right, Rises-alone, no_left_root, no_right_root, ended, roots_where_empty, none_where_more, recomputed_older, recomputed_none, recomputed_same}
use Rattle.x509_merkle.proofs.consistency.roots_of_proof.Goals as goal
use Rattle.x509_merkle.proofs.consistency.roots_of_proof.Goals.{then-node-eq0, else-node-eq0+in_ok-hash, then-node-eq1+in_ok-left, else-node-eq1+then-node-last+in_ok-right, else-node-eq1+else-node-last}

pub returns-then-old-eq0 : goal.returns-then-old-eq0
returns-then-old-eq0 g c = sym (recomputed_none g.H.TreeHash.hash _ _ _ _ c.then-old-eq0.either)

pub returns-then-is_empty : goal.returns-then-is_empty
returns-then-is_empty g c =
    sym (recomputed_same g.H.TreeHash.hash _ _ _ _ c.if-old-eq0.false c.if-old-new-2.true
    ∙ roots_where_empty g.H.TreeHash.hash c.args.old_root.now c.args.proof.now _ _ _ refl c.if-is_empty.ensures)

pub returns-else-is_empty : goal.returns-else-is_empty
returns-else-is_empty g c =
    sym (recomputed_same g.H.TreeHash.hash _ _ _ _ c.if-old-eq0.false c.if-old-new-2.true
    ∙ none_where_more g.H.TreeHash.hash c.args.old_root.now c.args.proof.now _ _ _ refl c.if-is_empty.ensures)

pub loop-node-init : goal.loop-node-init
loop-node-init g c = Rises-start g.H.TreeHash.hash _ _ _ _ (omega arith) (omega arith)

pub loop-node-preserved : goal.loop-node-preserved
loop-node-preserved g c = Rises-odd g.H.TreeHash.hash _ _ _ _ _ c.loop-node.invariant c.loop-node-test.true

pub returns-in_err-hash : goal.returns-in_err-hash
returns-in_err-hash g c =
    ap (option_map roots_of) c.from_residual.ensures
    ∙ sym (recomputed_older g.H.TreeHash.hash _ _ _ _ c.if-old-eq0.false c.if-old-new.false
    ∙ no_begin g.H.TreeHash.hash _ _ _ _ _ c.loop-node.invariant c.loop-node-test.false c.if-node-eq0.false c.in_err-hash.ensures.cases)

pub loop-last-init : goal.loop-last-init
loop-last-init g c =
    let begun = Rises-begun g.H.TreeHash.hash _ _ _ _ _ c.loop-node.invariant c.loop-node-test.false in
    elim c.if-node-eq0.branch [
      | then-node-eq0 w ↦ rw (w.t-32-is) (rw (begun_first g.H.TreeHash.hash c.args.old_root.now c.args.proof.now _ w.if-node-eq0.true) at begun)
      | else-node-eq0+in_ok-hash w ↦
          rw (w.t-32-is) (rw (begun_next g.H.TreeHash.hash c.args.old_root.now c.args.proof.now _ _ _ w.if-node-eq0.false w.in_ok-hash.ensures.cases.0) at begun)
    ]

pub returns-in_err-left : goal.returns-in_err-left
returns-in_err-left g c =
    ap (option_map roots_of) c.from_residual-in_err-left.ensures
    ∙ sym (recomputed_older g.H.TreeHash.hash _ _ _ _ c.if-old-eq0.false c.if-old-new.false
    ∙ no_left_root g.H.TreeHash.hash _ _ _ _ _ _ _ c.loop-last.invariant c.in_err-left.ensures.cases c.if-node-eq1.true)

pub returns-in_err-right : goal.returns-in_err-right
returns-in_err-right g c =
    ap (option_map roots_of) c.from_residual-in_err-right.ensures
    ∙ sym (recomputed_older g.H.TreeHash.hash _ _ _ _ c.if-old-eq0.false c.if-old-new.false
    ∙ no_right_root g.H.TreeHash.hash _ _ _ _ _ _ _ c.loop-last.invariant c.in_err-right.ensures.cases c.if-node-eq1.false c.if-node-last.true)

pub loop-last-preserved : goal.loop-last-preserved
loop-last-preserved g c =
    elim c.if-node-eq1.branch [
      | then-node-eq1+in_ok-left w ↦
          rw (w.roots-is, w.rest-is, w.node_hash.ensures, w.node_hash-then-node-eq1.ensures)
          (Rises-left g.H.TreeHash.hash _ _ _ _ _ _ _ c.loop-last.invariant _ _ w.in_ok-left.ensures.cases.0 w.if-node-eq1.true)
      | else-node-eq1+then-node-last+in_ok-right w ↦
          rw (w.roots-is, w.rest-is, w.node_hash-roots.ensures)
          (Rises-right g.H.TreeHash.hash _ _ _ _ _ _ _ c.loop-last.invariant _ _ w.in_ok-right.ensures.cases.0 w.if-node-eq1.false w.if-node-last.true)
      | else-node-eq1+else-node-last w ↦
          rw (w.roots-is, w.rest-is) (Rises-alone g.H.TreeHash.hash _ _ _ _ _ _ _ c.loop-last.invariant w.if-node-eq1.false w.if-node-last.false)
    ]

pub returns-then-is_empty-2 : goal.returns-then-is_empty-2
returns-then-is_empty-2 g c =
    sym (recomputed_older g.H.TreeHash.hash _ _ _ _ c.if-old-eq0.false c.if-old-new.false
    ∙ roots_where_empty g.H.TreeHash.hash c.args.old_root.now c.args.proof.now _ _ _
    (ended g.H.TreeHash.hash _ _ _ _ _ _ _ c.loop-last.invariant c.loop-last-test.false) c.if-is_empty-2.ensures)

pub returns-else-is_empty-2 : goal.returns-else-is_empty-2
returns-else-is_empty-2 g c =
    sym (recomputed_older g.H.TreeHash.hash _ _ _ _ c.if-old-eq0.false c.if-old-new.false
    ∙ none_where_more g.H.TreeHash.hash c.args.old_root.now c.args.proof.now _ _ _
    (ended g.H.TreeHash.hash _ _ _ _ _ _ _ c.loop-last.invariant c.loop-last-test.false) c.if-is_empty-2.ensures)
