use Rattle.std.proofs.Common.{◌+◌, ◌<◌, rules, arith, add-one}
use Rattle.x509_merkle.specs.Holds.{Holds}
use Rattle.x509_merkle.proofs.Grown.{Pending-first, Pending-up, Pending-set, half_counted, level_fits}
use Rattle.x509_merkle.proofs.tree.MerkleTree.push_hash.Goals as goal

pub loop-count-init : goal.loop-count-init
unfolding Holds
loop-count-init g c = record {
  counted = omega arith;
  pending = λ leaves entry holds is. Pending-first g.H.TreeHash.hash _ _ _ _ _ holds is;
}

pub offset_bounds-self-level : goal.offset_bounds-self-level
offset_bounds-self-level g c =
    let low : c.loop-count.level < 64 = level_fits (c.loop-count.count + 1) c.loop-count.level (omega arith) (omega (arith, c.loop-count.invariant.counted)) in
    search rules

pub bounds-self-level : goal.bounds-self-level
bounds-self-level g c = level_fits (c.loop-count.count + 1) c.loop-count.level (omega arith) (omega (arith, c.loop-count.invariant.counted))

pub overflow_add-level : goal.overflow_add-level
overflow_add-level g c =
    let low : c.loop-count.level < 64 = level_fits (c.loop-count.count + 1) c.loop-count.level (omega arith) (omega (arith, c.loop-count.invariant.counted)) in
    search rules

pub loop-count-preserved : goal.loop-count-preserved
loop-count-preserved g c = record {
  counted = half_counted c.loop-count.count c.loop-count.level _ c.loop-count-test.true c.loop-count.invariant.counted;
  pending = λ leaves entry holds is.
      rw (add-one, c.node_hash-hash.ensures)
      (Pending-up g.H.TreeHash.hash _ _ _ _ _ (c.loop-count.invariant.pending leaves entry holds is) c.loop-count-test.true);
}

pub put-requires : goal.put-requires
put-requires g c = level_fits (c.loop-count.count + 1) c.loop-count.level (omega arith) (omega (arith, c.loop-count.invariant.counted))

pub returns-clause-pushed : goal.returns-clause-pushed
unfolding Holds
returns-clause-pushed g c = λ leaves entry holds is.
    let low : c.loop-count.level < 64 = level_fits (c.loop-count.count + 1) c.loop-count.level (omega arith) (omega (arith, c.loop-count.invariant.counted)) in
    rw (c.put.ensures.written)
    (Pending-set g.H.TreeHash.hash _ _ _ _ _ _ c.loop-count.invariant.counted (c.loop-count.invariant.pending leaves entry holds is) c.loop-count-test.false
    (omega (arith, c.put.ensures.sized)))
