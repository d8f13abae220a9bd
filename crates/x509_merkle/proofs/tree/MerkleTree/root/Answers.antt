use Rattle.std.proofs.Common.{◌∙◌, ◌<◌, rules, arith, add-one, subst}
use Rattle.x509_merkle.specs.Holds.{Holds}
use Rattle.x509_merkle.proofs.Grown.{Rooted, Rooted-first, Rooted-even, Rooted-odd, root_of_none, root_of_some, half_within, level_fits}
use Rattle.x509_merkle.proofs.tree.MerkleTree.root.Goals as goal
use Rattle.x509_merkle.proofs.tree.MerkleTree.root.Goals.{then-count-eq1, else-count-eq1}

pub loop-count-init : goal.loop-count-init
unfolding Holds
loop-count-init g c = record {
  counted = omega arith;
  rooted = λ leaves holds. Rooted-first g.H.TreeHash.hash _ _ _ holds;
}

pub offset_bounds-self-level : goal.offset_bounds-self-level
offset_bounds-self-level g c =
    let low : c.loop-count.level < 64 = level_fits c.loop-count.count c.loop-count.level (omega arith) (omega (arith, c.loop-count.invariant.counted)) in
    search rules

pub bounds-self-level : goal.bounds-self-level
bounds-self-level g c = level_fits c.loop-count.count c.loop-count.level (omega arith) (omega (arith, c.loop-count.invariant.counted))

pub overflow_add-level : goal.overflow_add-level
overflow_add-level g c =
    let low : c.loop-count.level < 64 = level_fits c.loop-count.count c.loop-count.level (omega arith) (omega (arith, c.loop-count.invariant.counted)) in
    search rules

pub loop-count-preserved : goal.loop-count-preserved
loop-count-preserved g c = record {
  counted = half_within c.loop-count.count c.loop-count.level _ c.loop-count.invariant.counted;
  rooted = λ leaves holds.
      elim c.if-count-eq1.branch [
        | then-count-eq1 w ↦
            rw (add-one, w.root-is, w.joined.ensures) (Rooted-odd g.H.TreeHash.hash _ _ _ _ _ (c.loop-count.invariant.rooted leaves holds) w.if-count-eq1.true)
        | else-count-eq1 w ↦
            rw (add-one, w.root-is) (Rooted-even g.H.TreeHash.hash _ _ _ _ _ (c.loop-count.invariant.rooted leaves holds) w.if-count-eq1.false)
      ];
}

pub returns-in-Some : goal.returns-in-Some
returns-in-Some g c = λ leaves holds.
    root_of_some g.H.TreeHash.hash _ _ _ _ _
    (subst (λ root. Rooted g.H.TreeHash.hash c.args.self.now.hashes c.loop-count.level c.loop-count.count leaves root) c.in-Some.is (c.loop-count.invariant.rooted leaves holds))
    c.loop-count-test.false

pub returns-in-None : goal.returns-in-None
returns-in-None g c = λ leaves holds.
    c.empty_hash.ensures
    ∙ root_of_none g.H.TreeHash.hash _ _ _ _
    (subst (λ root. Rooted g.H.TreeHash.hash c.args.self.now.hashes c.loop-count.level c.loop-count.count leaves root) c.in-None.is (c.loop-count.invariant.rooted leaves holds))
    c.loop-count-test.false
