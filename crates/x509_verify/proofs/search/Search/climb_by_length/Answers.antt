use Rattle.std.proofs.Common.{◌≡◌, ◌≤◌, ◌<◌, ◌∙◌, ◌∷◌, ◌+◌, ◌-◌, ℕ, suc, Bor, List, [], Some, None, Ok, length, refl, sym, ap, subst, arith}
use Rattle.std.proofs.lemmas.List.{length-map}
use Rattle.std.specs.Prelude.{MatchOption}
use Rattle.x509_verify.specs.Effort.{effort, effort_below}
use Rattle.x509_verify.specs.Found.{IsFound, octets}
use Rattle.x509_verify.specs.Progress.{AreTriedBelow, IsRight, IsSearched, IsTried, Spends, Takes, left_of, up_to}
use Rattle.x509_verify.proofs.Counting.{below_more, below_none, one_of_below, spends_stop, stops_later, takes_more, takes_nothing, takes_same}
use Rattle.x509_verify.proofs.Deepening.{more_found, more_right, none_below, nothing_noted, one_more, shortest, starts}
use Rattle.x509_verify.proofs.search.Search.climb_by_length.Goals as goal

pub loop-depth-init : goal.loop-depth-init
loop-depth-init g c = record {
  counted =
      takes_same (left_of c.args.progress.now) (left_of c.args.progress.now) _ _
      (below_none c.args.self.now.anchors.now c.args.self.now.pool.now (octets c.args.path.now) c.args.issuer.now) (takes_nothing (left_of c.args.progress.now));
  tells = λ wanted searched deep path knows asked none.
      let accepts = g.V.SliceVerifier.accepts c.args.self.now.verifier.now in
      record { right = nothing_noted accepts (up_to wanted 0) c.args.progress.now asked none; below = none_below accepts wanted c.args.progress.now.refusal };
}

pub returns-in_err-found-clause-counted : goal.returns-in_err-found-clause-counted
returns-in_err-found-clause-counted g c =
    let anchors = c.args.self.now.anchors.now in
    let pool = c.args.self.now.pool.now in
    let path = octets c.args.path.now in
    let depth = c.loop-depth.depth in
    let size : length c.args.path.now + depth ≡ length path + depth = ap (λ n. n + depth) (sym (length-map c.args.path.now (λ (b : Bor (List ℕ)). b.now))) in
    let less : depth < suc c.args.max_depth = omega (arith, c.loop-depth-test.true) in
    spends_stop _ _ _ c.from_residual.result c.in_err-found.field-0.0 c.from_residual.ensures.1
    (stops_later (left_of c.args.progress.now) (left_of c.loop-depth.progress) (left_of c.climb.new.progress) (left_of c.climb.new.progress) (effort_below anchors pool depth path c.args.issuer.now)
    (effort anchors pool (length c.args.path.now + depth) depth path c.args.issuer.now) (effort_below anchors pool (suc c.args.max_depth) path c.args.issuer.now) c.in_err-found.field-0.0
    c.loop-depth.invariant.counted (one_of_below anchors pool path c.args.issuer.now depth _ _ size less) c.in_err-found.ensures.counted)

pub returns-in-Some-clause-tells : goal.returns-in-Some-clause-tells
returns-in-Some-clause-tells g c = λ wanted searched deep path knows asked none.
    let accepts = g.V.SliceVerifier.accepts c.args.self.now.verifier.now in
    let known = c.loop-depth.invariant.tells wanted searched deep path knows asked none in
    let depth = c.loop-depth.depth in
    let within : depth ≤ wanted.max_depth = omega (arith, c.loop-depth-test.true, deep) in
    let goes = c.in_ok-found.ensures.tells (up_to wanted depth) (record { settings = searched.settings; trusted = searched.trusted; candidates = searched.candidates }) (starts accepts wanted (octets c.args.path.now) depth path) knows
    (more_right accepts wanted (depth - 1) depth (omega arith) c.loop-depth.progress known.right) in
    let found = subst (λ o. MatchOption o (IsTried accepts (up_to wanted depth) (octets c.args.path.now) depth c.climb.new.progress.refusal) (λ it. IsFound accepts (up_to wanted depth) it)) c.in-Some.is goes.answer in
    (more_right accepts wanted depth wanted.max_depth within c.climb.new.progress goes.right, (more_found accepts wanted depth wanted.max_depth within c.in-Some.found found, shortest accepts wanted depth c.loop-depth.progress.refusal known.below c.in-Some.found found))

pub loop-depth-preserved : goal.loop-depth-preserved
loop-depth-preserved g c = record {
  counted =
      let anchors = c.args.self.now.anchors.now in
      let pool = c.args.self.now.pool.now in
      let path = octets c.args.path.now in
      let depth = c.loop-depth.depth in
      let size : length c.args.path.now + depth ≡ length path + depth = ap (λ n. n + depth) (sym (length-map c.args.path.now (λ (b : Bor (List ℕ)). b.now))) in
      let here = subst (λ o. Spends (left_of c.loop-depth.progress) (left_of c.climb.new.progress) (effort anchors pool (length c.args.path.now + depth) depth path c.args.issuer.now) (Ok o)) c.in_default.is c.in_ok-found.ensures.counted in
      takes_same (left_of c.args.progress.now) (left_of c.climb.new.progress) _ (effort_below anchors pool (depth + 1) path c.args.issuer.now)
      (below_more anchors pool path c.args.issuer.now depth _ (depth + 1) size (omega arith))
      (takes_more (left_of c.args.progress.now) (left_of c.loop-depth.progress) (left_of c.climb.new.progress) (effort_below anchors pool depth path c.args.issuer.now) _ c.loop-depth.invariant.counted here);
  tells = λ wanted searched deep path knows asked none.
      let accepts = g.V.SliceVerifier.accepts c.args.self.now.verifier.now in
      let known = c.loop-depth.invariant.tells wanted searched deep path knows asked none in
      let depth = c.loop-depth.depth in
      let within : depth ≤ wanted.max_depth = omega (arith, c.loop-depth-test.true, deep) in
      let goes = c.in_ok-found.ensures.tells (up_to wanted depth) (record { settings = searched.settings; trusted = searched.trusted; candidates = searched.candidates }) (starts accepts wanted (octets c.args.path.now) depth path)
      knows (more_right accepts wanted (depth - 1) depth (omega arith) c.loop-depth.progress known.right) in
      let tried = subst (λ o. MatchOption o (IsTried accepts (up_to wanted depth) (octets c.args.path.now) depth c.climb.new.progress.refusal) (λ it. IsFound accepts (up_to wanted depth) it)) c.in_default.is goes.answer in
      record {
        right = more_right accepts wanted depth (depth + 1 - 1) (omega arith) c.climb.new.progress goes.right;
        below = one_more accepts wanted (octets c.args.path.now) path depth c.loop-depth.progress.refusal c.climb.new.progress.refusal goes.noted known.below tried (depth + 1) (omega arith);
      };
}

pub returns-clause-counted : goal.returns-clause-counted
returns-clause-counted g c =
    let end : c.loop-depth.depth ≡ suc c.args.max_depth = omega (arith, c.loop-depth-test.false, c.loop-depth.auto.depth-end) in
    subst (λ n. Takes (left_of c.args.progress.now) (left_of c.loop-depth.progress) (effort_below c.args.self.now.anchors.now c.args.self.now.pool.now n (octets c.args.path.now) c.args.issuer.now)) end c.loop-depth.invariant.counted

pub returns-clause-tells : goal.returns-clause-tells
returns-clause-tells g c = λ wanted searched deep path knows asked none.
    let accepts = g.V.SliceVerifier.accepts c.args.self.now.verifier.now in
    let known = c.loop-depth.invariant.tells wanted searched deep path knows asked none in
    let end : c.loop-depth.depth ≡ suc wanted.max_depth = omega (arith, c.loop-depth-test.false, c.loop-depth.auto.depth-end, deep) in
    (more_right accepts wanted (c.loop-depth.depth - 1) wanted.max_depth (omega (arith, end)) c.loop-depth.progress known.right, subst (λ n. AreTriedBelow accepts wanted n c.loop-depth.progress.refusal) end known.below)
