use Rattle.std.proofs.Common.{◌≡◌, ◌+◌, suc, arith, drop, slice_index_or, subst, sym}
use Rattle.std.proofs.lemmas.List.{drop_more}
use Rattle.x509_revocation.specs.Lent.{LendsGiven, question}
use Rattle.x509_revocation.proofs.Answered.{Goes, ended, further}
use Rattle.x509_revocation.proofs.revocation.ask_all.Goals as goal

pub returns-then-are_none : goal.returns-then-are_none
returns-then-are_none g c = λ certificate given lends points lent.
    let asked = question (g.V.SliceVerifier.accepts c.args.asked.now.verifier.now) c.args.asked.now.settings.now certificate in
    ended asked given c.loop-place.place c.loop-place.left (drop c.loop-place.place c.args.asked.now.crls.now) (c.are_none.ensures.0 c.if-are_none.true) (c.loop-place.invariant certificate given lends points lent)

pub loop-place-preserved : goal.loop-place-preserved
loop-place-preserved g c = λ certificate given lends points lent.
    let asked = question (g.V.SliceVerifier.accepts c.args.asked.now.verifier.now) c.args.asked.now.settings.now certificate in
    let first = slice_index_or c.args.asked.now.crls.now c.loop-place.place c.index-crls-place.result in
    let behind = drop (c.loop-place.place + 1) c.args.asked.now.crls.now in
    let goes = subst (λ lent. Goes asked given lent c.loop-place.place c.loop-place.left) (drop_more c.args.asked.now.crls.now c.loop-place.place c.index-crls-place.result (omega (arith, c.loop-place-test.true)))
    (c.loop-place.invariant certificate given lends points lent) in
    let next : suc c.loop-place.place ≡ c.loop-place.place + 1 = omega arith in
    subst (λ n. Goes asked given behind n c.in-Left.rest) next (further asked given c.loop-place.place c.loop-place.left first behind c.in-Left.rest goes (λ one lends_one. rw c.in-Left.is at (c.in_ok-rest.ensures certificate given one lends points lent (subst (λ x. LendsGiven x one) (sym c.index-crls-place.is) lends_one))))
