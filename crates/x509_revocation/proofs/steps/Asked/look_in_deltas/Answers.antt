use Rattle.std.proofs.Common.{◌+◌, ap, arith, drop, refl, slice_index_or, subst, sym}
use Rattle.std.proofs.lemmas.List.{drop_all, drop_more}
use Rattle.x509_revocation.specs.Lent.{LendsGiven, question}
use Rattle.x509_revocation.proofs.Newest.{Sees, ended, found_none, found_one, further, passed}
use Rattle.x509_revocation.specs.declared.signed_crl.SignedCrl.{SignedCrl}
use Rattle.x509_revocation.proofs.steps.Asked.look_in_deltas.Goals as goal

pub loop-place-preserved : goal.loop-place-preserved
loop-place-preserved g c = λ certificate all complete lends lent named.
    let asked = question (g.V.SliceVerifier.accepts c.args.self.now.verifier.now) c.args.self.now.settings.now certificate in
    let crls = c.args.self.now.crls.now in
    let first = slice_index_or crls c.loop-place.place c.index-crls-place.result in
    let behind = drop (c.loop-place.place + 1) crls in
    let sees = subst (λ l. Sees asked c.args.is_indirect complete all l c.loop-place.place c.loop-place.newest c.loop-place.found)
    (drop_more crls c.loop-place.place c.index-crls-place.result (omega (arith, c.loop-place-test.true)))
    (c.loop-place.invariant certificate all complete lends lent named) in
    further asked c.args.is_indirect complete all c.loop-place.place c.loop-place.newest c.loop-place.found first behind _ c.in-Some.entry refl (ap (λ (x : SignedCrl). x.crl) c.index-crls-place.is) sees (λ given lends_one.
    let one = subst (λ x. LendsGiven x given) (sym c.index-crls-place.is) lends_one in
    rw c.in-Some.is at (c.in-Ok.ensures certificate complete given lends named one.crl one.bytes))

pub loop-place-preserved-in_default : goal.loop-place-preserved-in_default
loop-place-preserved-in_default g c = λ certificate all complete lends lent named.
    let asked = question (g.V.SliceVerifier.accepts c.args.self.now.verifier.now) c.args.self.now.settings.now certificate in
    let crls = c.args.self.now.crls.now in
    let first = slice_index_or crls c.loop-place.place c.index-crls-place.result in
    let behind = drop (c.loop-place.place + 1) crls in
    let sees = subst (λ l. Sees asked c.args.is_indirect complete all l c.loop-place.place c.loop-place.newest c.loop-place.found)
    (drop_more crls c.loop-place.place c.index-crls-place.result (omega (arith, c.loop-place-test.true)))
    (c.loop-place.invariant certificate all complete lends lent named) in
    passed asked c.args.is_indirect complete all c.loop-place.place c.loop-place.newest c.loop-place.found first behind sees (λ given lends_one.
    let one = subst (λ x. LendsGiven x given) (sym c.index-crls-place.is) lends_one in
    rw c.in_default.is at (c.in-Ok.ensures certificate complete given lends named one.crl one.bytes))

pub returns-in-None : goal.returns-in-None
returns-in-None g c = λ certificate all complete lends lent named.
    let asked = question (g.V.SliceVerifier.accepts c.args.self.now.verifier.now) c.args.self.now.settings.now certificate in
    let crls = c.args.self.now.crls.now in
    let sees = subst (λ l. Sees asked c.args.is_indirect complete all l c.loop-place.place c.loop-place.newest c.loop-place.found)
    (drop_all c.loop-place.place crls (omega (arith, c.loop-place-test.false)))
    (c.loop-place.invariant certificate all complete lends lent named) in
    found_none asked c.args.is_indirect complete all (rw c.in-None.is at (ended asked c.args.is_indirect complete all c.loop-place.place c.loop-place.newest c.loop-place.found sees))

pub returns-in-Some-newest : goal.returns-in-Some-newest
returns-in-Some-newest g c = λ certificate all complete lends lent named.
    let asked = question (g.V.SliceVerifier.accepts c.args.self.now.verifier.now) c.args.self.now.settings.now certificate in
    let crls = c.args.self.now.crls.now in
    let sees = subst (λ l. Sees asked c.args.is_indirect complete all l c.loop-place.place c.loop-place.newest c.loop-place.found)
    (drop_all c.loop-place.place crls (omega (arith, c.loop-place-test.false)))
    (c.loop-place.invariant certificate all complete lends lent named) in
    found_one asked c.args.is_indirect complete all c.in-Some-newest.it c.loop-place.found (rw c.in-Some-newest.is at (ended asked c.args.is_indirect complete all c.loop-place.place c.loop-place.newest c.loop-place.found sees))
