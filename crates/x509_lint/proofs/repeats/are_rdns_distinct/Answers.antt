use Rattle.std.proofs.Common.{refl, subst}
use Rattle.std.proofs.lemmas.List.Elements.{All-more}
use Rattle.std.proofs.lemmas.List.{take_all}
use Rattle.std.specs.List.{All}
use Rattle.x509_lint.specs.Values.{HasDistinctTypes}
use Rattle.x509_lint.proofs.repeats.are_rdns_distinct.Goals as goal

pub loop-rdn-preserved : goal.loop-rdn-preserved
loop-rdn-preserved c =
    All-more HasDistinctTypes c.args.rdns.now c.loop-rdn.rdn-index c.rdn-item.result c.loop-rdn-test.true c.loop-rdn.invariant
    (subst HasDistinctTypes c.rdn-item.is (c.in_ok-has_distinct_types.ensures.ok.0 c.if-not-branch.false))

pub returns-clause-ok : goal.returns-clause-ok
returns-clause-ok c =
    let all : All HasDistinctTypes c.args.rdns.now = subst (All HasDistinctTypes) (take_all c.loop-rdn.rdn-index c.args.rdns.now c.loop-rdn-test.false) c.loop-rdn.invariant in
    ((λ is. all), (λ is. refl))
