use Rattle.std.proofs.Common.{◌∙◌, ◌+◌, drop, get_or, refl, subst, sym}
use Rattle.std.proofs.lemmas.Bool.{true≢false}
use Rattle.std.proofs.lemmas.List.{drop_all, drop_more}
use Rattle.x509_revocation.specs.Lent.{LendsGiven, question}
use Rattle.x509_revocation.specs.Says.{Replaces}
use Rattle.x509_revocation.proofs.Lists.{Left, fails_left, next_left, none_left}
use Rattle.x509_revocation.proofs.Signed.{never}
use Rattle.x509_revocation.proofs.steps.Asked.is_current.Goals as goal

pub loop-other-preserved : goal.loop-other-preserved
loop-other-preserved g c = λ certificate all older lends lent named.
    let asked = question (g.V.SliceVerifier.accepts c.args.self.now.verifier.now) c.args.self.now.settings.now certificate in
    let crls = c.args.self.now.crls.now in
    let first = get_or crls c.loop-other.other-index c.other-item.result in
    let behind = drop (c.loop-other.other-index + 1) crls in
    let left = subst (λ l. Left (λ newer. Replaces asked c.args.is_indirect newer older → ⊥) all l) (drop_more crls c.loop-other.other-index c.other-item.result c.loop-other-test.true) (c.loop-other.invariant certificate all older lends lent named) in
    next_left (λ newer. Replaces asked c.args.is_indirect newer older → ⊥) all first behind left (λ given lends_one replaces.
    let one = subst (λ x. LendsGiven x given) (sym c.other-item.is) lends_one in
    true≢false (sym ((c.in_ok-replaces.ensures certificate older given lends named one).1 replaces) ∙ c.if-replaces.false))

pub returns-then-replaces : goal.returns-then-replaces
returns-then-replaces g c = λ certificate all older lends lent named.
    let asked = question (g.V.SliceVerifier.accepts c.args.self.now.verifier.now) c.args.self.now.settings.now certificate in
    let crls = c.args.self.now.crls.now in
    let first = get_or crls c.loop-other.other-index c.other-item.result in
    let behind = drop (c.loop-other.other-index + 1) crls in
    let left = subst (λ l. Left (λ newer. Replaces asked c.args.is_indirect newer older → ⊥) all l) (drop_more crls c.loop-other.other-index c.other-item.result c.loop-other-test.true) (c.loop-other.invariant certificate all older lends lent named) in
    never (λ every. fails_left (λ newer. Replaces asked c.args.is_indirect newer older → ⊥) all first behind left (λ given lends_one none.
    let one = subst (λ x. LendsGiven x given) (sym c.other-item.is) lends_one in
    none ((c.in_ok-replaces.ensures certificate older given lends named one).0 c.if-replaces.true)) every)

pub returns : goal.returns
returns g c = λ certificate all older lends lent named.
    let asked = question (g.V.SliceVerifier.accepts c.args.self.now.verifier.now) c.args.self.now.settings.now certificate in
    let crls = c.args.self.now.crls.now in
    let left = subst (λ l. Left (λ newer. Replaces asked c.args.is_indirect newer older → ⊥) all l) (drop_all c.loop-other.other-index crls c.loop-other-test.false) (c.loop-other.invariant certificate all older lends lent named) in
    ((λ is. none_left (λ newer. Replaces asked c.args.is_indirect newer older → ⊥) all left), (λ every. refl))
