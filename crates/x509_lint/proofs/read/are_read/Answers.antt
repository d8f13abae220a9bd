use Rattle.std.proofs.Common.{refl, subst}
use Rattle.std.proofs.lemmas.List.Elements.{All-more}
use Rattle.std.proofs.lemmas.List.{take_all}
use Rattle.std.specs.List.{All}
use Rattle.x509_lint.specs.Read.{IsWellFormedAs}
use Rattle.x509_lint.proofs.read.are_read.Goals as goal

pub loop-extension-preserved : goal.loop-extension-preserved
loop-extension-preserved g c =
    let form = g.T.Grammar.form in
    let oid = g.T.AssociatedOid.OID in
    All-more (IsWellFormedAs form c.args.beyond oid) c.args.extensions.now c.loop-extension.extension-index c.extension-item.result c.loop-extension-test.true c.loop-extension.invariant
    (subst (IsWellFormedAs form c.args.beyond oid) c.extension-item.is (c.in_ok-is_well_formed_as.ensures.ok.0 c.if-not-branch.false))

pub returns-clause-ok : goal.returns-clause-ok
returns-clause-ok g c =
    let Read = IsWellFormedAs g.T.Grammar.form c.args.beyond g.T.AssociatedOid.OID in
    let all : All Read c.args.extensions.now = subst (All Read) (take_all c.loop-extension.extension-index c.args.extensions.now c.loop-extension-test.false) c.loop-extension.invariant in
    ((λ is. all), (λ is. refl))
