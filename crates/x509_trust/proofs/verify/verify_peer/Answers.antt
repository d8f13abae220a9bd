use Rattle.std.proofs.Common.{Some, Err, sym, subst}
use Rattle.x509_path.specs.Lent.{Lends}
use Rattle.x509_trust.specs.Peers.{AnswersPeer, FindsUsable, LendsCrls, NamesPeer}
use Rattle.x509_verify.specs.Found.{Wanted}
use Rattle.x509_verify.specs.Given.{candidates_of, trusted_of}
use Rattle.x509_verify.specs.declared.find_error.FindError.TheVariants.{Decode}
use Rattle.x509_trust.proofs.Answered.{keeps_all, named}
use Rattle.x509_trust.proofs.verify.verify_peer.Goals as goal

pub returns-in_default-clause-bounded : goal.returns-in_default-clause-bounded
returns-in_default-clause-bounded g c = λ given lends.
    keeps_all (g.V.SliceVerifier.accepts c.args.verifier.now) c.args.settings.now.revocation given c.args.anchors.now c.args.settings.now.limits c.args.leaf.now c.args.pool.now (Err Decode) tt

pub returns-in-Some-clause-answers : goal.returns-in-Some-clause-answers
returns-in-Some-clause-answers g c = λ given lends.
    let accepts = g.V.SliceVerifier.accepts c.args.verifier.now in
    let name = c.args.settings.now.name in
    let (certificate, spells) = c.in-Ok.ensures.found.1 in
    let here = c.in-Ok.ensures.found.0 in
    let names = subst (NamesPeer name) here ((c.names_peer.ensures certificate (subst (λ b. Lends b certificate) (sym here) spells)).0 c.if-not-names_peer.false) in
    let wanted : Wanted = record {
      settings = c.args.settings.now.path;
      trusted = trusted_of c.args.anchors.now;
      candidates = candidates_of c.args.pool.now;
      max_depth = c.args.settings.now.limits.max_depth;
      leaf = c.args.leaf.now;
    } in
    subst (λ r. AnswersPeer accepts wanted name r given c.find_unrevoked.result) (sym c.in-Some.is)
    (named accepts wanted name (Some c.in-Some.check) given c.find_unrevoked.result names (c.find_unrevoked.ensures.answers given (subst (λ r. LendsCrls r given) c.in-Some.is lends)))

pub returns-in-Ok-find_path-clause-answers : goal.returns-in-Ok-find_path-clause-answers
returns-in-Ok-find_path-clause-answers g c = λ given lends.
    let accepts = g.V.SliceVerifier.accepts c.args.verifier.now in
    let name = c.args.settings.now.name in
    let (certificate, spells) = c.in-Ok.ensures.found.1 in
    let here = c.in-Ok.ensures.found.0 in
    let names = subst (NamesPeer name) here ((c.names_peer.ensures certificate (subst (λ b. Lends b certificate) (sym here) spells)).0 c.if-not-names_peer.false) in
    let wanted : Wanted = record {
      settings = c.args.settings.now.path;
      trusted = trusted_of c.args.anchors.now;
      candidates = candidates_of c.args.pool.now;
      max_depth = c.args.settings.now.limits.max_depth;
      leaf = c.args.leaf.now;
    } in
    let (found, shortest) = c.in-Ok-find_path.ensures.answers in (
      names,
      subst (λ r. FindsUsable accepts wanted r given c.in-Ok-find_path.found) (sym c.in-None.is) (record {
        found = found;
        passes = tt;
        shortest = λ trusted above usable. shortest trusted above usable.leads;
      }),
    )
