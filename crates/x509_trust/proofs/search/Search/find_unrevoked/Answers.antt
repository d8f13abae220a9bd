use Rattle.std.proofs.Common.{inl, inr, [], ◌∷◌, Err, subst, arith}
use Rattle.std.specs.List.{All, Contains}
use Rattle.std.specs.Prelude.{MatchOption}
use Rattle.x509_trust.specs.Peers.{IsBarred, Passes}
use Rattle.x509_verify.specs.declared.find_error.FindError.TheVariants.{Memory}
use Rattle.x509_trust.proofs.Answered.{of_barred, of_error, of_found}
use Rattle.x509_trust.proofs.Without.{found_decodable, keeps_own}
use Rattle.x509_trust.proofs.search.Search.find_unrevoked.Goals as goal
use Rattle.x509_verify.proofs.Keys.{first_or_behind}

pub returns-in-Err-clause-answers : goal.returns-in-Err-clause-answers
returns-in-Err-clause-answers g c = λ given lends. of_error (g.V.SliceVerifier.accepts c.args.self.now.verifier.now) _ c.args.check.now given c.in-Err.e (c.in-Err.ensures.answers given lends)

pub returns-in-Ok-None-clause-answers : goal.returns-in-Ok-None-clause-answers
returns-in-Ok-None-clause-answers g c = λ given lends.
    let accepts = g.V.SliceVerifier.accepts c.args.self.now.verifier.now in
    let leaf = c.args.self.now.leaf.now in
    let check = c.args.check.now in
    let pass = subst (λ o. MatchOption o (All (Passes accepts check given) (leaf ∷ []))
    (λ refused. Contains (leaf ∷ []) refused.certificate.now × IsBarred accepts check given refused.certificate.now refused.status))
    c.in-Ok-None.field-0-is (c.in-Ok-None.ensures given lends) in
    of_found accepts _ check given c.in-Ok.found (c.in-Ok.ensures.answers given lends) (pass 0 leaf (omega arith))

pub returns-in-Ok-Some-clause-answers : goal.returns-in-Ok-Some-clause-answers
returns-in-Ok-Some-clause-answers g c = λ given lends.
    let accepts = g.V.SliceVerifier.accepts c.args.self.now.verifier.now in
    let leaf = c.args.self.now.leaf.now in
    let check = c.args.check.now in
    let bars = subst (λ o. MatchOption o (All (Passes accepts check given) (leaf ∷ []))
    (λ refused. Contains (leaf ∷ []) refused.certificate.now × IsBarred accepts check given refused.certificate.now refused.status))
    c.in-Ok-Some.field-0-is (c.in-Ok-Some.ensures given lends) in
    of_barred accepts _ check given c.in-Ok.found c.in-Ok-Some.refused (c.in-Ok.ensures.answers given lends) c.one_status.ensures
    (elim (first_or_behind leaf [] c.in-Ok-Some.refused.certificate.now bars.0) [ inl is ↦ is | inr (k, less, is) ↦ absurd (omega (arith, less)) ]) bars.1

pub returns-clause-answers : goal.returns-clause-answers
returns-clause-answers g c = λ given lends.
    let accepts = g.V.SliceVerifier.accepts c.args.self.now.verifier.now in
    found_decodable accepts c.args.check.now given c.args.self.now.anchors.now c.args.self.now.limits.now c.args.self.now.leaf.now c.args.check.now.max_refused c.args.pool.now c.in-Ok.found
    (c.in-Ok.ensures.bounded given lends)

pub returns-clause-bounded : goal.returns-clause-bounded
returns-clause-bounded g c = λ given lends.
    let search = c.args.self.now in
    keeps_own (g.V.SliceVerifier.accepts search.verifier.now) c.args.check.now given search.anchors.now search.limits.now search.leaf.now c.args.check.now.max_refused c.args.pool.now (Err Memory) tt
