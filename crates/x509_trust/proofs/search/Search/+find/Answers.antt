use Rattle.std.proofs.Common.{◌≡◌, ◌∙◌, suc, Ok, Err, sym, ap, subst, arith}
use Rattle.std.proofs.lemmas.List.Elements.{All-contains}
use Rattle.std.specs.List.{All, Contains}
use Rattle.std.specs.Prelude.{MatchOption}
use Rattle.x509_trust.specs.Limits.{IsWithout, KeepsWithout, OfPaths}
use Rattle.x509_trust.specs.Peers.{IsBarred, Passes}
use Rattle.x509_trust.specs.Searched.{AnswersAbove, pool_of}
use Rattle.x509_verify.specs.Effort.{KeepsLimits}
use Rattle.x509_verify.specs.Found.{Answers, Wanted, octets}
use Rattle.x509_verify.specs.Given.{candidates_of, trusted_of}
use Rattle.x509_verify.specs.declared.find_error.FindError.TheVariants.{Memory}
use Rattle.x509_trust.proofs.Without.{all_asked, behind, keeps_behind, keeps_own, one_barred, over}
use Rattle.x509_trust.proofs.search.Search.+find.Goals as goal

pub returns-in-Ok-None-clause-answers : goal.returns-in-Ok-None-clause-answers
returns-in-Ok-None-clause-answers g t c = λ given lends.
    let accepts = g.V.SliceVerifier.accepts c.args.self.now.verifier.now in
    let check = c.args.check.now in
    let search = c.args.self.now in
    let wanted : Wanted = record {
      settings = search.path.now;
      trusted = trusted_of search.anchors.now;
      candidates = candidates_of (pool_of c.args.candidates);
      max_depth = search.limits.now.max_depth;
      leaf = search.leaf.now;
    } in
    let (found, shortest) = subst (λ p. Answers accepts (over wanted (candidates_of p)) (Ok c.in-Ok.found)) c.pool-pool.ensures c.in-Ok.ensures.answers in
    let asked = c.above_last-above.ensures found.above search.leaf.now (ap octets c.as_slice.ensures.value ∙ found.path) in
    let pass = subst (λ o. MatchOption o (All (Passes accepts check given) (octets c.above_last-above.result.now))
    (λ refused. Contains (octets c.above_last-above.result.now) refused.certificate.now × IsBarred accepts check given refused.certificate.now refused.status))
    c.in-Ok-None.field-0-is (c.in-Ok-None.ensures given lends) in record {
      found = found;
      passes = subst (All (Passes accepts check given)) asked pass;
      shortest = λ trusted above leads passes. shortest trusted above leads;
    }

pub returns-in_default-clause-answers : goal.returns-in_default-clause-answers
returns-in_default-clause-answers g t c = λ given lends.
    let accepts = g.V.SliceVerifier.accepts c.args.self.now.verifier.now in
    let check = c.args.check.now in
    let search = c.args.self.now in
    let wanted : Wanted = record {
      settings = search.path.now;
      trusted = trusted_of search.anchors.now;
      candidates = candidates_of (pool_of c.args.candidates);
      max_depth = search.limits.now.max_depth;
      leaf = search.leaf.now;
    } in
    let (found, shortest) = subst (λ p. Answers accepts (over wanted (candidates_of p)) (Ok c.in-Ok.found)) c.pool-pool.ensures c.in-Ok.ensures.answers in
    let asked = c.above_last-above.ensures found.above search.leaf.now (ap octets c.as_slice.ensures.value ∙ found.path) in
    let bars = subst (λ o. MatchOption o (All (Passes accepts check given) (octets c.above_last-above.result.now))
    (λ refused. Contains (octets c.above_last-above.result.now) refused.certificate.now × IsBarred accepts check given refused.certificate.now refused.status))
    c.in-Ok-Some.field-0-is (c.in-Ok-Some.ensures given lends) in
    let bytes = c.in-Ok-Some.refused.certificate.now in
    let there = subst (λ xs. Contains xs bytes) asked bars.0 in
    let all = all_asked check.scope found.above bytes there in
    let among = All-contains (λ b. Contains wanted.candidates b) found.above bytes found.leads.stand.known (subst (λ xs. Contains xs bytes) (all found.above) there) in
    one_barred accepts check given wanted.candidates c.in-Ok-Some.refused c.args.left (omega (arith, c.in_default.ensures)) bars.1 among

pub returns-clause-bounded : goal.returns-clause-bounded
returns-clause-bounded g t c = λ given lends.
    let accepts = g.V.SliceVerifier.accepts c.args.self.now.verifier.now in
    let check = c.args.check.now in
    let search = c.args.self.now in
    let wanted : Wanted = record {
      settings = search.path.now;
      trusted = trusted_of search.anchors.now;
      candidates = candidates_of (pool_of c.args.candidates);
      max_depth = search.limits.now.max_depth;
      leaf = search.leaf.now;
    } in
    let (found, shortest) = subst (λ p. Answers accepts (over wanted (candidates_of p)) (Ok c.in-Ok.found)) c.pool-pool.ensures c.in-Ok.ensures.answers in
    let asked = c.above_last-above.ensures found.above search.leaf.now (ap octets c.as_slice.ensures.value ∙ found.path) in
    let bars = subst (λ o. MatchOption o (All (Passes accepts check given) (octets c.above_last-above.result.now))
    (λ refused. Contains (octets c.above_last-above.result.now) refused.certificate.now × IsBarred accepts check given refused.certificate.now refused.status))
    c.in-Ok-Some.field-0-is (c.in-Ok-Some.ensures given lends) in
    let bytes = c.in-Ok-Some.refused.certificate.now in
    let there = subst (λ xs. Contains xs bytes) asked bars.0 in
    let all = all_asked check.scope found.above bytes there in
    let among = All-contains (λ b. Contains wanted.candidates b) found.above bytes found.leads.stand.known (subst (λ xs. Contains xs bytes) (all found.above) there) in
    let pool = pool_of c.args.candidates in
    let keeps = KeepsWithout accepts check given search.anchors.now search.limits.now search.leaf.now in
    let more : c.args.left ≡ suc c.in-Some.fewer = omega (arith, c.in-Some.ensures) in
    let without = subst (λ p. IsWithout p bytes c.in-Ok-without.rest) c.pool-pool.ensures c.in-Ok-without.ensures in
    subst (λ n. OfPaths (keeps n pool) c.told_behind.result) (sym more) (subst (λ r. OfPaths (keeps (suc c.in-Some.fewer) pool) r) (sym c.told_behind.ensures)
    (keeps_behind accepts check given search.anchors.now search.limits.now search.leaf.now c.in-Some.fewer pool c.in-Ok-without.rest c.in-Ok-Some.refused bars.1 among without
    c.find.result (c.find.ensures.bounded given lends)))

pub returns-clause-answers : goal.returns-clause-answers
returns-clause-answers g t c = λ given lends.
    let accepts = g.V.SliceVerifier.accepts c.args.self.now.verifier.now in
    let check = c.args.check.now in
    let search = c.args.self.now in
    let wanted : Wanted = record {
      settings = search.path.now;
      trusted = trusted_of search.anchors.now;
      candidates = candidates_of (pool_of c.args.candidates);
      max_depth = search.limits.now.max_depth;
      leaf = search.leaf.now;
    } in
    let (found, shortest) = subst (λ p. Answers accepts (over wanted (candidates_of p)) (Ok c.in-Ok.found)) c.pool-pool.ensures c.in-Ok.ensures.answers in
    let asked = c.above_last-above.ensures found.above search.leaf.now (ap octets c.as_slice.ensures.value ∙ found.path) in
    let bars = subst (λ o. MatchOption o (All (Passes accepts check given) (octets c.above_last-above.result.now))
    (λ refused. Contains (octets c.above_last-above.result.now) refused.certificate.now × IsBarred accepts check given refused.certificate.now refused.status))
    c.in-Ok-Some.field-0-is (c.in-Ok-Some.ensures given lends) in
    let bytes = c.in-Ok-Some.refused.certificate.now in
    let there = subst (λ xs. Contains xs bytes) asked bars.0 in
    let all = all_asked check.scope found.above bytes there in
    let among = All-contains (λ b. Contains wanted.candidates b) found.above bytes found.leads.stand.known (subst (λ xs. Contains xs bytes) (all found.above) there) in
    let (count, many, below) = c.in-Ok.ensures.bounded in
    let more : c.args.left ≡ suc c.in-Some.fewer = omega (arith, c.in-Some.ensures) in
    let without = subst (λ p. IsWithout p bytes c.in-Ok-without.rest) c.pool-pool.ensures c.in-Ok-without.ensures in
    subst (λ n. AnswersAbove accepts wanted check given n c.told_behind.result) (sym more) (subst (λ r. AnswersAbove accepts wanted check given (suc c.in-Some.fewer) r) (sym c.told_behind.ensures)
    (behind accepts wanted (candidates_of c.in-Ok-without.rest) check given c.in-Ok-Some.refused bars.1
    (c.in-Ok.found.trusted, found.above, found.leads, subst (λ xs. Contains xs bytes) (all found.above) there) among without all c.one_status.ensures (below.certificate, below.spells)
    c.in-Some.fewer c.find.result (c.find.ensures.answers given lends)))

pub returns-in-Err-clause-answers : goal.returns-in-Err-clause-answers
returns-in-Err-clause-answers g t c = λ given lends.
    let search = c.args.self.now in
    let wanted : Wanted = record {
      settings = search.path.now;
      trusted = trusted_of search.anchors.now;
      candidates = candidates_of (pool_of c.args.candidates);
      max_depth = search.limits.now.max_depth;
      leaf = search.leaf.now;
    } in
    subst (λ p. Answers (g.V.SliceVerifier.accepts search.verifier.now) (over wanted (candidates_of p)) (Err c.in-Err.e)) c.pool-pool.ensures c.in-Err.ensures.answers

pub returns-in-Err-clause-bounded : goal.returns-in-Err-clause-bounded
returns-in-Err-clause-bounded g t c = λ given lends.
    let search = c.args.self.now in
    keeps_own (g.V.SliceVerifier.accepts search.verifier.now) c.args.check.now given search.anchors.now search.limits.now search.leaf.now c.args.left (pool_of c.args.candidates) (Err c.in-Err.e)
    (subst (λ p. KeepsLimits search.anchors.now p search.limits.now search.leaf.now (Err c.in-Err.e)) c.pool-pool.ensures c.in-Err.ensures.bounded)

pub returns-in-Ok-None-clause-bounded : goal.returns-in-Ok-None-clause-bounded
returns-in-Ok-None-clause-bounded g t c = λ given lends.
    let search = c.args.self.now in
    keeps_own (g.V.SliceVerifier.accepts search.verifier.now) c.args.check.now given search.anchors.now search.limits.now search.leaf.now c.args.left (pool_of c.args.candidates) (Ok c.in-Ok.found)
    (subst (λ p. KeepsLimits search.anchors.now p search.limits.now search.leaf.now (Ok c.in-Ok.found)) c.pool-pool.ensures c.in-Ok.ensures.bounded)

pub returns-in-Err-first_refused-clause-bounded : goal.returns-in-Err-first_refused-clause-bounded
returns-in-Err-first_refused-clause-bounded g t c = λ given lends.
    let search = c.args.self.now in
    keeps_own (g.V.SliceVerifier.accepts search.verifier.now) c.args.check.now given search.anchors.now search.limits.now search.leaf.now c.args.left (pool_of c.args.candidates) (Err Memory) tt

pub returns-in-Err-without-clause-bounded : goal.returns-in-Err-without-clause-bounded
returns-in-Err-without-clause-bounded g t c = λ given lends.
    let search = c.args.self.now in
    keeps_own (g.V.SliceVerifier.accepts search.verifier.now) c.args.check.now given search.anchors.now search.limits.now search.leaf.now c.args.left (pool_of c.args.candidates) (Err Memory) tt
