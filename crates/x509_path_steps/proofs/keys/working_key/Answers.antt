use Rattle.std.proofs.Common.{inl, inr}
use Rattle.std.proofs.lemmas.Result.{MatchResult-weaker, err_from_is_err_and}
use Rattle.x509_base.specs.SubjectPublicKeyInfo.{subject_public_key_info}
use Rattle.x509_path_steps.proofs.KeyAnswers.{as_it_is, filled, lent_none, lent_some, unfilled}
use Rattle.x509_path_steps.proofs.Refusals.{check_refused}
use Rattle.x509_path_steps.proofs.keys.working_key.Goals as goal
use Rattle.x509_path_steps.specs.Keys.{inherited, parameters_of}

pub returns-in_err-check : goal.returns-in_err-check
returns-in_err-check c =
    let p = err_from_is_err_and c.from_residual.result c.from_residual.ensures.1 in
    let h = c.in_err-check.ensures in
    rw (p.1, p.2) (inr (inl (check_refused subject_public_key_info (λ k. ⊥) c.args.above.now _ (λ k never. never) h.overlength h.refused (λ value spells. let ok = h.every value spells in cc) h.which)))

pub returns-in_err-check-2 : goal.returns-in_err-check-2
returns-in_err-check-2 c =
    let p = err_from_is_err_and c.from_residual-in_err-check-2.result c.from_residual-in_err-check-2.ensures.1 in
    let h = c.in_err-check-2.ensures in
    rw (p.1, p.2) (inr (inr (inl (check_refused subject_public_key_info (λ k. ⊥) c.args.key.now _ (λ k never. never) h.overlength h.refused (λ value spells. let ok = h.every value spells in cc) h.which))))

pub returns-in-Some : goal.returns-in-Some
returns-in-Some c =
    let (a, is_above) = c.in_ok-check.ensures.found in
    let (k, is_key) = c.in_ok-check-2.ensures.found in
    let left = c.left_to.ensures a k (c.new-trusted.ensures.key a is_above) is_key in
    let (x, some, spells) = lent_some c.left_to.result c.in-Some.parameters (inherited a k (parameters_of k)) c.in-Some.is left in
    MatchResult-weaker c.filled_in.result (c.filled_in.ensures k x is_key spells)
    (λ octets is. filled c.args.above.now c.args.key.now a k is_above is_key x some octets.items is)
    (λ e refused. unfilled c.args.above.now c.args.key.now a k is_above is_key x some e.kind refused)

pub returns-in_ok-from_slice-in-None : goal.returns-in_ok-from_slice-in-None
returns-in_ok-from_slice-in-None c =
    let (a, is_above) = c.in_ok-check.ensures.found in
    let (k, is_key) = c.in_ok-check-2.ensures.found in
    let left = c.left_to.ensures a k (c.new-trusted.ensures.key a is_above) is_key in
    as_it_is c.args.above.now c.args.key.now a k is_above is_key (lent_none c.left_to.result (inherited a k (parameters_of k)) c.in-None.is left) _ c.in_ok-from_slice-in-None.ensures.items
