use Rattle.std.proofs.Common.{◌≡◌, Bor, List, ℕ, ◌++◌, ◌∷◌, [], Err, Ok, suc, true, length, sym, subst, arith}
use Rattle.std.proofs.lemmas.Slice.Zip.{AllZip-long}
use Rattle.x509_der.specs.Any.{any}
use Rattle.x509_path.proofs.Along.{zip_push}
use Rattle.x509_path_steps.proofs.WorkingKeys.{one_behind}
use Rattle.x509_path_steps.specs.Inputs.{SpellsOption}
use Rattle.x509_path_steps.specs.Keys.{key_behind, parameters_of, working_key}
use Rattle.x509_path_steps.specs.Says.{Says}
use Rattle.x509_path_steps.specs.Steps.{StopsAt, said_by}
use Rattle.x509_policy.specs.Follows.{Follows}
use Rattle.x509_policy.specs.Views.{octets_of}
use Rattle.x509_validation.proofs.LentPaths.{one_lent}
use Rattle.x509_validation.proofs.PolicySteps.{ended, stopped}
use Rattle.x509_validation.proofs.validate.end.Goals as goal
use Rattle.x509_validation.specs.Judging.{JudgesAlone, standing}

pub returns-in-Err : goal.returns-in-Err
returns-in-Err g c = λ inputs above before stands carries late.
    subst (λ l. JudgesAlone (g.S.Trust.accepts c.args.validator.now.signatures.now) inputs (standing above before l (suc (length before))) c.args.bytes.now c.args.index (Err c.in-Err.e)) late
    (c.in-Err.ensures inputs above before (suc (length before)) stands)

pub returns : goal.returns
returns g c = λ inputs above before stands carries late.
    let n = suc (length before) in
    let judged = c.in-Ok.ensures inputs above before n stands in
    let alone = subst (λ l. JudgesAlone (g.S.Trust.accepts c.args.validator.now.signatures.now) inputs (standing above before l n) c.args.bytes.now c.args.index (Ok judged.0)) late judged.2.1.1 in
    let same : suc (length before) ≡ suc (length carries.said) = omega (arith, AllZip-long Says before carries.said carries.say) in
    let follows = subst (λ k. Follows carries.settings k carries.said c.args.state.now) same carries.follows in
    let stops = subst (λ k. StopsAt carries.settings k carries.said (said_by c.in-Ok.judged.1.policies) c.args.index c.in-Err-end_said.e) (sym same) (c.in-Err-end_said.ensures carries.settings carries.said follows) in
    stopped (g.S.Trust.accepts c.args.validator.now.signatures.now) inputs (standing above before true n) c.args.bytes.now judged.0 alone.0 alone.1 carries.settings carries.said (said_by c.in-Ok.judged.1.policies)
    carries.at_start carries.say judged.2.1.0 (omega (arith, same)) c.args.index c.in-Err-end_said.e stops

pub returns-in-Ok-end_said : goal.returns-in-Ok-end_said
returns-in-Ok-end_said g c = λ inputs above before stands carries late.
    let n = suc (length before) in
    let judged = c.in-Ok.ensures inputs above before n stands in
    let alone = subst (λ l. JudgesAlone (g.S.Trust.accepts c.args.validator.now.signatures.now) inputs (standing above before l n) c.args.bytes.now c.args.index (Ok judged.0)) late judged.2.1.1 in
    let same : suc (length before) ≡ suc (length carries.said) = omega (arith, AllZip-long Says before carries.said carries.say) in
    let follows = subst (λ k. Follows carries.settings k carries.said c.args.state.now) same carries.follows in
    let own = said_by c.in-Ok.judged.1.policies in
    let (outcome, once) = c.in-Ok-end_said.ensures carries.settings carries.said follows in (
      judged.0,
      c.below-below.ensures.anchor judged.0 judged.1,
      subst (λ k. SpellsOption (λ (l : Bor (List ℕ)). l.now) any c.parameters.result (parameters_of k)) (sym (one_behind inputs.trust.anchor.key before judged.0))
          (c.parameters.ensures (working_key (key_behind inputs.trust.anchor.key before) judged.0.tbs_certificate.subject_public_key_info)
          (c.below-below.ensures.key judged.0 (key_behind inputs.trust.anchor.key before) judged.1 stands.key)),
      record {
        settings = carries.settings;
        said = carries.said ++ own ∷ [];
        at_start = carries.at_start;
        say = zip_push Says before carries.said judged.0 own carries.say judged.2.1.0;
        outcome = outcome;
        once = once;
      },
      one_lent (λ certificate. certificate.bytes.now) c.args.certificates.items c.push.new.self.items c.in-Ok.judged.0 c.args.bytes.now judged.0 c.in-Ok-push.ensures.items judged.1 alone.0,
      ended (g.S.Trust.accepts c.args.validator.now.signatures.now) inputs (standing above before true n) c.args.bytes.now judged.0 alone.0 alone.1 carries.settings carries.said own
          carries.at_start carries.say judged.2.1.0 (omega (arith, same)) c.args.index (omega (arith, same)) (octets_of c.in-Ok-end_said.policies.items) outcome,
    )
