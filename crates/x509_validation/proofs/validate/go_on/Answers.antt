use Rattle.std.proofs.Common.{◌+◌, ◌<◌, ◌++◌, ◌∷◌, [], Err, Ok, false, length, subst, arith}
use Rattle.std.proofs.lemmas.Slice.Zip.{AllZip-long}
use Rattle.x509_path.proofs.Along.{zip_push}
use Rattle.x509_path_steps.specs.Says.{Says}
use Rattle.x509_path_steps.specs.Steps.{said_by}
use Rattle.x509_validation.proofs.PolicySteps.{passed, stopped}
use Rattle.x509_validation.proofs.validate.go_on.Goals as goal
use Rattle.x509_validation.specs.Judging.{JudgesAlone, standing}

pub returns-in-Err : goal.returns-in-Err
returns-in-Err g c = λ inputs above before n stands carries early more.
    subst (λ l. JudgesAlone (g.S.Trust.accepts c.args.validator.now.signatures.now) inputs (standing above before l n) c.args.bytes.now c.args.index (Err c.in-Err.e)) early
    (c.in-Err.ensures inputs above before n stands)

pub returns : goal.returns
returns g c = λ inputs above before n stands carries early more.
    let judged = c.in-Ok.ensures inputs above before n stands in
    let alone = subst (λ l. JudgesAlone (g.S.Trust.accepts c.args.validator.now.signatures.now) inputs (standing above before l n) c.args.bytes.now c.args.index (Ok judged.0)) early judged.2.1.1 in
    let same = AllZip-long Says before carries.said carries.say in
    let further : length carries.said + 1 < n = omega (arith, same, more) in
    stopped (g.S.Trust.accepts c.args.validator.now.signatures.now) inputs (standing above before false n) c.args.bytes.now judged.0 alone.0 alone.1 carries.settings carries.said (said_by c.in-Ok.judged.1.policies)
    carries.at_start carries.say judged.2.1.0 (omega (arith, further)) c.args.index c.in-Err-add_said.e (c.in-Err-add_said.ensures carries.settings n carries.said carries.follows further)

pub returns-in-Ok-add_said : goal.returns-in-Ok-add_said
returns-in-Ok-add_said g c = λ inputs above before n stands carries early more.
    let judged = c.in-Ok.ensures inputs above before n stands in
    let alone = subst (λ l. JudgesAlone (g.S.Trust.accepts c.args.validator.now.signatures.now) inputs (standing above before l n) c.args.bytes.now c.args.index (Ok judged.0)) early judged.2.1.1 in
    let same = AllZip-long Says before carries.said carries.say in
    let further : length carries.said + 1 < n = omega (arith, same, more) in
    let own = said_by c.in-Ok.judged.1.policies in
    let follows = c.in-Ok-add_said.ensures carries.settings n carries.said carries.follows further in (
      judged.0,
      judged.1,
      judged.2.0 early,
      record {
        settings = carries.settings;
        said = carries.said ++ own ∷ [];
        at_start = carries.at_start;
        say = zip_push Says before carries.said judged.0 own carries.say judged.2.1.0;
        follows = follows;
      },
      passed (g.S.Trust.accepts c.args.validator.now.signatures.now) inputs (standing above before false n) c.args.bytes.now judged.0 alone.0 alone.1 carries.settings carries.said own
          carries.at_start carries.say judged.2.1.0 (omega (arith, further)) c.args.index further c.add_said.new.state follows,
    )
