use Rattle.std.proofs.Common.{map}
use Rattle.x509_policy.specs.Views.{certificate_of, settings_of}
use Rattle.x509_policy.proofs.Paths.{refused_here, goes_on_here, all_follow}
use Rattle.x509_policy.proofs.state.check_policies.Goals as goal

pub returns-in-Some-clause-answer : goal.returns-in-Some-clause-answer
returns-in-Some-clause-answer c =
    refused_here c.args.path.now c.loop-place.place _ (certificate_of c.args.last.now) c.loop-place-test.true (settings_of c.args.settings.now) c.add.new.self c.in_ok-reason.field-0 c.in-Some.reason c.in-Some.is
    (c.in_ok-reason.ensures.answer _ _ _ c.loop-place.invariant)

pub loop-place-preserved : goal.loop-place-preserved
loop-place-preserved c =
    goes_on_here c.args.path.now c.loop-place.place _ (certificate_of c.args.last.now) c.loop-place-test.true (settings_of c.args.settings.now) c.add.new.self c.in_ok-reason.field-0 c.in_default.not-Some
    (c.in_ok-reason.ensures.answer _ _ _ c.loop-place.invariant)

pub returns-clause-answer : goal.returns-clause-answer
returns-clause-answer c = c.finish.ensures.answer (settings_of c.args.settings.now) (map certificate_of c.args.path.now) (all_follow _ c.args.path.now c.loop-place.place _ c.loop-place-test.false c.loop-place.invariant)
