use Rattle.std.proofs.Common.{◌++◌, ◌∷◌, [], refl, subst, sym}
use Rattle.std.specs.Option.{option_map}
use Rattle.x509_path_steps.proofs.PolicyRefusals.{refused_on}
use Rattle.x509_path_steps.proofs.policies.add_said.Goals as goal
use Rattle.x509_path_steps.specs.Policies.{IsRefused}
use Rattle.x509_path_steps.specs.Steps.{StopsAt, said_by}
use Rattle.x509_policy.specs.Follows.{Follows, IsAnswered, reason_of}
use Rattle.x509_policy.specs.Views.{certificate_of}

pub returns-in-Ok-None : goal.returns-in-Ok-None
returns-in-Ok-None c = λ settings n before follows more.
    let answered = subst (λ o. IsAnswered settings n before (certificate_of c.view.result) (option_map reason_of o) c.add.new.self) c.in-Ok-None.field-0-is (c.in-Ok-None.ensures.answer settings n before follows) in
    subst (λ own. Follows settings n (before ++ own ∷ []) c.add.new.self) c.view.ensures answered

pub returns-in-Ok-Some : goal.returns-in-Ok-Some
returns-in-Ok-Some c = λ settings n before follows more.
    let answered = subst (λ o. IsAnswered settings n before (certificate_of c.view.result) (option_map reason_of o) c.add.new.self) c.in-Ok-Some.field-0-is (c.in-Ok-Some.ensures.answer settings n before follows) in
    let refused = refused_on settings before (certificate_of c.view.result) (reason_of c.in-Ok-Some.reason) n more c.add.new.self answered in
    subst (λ e. StopsAt settings n before (said_by c.args.said.now) c.args.place e) (sym c.refused.ensures) (record {
      why = reason_of c.in-Ok-Some.reason;
      here = refl;
      told = refl;
      refused = subst (λ own. IsRefused settings n before own (reason_of c.in-Ok-Some.reason)) c.view.ensures refused;
    })
