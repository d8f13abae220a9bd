use Rattle.std.proofs.Common.{◌++◌, ◌∷◌, [], suc, length, refl, subst, sym}
use Rattle.x509_path_steps.proofs.PolicyRefusals.{refused_last}
use Rattle.x509_path_steps.proofs.policies.end_said.Goals as goal
use Rattle.x509_path_steps.specs.Policies.{IsRefused}
use Rattle.x509_path_steps.specs.Steps.{StopsAt, said_by}
use Rattle.x509_policy.specs.Follows.{EachOnce, IsOutcome, outcome_of, reason_of}
use Rattle.x509_policy.specs.Path.{Valid}
use Rattle.x509_policy.specs.Views.{certificate_of, octets_of}

pub returns-in-Ok-Refused : goal.returns-in-Ok-Refused
returns-in-Ok-Refused c = λ settings before follows.
    let outcome = subst (λ o. IsOutcome settings (before ++ certificate_of c.view.result ∷ []) (outcome_of o)) c.in-Ok-Refused.field-0-is (c.in-Ok-Refused.ensures.answer settings before follows) in
    let refused = refused_last settings before (certificate_of c.view.result) (reason_of c.in-Ok-Refused.reason) c.args.state.now follows c.in-Ok-Refused.field-0-0 outcome in
    subst (λ e. StopsAt settings (suc (length before)) before (said_by c.args.said.now) c.args.place e) (sym c.refused.ensures) (record {
      why = reason_of c.in-Ok-Refused.reason;
      here = refl;
      told = refl;
      refused = subst (λ own. IsRefused settings (suc (length before)) before own (reason_of c.in-Ok-Refused.reason)) c.view.ensures refused;
    })

pub returns-in-Ok-Valid : goal.returns-in-Ok-Valid
returns-in-Ok-Valid c = λ settings before follows.
    let outcome = subst (λ o. IsOutcome settings (before ++ certificate_of c.view.result ∷ []) (outcome_of o)) c.in-Ok-Valid.field-0-is (c.in-Ok-Valid.ensures.answer settings before follows) in (
      subst (λ own. IsOutcome settings (before ++ own ∷ []) (Valid (octets_of c.in-Ok-Valid.policies.items))) c.view.ensures outcome,
      subst EachOnce c.in-Ok-Valid.field-0-is c.in-Ok-Valid.ensures.once,
    )
