use Rattle.std.proofs.Common.{◌∙◌, [], ◌∷◌, refl, sym, subst, arith}
use Rattle.std.proofs.lemmas.Bool.{true≢false}
use Rattle.std.proofs.lemmas.List.{take_all}
use Rattle.std.proofs.lemmas.List.Elements.{All-more}
use Rattle.std.specs.List.{All}
use Rattle.std.specs.Option.{option_map}
use Rattle.x509_path.proofs.Firsts.{first_wrong_at}
use Rattle.x509_path_steps.proofs.LeftPurposes.{left_behind_is, left_here}
use Rattle.x509_path_steps.specs.Steps.{left_at}
use Rattle.x509_path_steps.specs.Validation.{Breaks, own_reasons}
use Rattle.x509_path_steps.specs.declared.validation_fault.ValidationReason.TheVariants.{Decode, RepeatedPolicy, Policy, PolicyMapping}
use Rattle.x509_policy.specs.Views.{octets_of}
use Rattle.x509_validation.proofs.Verdicts.{all_own, knows_of}
use Rattle.x509_validation.proofs.validator.Validator.judge_parts.Goals as goal
use Rattle.x509_validation.specs.Judging.{standing}

pub loop-reason-preserved : goal.loop-reason-preserved
loop-reason-preserved g c = λ inputs above before n certificate stands lends same.
    let knows = knows_of c.args.certificate.now.bytes.now c.args.extensions.now c.args.stand.now.is_last c.in_ok-is_self_issued.is_self_issued certificate c.basic_constraints-basic_constraints.result c.in_ok-name_constraints.name_constraints
    lends same (c.in_ok-is_self_issued.ensures certificate lends) c.basic_constraints-basic_constraints.ensures (c.in_ok-name_constraints.ensures certificate same) in
    All-more (λ r. Breaks (g.S.Trust.accepts c.args.self.now.signatures.now) inputs (standing above before c.args.stand.now.is_last n) c.args.certificate.now.bytes.now certificate r → ⊥)
    own_reasons c.loop-reason.reason-index Decode c.loop-reason-test.true (c.loop-reason.invariant inputs above before n certificate stands lends same)
    (λ is. true≢false (sym ((c.in_ok-breaks.ensures inputs above before n certificate stands knows (all_own c.loop-reason.reason-index Decode c.loop-reason-test.true)).1 is) ∙ c.if-branch.false))

pub returns-then-branch : goal.returns-then-branch
returns-then-branch g c = λ inputs above before n certificate stands lends same.
    let knows = knows_of c.args.certificate.now.bytes.now c.args.extensions.now c.args.stand.now.is_last c.in_ok-is_self_issued.is_self_issued certificate c.basic_constraints-basic_constraints.result c.in_ok-name_constraints.name_constraints
    lends same (c.in_ok-is_self_issued.ensures certificate lends) c.basic_constraints-basic_constraints.ensures (c.in_ok-name_constraints.ensures certificate same) in (
      refl,
      first_wrong_at Decode (Breaks (g.S.Trust.accepts c.args.self.now.signatures.now) inputs (standing above before c.args.stand.now.is_last n) c.args.certificate.now.bytes.now) c.args.certificate.now.bytes.now certificate lends
          own_reasons (RepeatedPolicy ∷ Policy ∷ PolicyMapping ∷ []) c.loop-reason.reason-index Decode c.loop-reason-test.true (λ h. h) (c.loop-reason.invariant inputs above before n certificate stands lends same)
          ((c.in_ok-breaks.ensures inputs above before n certificate stands knows (all_own c.loop-reason.reason-index Decode c.loop-reason-test.true)).0 c.if-branch.true),
    )

pub returns : goal.returns
returns g c = λ inputs above before n certificate stands lends same.
    let knows = knows_of c.args.certificate.now.bytes.now c.args.extensions.now c.args.stand.now.is_last c.in_ok-is_self_issued.is_self_issued certificate c.basic_constraints-basic_constraints.result c.in_ok-name_constraints.name_constraints
    lends same (c.in_ok-is_self_issued.ensures certificate lends) c.basic_constraints-basic_constraints.ensures (c.in_ok-name_constraints.ensures certificate same) in
    let free = subst (All (λ r. Breaks (g.S.Trust.accepts c.args.self.now.signatures.now) inputs (standing above before c.args.stand.now.is_last n) c.args.certificate.now.bytes.now certificate r → ⊥))
    (take_all c.loop-reason.reason-index own_reasons c.loop-reason-test.false) (c.loop-reason.invariant inputs above before n certificate stands lends same) in
    let says = c.in_ok-policies.ensures certificate knows.own same (free 6 Decode (omega arith)) in
    let left = option_map (λ v. octets_of v.items) c.in_ok-purposes.purposes in (
      (λ early. record {
        own = says.is_own;
        of_limits = knows.limits early;
        of_purposes = left_behind_is inputs.purposes inputs.uses.is_chained c.args.stand.now.is_last before certificate left early
            (left_here inputs c.args.stand.now.sets.now.uses c.args.stand.now.is_last before certificate (left_at c.args.stand.now.sets.now) left stands.uses stands.purposes (c.in_ok-purposes.ensures inputs.purposes before certificate same));
      }),
      (says, (lends, free)),
    )
