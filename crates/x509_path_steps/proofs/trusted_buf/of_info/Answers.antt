use Rattle.std.proofs.Common.{◌∙◌, inl, inr, refl, sym}
use Rattle.std.proofs.lemmas.Bool.{true≢false}
use Rattle.std.proofs.lemmas.Result.{err_from_is_err_and}
use Rattle.x509_path_steps.proofs.Refusals.{answered, described, its_limits, other_certificate, uncontrolled, unfollowed}
use Rattle.x509_path_steps.proofs.trusted_buf.of_info.Goals as goal
use Rattle.x509_path_steps.specs.Inputs.{Trust}
use Rattle.x509_path_steps.specs.Trusts.{IsTrustOfInfo, RefusesInfo, flags_or, or_else}

pub returns-in_default : goal.returns-in_default
returns-in_default c = rw c.into.ensures (uncontrolled c.args.info.now c.in_default.is)

pub returns-then-is_empty : goal.returns-then-is_empty
returns-then-is_empty c = rw c.into-then-is_empty.ensures (unfollowed c.args.info.now c.in-Some.controls c.in-Some.is (inl (c.is_empty.ensures.0 c.if-is_empty.true)))

pub returns-then-not-may_others_be_left : goal.returns-then-not-may_others_be_left
returns-then-not-may_others_be_left c =
    rw c.into-then-not-may_others_be_left.ensures (unfollowed c.args.info.now c.in-Some.controls c.in-Some.is
    (inr (λ all. true≢false (sym (c.may_others_be_left.ensures.1 all) ∙ c.if-not-may_others_be_left.true))))

pub returns-in_err-has_its_certificate : goal.returns-in_err-has_its_certificate
returns-in_err-has_its_certificate c =
    let p = err_from_is_err_and c.from_residual.result c.from_residual.ensures.1 in
    rw (p.1, p.2) (described c.args.info.now c.in-Some.controls c.in-Some.is _ c.in_err-has_its_certificate.ensures)

pub returns-then-not-branch : goal.returns-then-not-branch
returns-then-not-branch c =
    let controls = c.in-Some.controls in
    rw c.into-then-not-branch.ensures (described c.args.info.now controls c.in-Some.is _ (inr (other_certificate c.args.info.now controls controls.certificate (λ is. true≢false (sym (c.in_ok-has_its_certificate.ensures.1 is) ∙ c.if-not-branch.true)))))

pub returns-in_err-own : goal.returns-in_err-own
returns-in_err-own c =
    let p = err_from_is_err_and c.from_residual-in_err-own.result c.from_residual-in_err-own.ensures.1 in
    let controls = c.in-Some.controls in
    rw (p.1, p.2) (described c.args.info.now controls c.in-Some.is _ (its_limits c.args.info.now controls controls.certificate _ c.in_err-own.ensures))

pub returns : goal.returns
returns c =
    let info = c.args.info.now in
    let controls = c.in-Some.controls in
    let own = c.in_ok-own.own in
    let trust : Trust = record {
      anchor = record { name = controls.ta_name; key = info.pub_key };
      constraints = or_else controls.name_constr own.constraints;
      max_path_length = or_else controls.path_len_constraint own.max_path_length;
      policies = or_else controls.policy_set own.policies;
      flags = flags_or controls.policy_flags own.flags;
    } in
    answered (IsTrustOfInfo info) (RefusesInfo info) trust c.held.result (record {
      controls = controls;
      own = own;
      has_controls = c.in-Some.is;
      named = λ empty. true≢false (sym (c.is_empty.ensures.1 empty) ∙ c.if-is_empty.false);
      others = c.may_others_be_left.ensures.0 c.if-not-may_others_be_left.false;
      certificate = c.in_ok-has_its_certificate.ensures.0 c.if-not-branch.false;
      are_own = c.in_ok-own.ensures;
      anchor = refl;
      limits = refl;
    }) (c.held.ensures trust (rw (c.value_or.ensures, c.value_or-2.ensures, c.value_or-3.ensures, c.flags_or.ensures) refl))
