use Rattle.std.proofs.Common.{◌≢◌, ◌∙◌, [], inl, inr, refl, sym}
use Rattle.std.proofs.lemmas.Bool.{true≢false}
use Rattle.std.proofs.lemmas.Result.{err_from_is_err_and}
use Rattle.x509_der.specs.declared.error.ErrorKind.TheVariants.{Failed}
use Rattle.x509_path_steps.proofs.Refusals.{answered, no_signed, none_trusted, signed_refused}
use Rattle.x509_path_steps.proofs.trusted_buf.of_signed.Goals as goal
use Rattle.x509_path_steps.specs.Inputs.{Trust}
use Rattle.x509_path_steps.specs.Trusts.{IsTrustOf, RefusesSigned}

pub returns-then-is_empty : goal.returns-then-is_empty
returns-then-is_empty c =
    let signed = c.args.signed.now in
    rw c.into.ensures (none_trusted (IsTrustOf signed) (RefusesSigned signed) Failed (no_signed signed Failed)
    (inr (inl (refl, sym c.subject.ensures ∙ c.is_empty.ensures.0 c.if-is_empty.true))))

pub returns-in_err-limits : goal.returns-in_err-limits
returns-in_err-limits c =
    let signed = c.args.signed.now in
    let named : signed.subject ≢ [] = λ empty. true≢false (sym (c.is_empty.ensures.1 (c.subject.ensures ∙ empty)) ∙ c.if-is_empty.false) in
    let p = err_from_is_err_and c.from_residual.result c.from_residual.ensures.1 in
    rw (p.1, p.2) (none_trusted (IsTrustOf signed) (RefusesSigned signed) _ (no_signed signed _) (signed_refused signed _ named c.in_err-limits.ensures))

pub returns : goal.returns
returns c =
    let signed = c.args.signed.now in
    let limits = c.in_ok-limits.limits in
    let trust : Trust = record {
      anchor = record { name = signed.subject; key = signed.subject_public_key_info };
      constraints = limits.constraints;
      max_path_length = limits.max_path_length;
      policies = limits.policies;
      flags = limits.flags;
    } in
    answered (IsTrustOf signed) (RefusesSigned signed) trust c.held.result (record {
      named = λ empty. true≢false (sym (c.is_empty.ensures.1 (c.subject.ensures ∙ empty)) ∙ c.if-is_empty.false);
      anchor = refl;
      limits = c.in_ok-limits.ensures;
    }) (c.held.ensures trust (rw (c.subject-2.ensures, c.subject_public_key_info.ensures) refl))
