use Rattle.std.proofs.Common.{◌≢◌, ◌∙◌, [], inl, inr, refl, subst, sym}
use Rattle.std.proofs.lemmas.Bool.{true≢false}
use Rattle.std.proofs.lemmas.Result.{err_from_is_err_and}
use Rattle.x509_check.specs.ExtensionRefs.{extensions_left}
use Rattle.x509_ext.specs.CertificatePolicies.{certificate_policies}
use Rattle.x509_ext.specs.Identifiers.{id_ce}
use Rattle.x509_ext.specs.NameConstraints.{name_constraints}
use Rattle.x509_path.specs.Path.{subject_of}
use Rattle.x509_path_steps.proofs.Refusals.{untrusted_limits, untrusted_signed}
use Rattle.x509_path_steps.proofs.trusted.Trusted.from_certificate.Goals as goal
use Rattle.x509_path_steps.specs.Inputs.{Trust}
use Rattle.x509_path_steps.specs.Trusts.{AreFlags, HasLimit, IsValueOf}

pub returns-then-has_no_name : goal.returns-then-has_no_name
returns-then-has_no_name c = λ certificate lends.
    rw c.into.ensures (untrusted_signed certificate.tbs_certificate _ (inl (refl, (c.has_no_name.ensures certificate lends).0 c.if-has_no_name.true)))

pub returns-in_err-lent_value : goal.returns-in_err-lent_value
returns-in_err-lent_value c = λ certificate lends.
    let named : certificate.tbs_certificate.subject ≢ [] = λ empty. true≢false (sym ((c.has_no_name.ensures certificate lends).1 empty) ∙ c.if-has_no_name.false) in
    let p = err_from_is_err_and c.from_residual.result c.from_residual.ensures.1 in
    rw (p.1, p.2) (untrusted_limits certificate.tbs_certificate (extensions_left c.extensions-extensions.result) _ (c.extensions-extensions.ensures certificate lends) named (inl c.in_err-lent_value.ensures))

pub returns-in_err-own_path_len : goal.returns-in_err-own_path_len
returns-in_err-own_path_len c = λ certificate lends.
    let named : certificate.tbs_certificate.subject ≢ [] = λ empty. true≢false (sym ((c.has_no_name.ensures certificate lends).1 empty) ∙ c.if-has_no_name.false) in
    let p = err_from_is_err_and c.from_residual-in_err-own_path_len.result c.from_residual-in_err-own_path_len.ensures.1 in
    let own = c.in_ok-lent_value.ensures in
    rw (p.1, p.2) (untrusted_limits certificate.tbs_certificate (extensions_left c.extensions-extensions.result) _ (c.extensions-extensions.ensures certificate lends) named
    (inr ((own.0, own.1), inl c.in_err-own_path_len.ensures)))

pub returns-in_err-lent_value-2 : goal.returns-in_err-lent_value-2
returns-in_err-lent_value-2 c = λ certificate lends.
    let named : certificate.tbs_certificate.subject ≢ [] = λ empty. true≢false (sym ((c.has_no_name.ensures certificate lends).1 empty) ∙ c.if-has_no_name.false) in
    let p = err_from_is_err_and c.from_residual-in_err-lent_value-2.result c.from_residual-in_err-lent_value-2.ensures.1 in
    let own = c.in_ok-lent_value.ensures in
    let length = c.in_ok-own_path_len.ensures in
    rw (p.1, p.2) (untrusted_limits certificate.tbs_certificate (extensions_left c.extensions-extensions.result) _ (c.extensions-extensions.ensures certificate lends) named
    (inr ((own.0, own.1), inr ((length.0, length.1), inl c.in_err-lent_value-2.ensures))))

pub returns-in_err-own_flags : goal.returns-in_err-own_flags
returns-in_err-own_flags c = λ certificate lends.
    let named : certificate.tbs_certificate.subject ≢ [] = λ empty. true≢false (sym ((c.has_no_name.ensures certificate lends).1 empty) ∙ c.if-has_no_name.false) in
    let p = err_from_is_err_and c.from_residual-in_err-own_flags.result c.from_residual-in_err-own_flags.ensures.1 in
    let own = c.in_ok-lent_value.ensures in
    let length = c.in_ok-own_path_len.ensures in
    let policies = c.in_ok-lent_value-2.ensures in
    rw (p.1, p.2) (untrusted_limits certificate.tbs_certificate (extensions_left c.extensions-extensions.result) _ (c.extensions-extensions.ensures certificate lends) named
    (inr ((own.0, own.1), inr ((length.0, length.1), inr ((policies.0, policies.1), c.in_err-own_flags.ensures)))))

pub returns : goal.returns
returns c = λ certificate lends.
    let same = c.extensions-extensions.ensures certificate lends in
    let own = c.in_ok-lent_value.ensures in
    let policies = c.in_ok-lent_value-2.ensures in
    let length = c.in_ok-own_path_len.field-0 in
    let flags = c.in_ok-own_flags.field-0 in
    let trust : Trust = record { anchor = subject_of certificate; constraints = own.0; max_path_length = length; policies = policies.0; flags = flags } in (
      trust,
      record {
        named = λ empty. true≢false (sym ((c.has_no_name.ensures certificate lends).1 empty) ∙ c.if-has_no_name.false);
        anchor = refl;
        limits = record {
          constraints = subst (λ es. IsValueOf name_constraints (id_ce 30) es own.0) same own.1;
          max_path_length = subst (λ es. HasLimit es length) same c.in_ok-own_path_len.ensures;
          policies = subst (λ es. IsValueOf certificate_policies (id_ce 32) es policies.0) same policies.1;
          flags = subst (λ es. AreFlags es flags) same c.in_ok-own_flags.ensures;
        };
      },
      record { anchor = c.from_certificate.ensures certificate lends; constraints = own.2; max_path_length = refl; policies = policies.2; flags = refl },
    )
