use Rattle.std.proofs.Common.{◌≡◌, ◌↔◌, IsTrue, subst}
use Rattle.x509_cert.specs.ChallengePassword.{challenge_password}
use Rattle.x509_cert.specs.Identifiers.{pkcs_9}
use Rattle.x509_der.specs.Set.{AreDistinct}
use Rattle.x509_ext.specs.AlternativeNames.{subject_alt_name}
use Rattle.x509_ext.specs.Identifiers.{id_ce}
use Rattle.x509_ext.specs.LookUp.{IsRepeated}
use Rattle.x509_lint.specs.Read.{AreExtensionsRead}
use Rattle.x509_lint.specs.Request.{attribute_types, extension_req, has_malformed}
use Rattle.x509_lint.specs.Words.{IsValue}
use Rattle.x509_lint.proofs.request.values.request_values.Goals as goal

pub returns-clause-ok : goal.returns-clause-ok
returns-clause-ok c =
    let same = c.as_slice-attributes.ensures.members in (
      subst (λ held. IsTrue c.in_ok-are_types_distinct.are_types_distinct ↔ AreDistinct (attribute_types held)) same c.in_ok-are_types_distinct.ensures.ok,
      subst (λ held. c.in_ok-is_password_malformed.is_password_malformed ≡ has_malformed challenge_password (pkcs_9 7) held) same c.in_ok-is_password_malformed.ensures.ok,
      subst (λ held. c.in_ok-is_request_malformed.is_request_malformed ≡ has_malformed extension_req (pkcs_9 14) held) same c.in_ok-is_request_malformed.ensures.ok,
      c.in_ok-requested.ensures.ok,
      subst (λ es. IsTrue c.in_ok-is_repeated.is_repeated ↔ IsRepeated es) c.requested_extensions.ensures c.in_ok-is_repeated.ensures.ok,
      subst (λ es. AreExtensionsRead es c.in_ok-read.read) c.requested_extensions-2.ensures c.in_ok-read.ensures.ok,
      subst (λ es. IsValue subject_alt_name (id_ce 17) es c.in_ok-subject_alt_name.subject_alt_name) c.requested_extensions-3.ensures c.in_ok-subject_alt_name.ensures.ok,
      c.in_ok-has_unnormalized_name.ensures,
      c.in_ok-is_subject_distinct.ensures.ok,
    )
