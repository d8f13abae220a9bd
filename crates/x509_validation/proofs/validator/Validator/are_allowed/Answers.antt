use Rattle.std.proofs.Common.{◌≡◌, ◌↔◌, Some, subst}
use Rattle.std.specs.Bool.{IsTrue}
use Rattle.std.specs.Option.{option_copied}
use Rattle.x509_constraints.specs.Constraints.{AreAllowed, names_asked}
use Rattle.x509_ext.specs.AlternativeNames.{subject_alt_name}
use Rattle.x509_ext.specs.Identifiers.{id_ce}
use Rattle.x509_path.proofs.Lent.{subject_spells}
use Rattle.x509_path.specs.Certificates.{HasPayload}
use Rattle.x509_path_steps.proofs.AllowedNames.{allowed}
use Rattle.x509_path_steps.specs.Validation.{HasAlternativeNames}
use Rattle.x509_validation.proofs.validator.Validator.are_allowed.Goals as goal

pub returns : goal.returns
returns g c = λ inputs above before certificate stands knows.
    let spells = subject_spells certificate c.args.parts.now.certificate.now.bytes.now knows.lends c.subject.result.now (c.subject.ensures certificate knows.lends) in
    let subject = c.in_ok-subject.ensures certificate.tbs_certificate.subject spells in
    let has : HasAlternativeNames certificate c.in_ok-names.names = λ names.
    subst (λ es. HasPayload subject_alt_name (id_ce 17) es names ↔ (c.in_ok-names.names ≡ Some names)) knows.extensions (c.in_ok-names.ensures names) in
    let said = c.in_ok-are_allowed.ensures.same stands.constraints stands.applied.applied in
    let there = allowed inputs before certificate stands.constraints stands.collects c.in_ok-names.names has in
    let of_subject = subst (λ n. IsTrue c.in_ok-are_allowed.are_allowed ↔ AreAllowed stands.constraints (names_asked n (option_copied c.as_ref.result))) subject said in
    let of_names = subst (λ o. IsTrue c.in_ok-are_allowed.are_allowed ↔ AreAllowed stands.constraints (names_asked certificate.tbs_certificate.subject o)) c.as_ref.ensures.value of_subject in
    ((λ is. there.0 (of_names.0 is)), (λ all. of_names.1 (there.1 all)))
