use Rattle.std.proofs.Common.{◌↔◌, ◌∙◌, IsTrue, ap, subst}
use Rattle.x509_der.specs.Set.{AreDistinct}
use Rattle.x509_ext.specs.Identifiers.{id_ce}
use Rattle.x509_ext.specs.LookUp.{IsRepeated, members}
use Rattle.x509_ext.specs.SubjectKeyIdentifier.{subject_key_identifier}
use Rattle.x509_lint.specs.Read.{AreExtensionsRead}
use Rattle.std.specs.List.{All}
use Rattle.x509_lint.specs.Values.{HasDistinctTypes, policy_identifiers}
use Rattle.x509_lint.specs.Words.{IsValue}
use Rattle.x509_lint.proofs.anchor.values.anchor_values.Goals as goal

pub returns-clause-ok : goal.returns-clause-ok
returns-clause-ok c =
    let same = c.members-extensions.ensures ∙ ap members c.as_ref.ensures.value in (
      c.do_subjects_differ-subject_differs.ensures,
      c.do_keys_differ-key_differs.ensures,
      subst (λ es. IsValue subject_key_identifier (id_ce 14) es c.in_ok-key_identifier.key_identifier) c.own_extensions.ensures c.in_ok-key_identifier.ensures.ok,
      subst (λ ps. IsTrue c.in_ok-are_policies_distinct.are_policies_distinct ↔ AreDistinct (policy_identifiers ps)) c.policy_set.ensures c.in_ok-are_policies_distinct.ensures.ok,
      subst (λ es. IsTrue c.in_ok-is_repeated.is_repeated ↔ IsRepeated es) same c.in_ok-is_repeated.ensures.ok,
      subst (λ es. AreExtensionsRead es c.in_ok-read.read) same c.in_ok-read.ensures.ok,
      subst (λ rdns. IsTrue c.in_ok-is_name_distinct.is_name_distinct ↔ All HasDistinctTypes rdns) c.ta_rdns.ensures c.in_ok-is_name_distinct.ensures.ok,
    )
