use Rattle.std.proofs.Common.{◌∙◌, ◌↔◌, IsTrue, ap, refl, subst}
use Rattle.x509_ext.specs.LookUp.{IsRepeated, members}
use Rattle.x509_lint.specs.Read.{IsCrlRead}
use Rattle.x509_lint.proofs.facts.crl_facts.Goals as goal

pub returns-clause-ok : goal.returns-clause-ok
returns-clause-ok c =
    let same = c.members-extensions.ensures ∙ ap members c.as_ref.ensures.value in (
      (
        c.do_crl_algorithms_differ-algorithms_differ.ensures,
        subst (λ es. IsTrue c.in_ok-is_repeated.is_repeated ↔ IsRepeated es) same c.in_ok-is_repeated.ensures.ok,
        subst (λ es. IsCrlRead es c.in_ok-read.read) same c.in_ok-read.ensures.ok,
        c.in_ok-is_issuer_distinct.ensures.ok,
      ),
      refl,
    )
