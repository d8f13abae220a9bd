use Rattle.std.proofs.Common.{◌↔◌, IsTrue, subst}
use Rattle.x509_ext.specs.LookUp.{IsRepeated}
use Rattle.x509_lint.specs.Read.{AreExtensionsRead}
use Rattle.x509_lint.proofs.facts.certificate_facts.Goals as goal

pub returns-clause-ok : goal.returns-clause-ok
returns-clause-ok c = (
  c.do_algorithms_differ-algorithms_differ.ensures,
  subst (λ es. IsTrue c.in_ok-is_repeated.is_repeated ↔ IsRepeated es) c.extensions_of-extensions.ensures c.in_ok-is_repeated.ensures.ok,
  subst (λ es. AreExtensionsRead es c.in_ok-read.read) c.extensions_of-extensions.ensures c.in_ok-read.ensures.ok,
  c.in_ok-is_issuer_distinct.ensures.ok,
  c.in_ok-is_subject_distinct.ensures.ok,
)
