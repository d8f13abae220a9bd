use Rattle.std.proofs.Common.{◌∙◌, ap, subst}
use Rattle.x509_ext.specs.LookUp.{members}
use Rattle.x509_lint.specs.Values.{AreCrlValues}
use Rattle.x509_lint.proofs.crl.parts_of.Goals as goal

pub returns-clause-ok : goal.returns-clause-ok
returns-clause-ok c = (
  c.in_ok-facts.ensures.ok.0,
  c.in_ok-facts.ensures.ok.1,
  subst (λ extensions. AreCrlValues extensions c.in_ok-values.values) (c.members.ensures ∙ ap members c.as_ref.ensures.value) c.in_ok-values.ensures.ok,
)
