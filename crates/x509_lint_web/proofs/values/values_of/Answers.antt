use Rattle.std.proofs.Common.{subst}
use Rattle.x509_lint_web.specs.Words.{IsSpelled, numbers}
use Rattle.x509_lint_web.proofs.values.values_of.Goals as goal

pub returns-clause-ok : goal.returns-clause-ok
returns-clause-ok c = (
  (
    c.in_ok-payload.ensures.ok,
    c.in_ok-key_usage.ensures.ok,
    c.in_ok-payload-2.ensures.ok,
    c.in_ok-subject_alt_name.ensures.ok,
    c.in_ok-payload-3.ensures.ok,
    c.in_ok-payload-4.ensures.ok,
    c.in_ok-payload-5.ensures.ok,
    c.in_ok-payload-6.ensures.ok,
    c.in_ok-payload-7.ensures.ok,
    c.in_ok-payload-8.ensures.ok,
    subst (λ octets. IsSpelled numbers octets c.in_ok-rsa_numbers.rsa_numbers) c.raw_bytes.ensures.octets c.in_ok-rsa_numbers.ensures.ok,
  ),
  (c.key_facts-key_facts.ensures.close, c.key_facts-key_facts.ensures.off),
  c.in_ok-name_facts.ensures,
)
