use Rattle.std.proofs.Common.{ap, bytes_eq, sym, ◌∙◌}
use Rattle.x509_match.proofs.Values.{domain_component_octets}
use Rattle.x509_match.proofs.value.is_domain_component.Goals as goal

pub returns : goal.returns
returns c = c.eq.ensures ∙ ap (λ x. bytes_eq c.args.oid.now x) (c.as_bytes.ensures.octets ∙ sym domain_component_octets)
