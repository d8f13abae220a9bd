use Rattle.std.proofs.Common.{ap, bytes_eq, sym, ◌∙◌}
use Rattle.x509_match.proofs.Values.{email_address_octets}
use Rattle.x509_constraints.proofs.sets.is_email_address.Goals as goal

pub returns : goal.returns
returns c = c.eq.ensures ∙ ap (λ x. bytes_eq c.args.oid.now x) (c.as_bytes.ensures.octets ∙ sym email_address_octets)
