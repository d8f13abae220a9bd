use Rattle.std.proofs.Common.{sym, ◌∙◌}
use Rattle.x509_match.proofs.PlainValues.{one_element}
use Rattle.x509_match.proofs.attribute.is_same_element.Goals as goal

pub returns : goal.returns
returns c = one_element c.args.a_tag c.args.b_tag c.args.a.now c.args.b.now c.eq.result (sym c.octet.ensures.octet ∙ c.if-octet.false ∙ c.octet-2.ensures.octet) c.eq.ensures
