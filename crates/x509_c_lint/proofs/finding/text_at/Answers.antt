use Rattle.x509_c_lint.proofs.FindingPlaces.{rest-fits, text-stands, unended}
use Rattle.x509_c_lint.proofs.finding.text_at.Goals as goal

pub returns-in_default-quote_in : goal.returns-in_default-quote_in
returns-in_default-quote_in c = λ text more unquoted e. unended c.args.lines.now _ _ _ _ c.args.at c.in-Some.ensures c.in_default-quote_in.ensures e

pub returns : goal.returns
returns c = (_, _, text-stands _ _ _ _ _ c.requires c.in-Some.ensures c.in-Some-quote_in.ensures.0 c.in-Some-quote_in.ensures.1)

pub overflow_sub-result : goal.overflow_sub-result
overflow_sub-result c = rest-fits _ _ _ _ c.in-Some.ensures
