use Rattle.x509_lint.proofs.Right.{right_first, right_else}
use Rattle.x509_lint.proofs.read.is_right.Goals as goal

pub returns-then-is_decodable-clause-ok : goal.returns-then-is_decodable-clause-ok
returns-then-is_decodable-clause-ok g c = right_first _ (c.in_ok-is_decodable.ensures.ok.0 c.if-is_decodable.true)

pub returns-clause-ok : goal.returns-clause-ok
returns-clause-ok g c = right_else _ _ _ c.in_ok-is_decodable.ensures.ok.1 c.if-is_decodable.false c.has_beyond.ensures
