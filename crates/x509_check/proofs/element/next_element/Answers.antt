use Rattle.x509_check.proofs.Checks.{piece_within}
use Rattle.x509_check.proofs.element.next_element.Goals as goal

pub returns-clause-within : goal.returns-clause-within
returns-clause-within c = piece_within c.args.bytes.now _ c.in_ok-piece.ensures.exact
