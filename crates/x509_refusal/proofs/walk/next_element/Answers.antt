use Rattle.x509_refusal.proofs.Pieces.{piece_within}
use Rattle.x509_refusal.proofs.walk.next_element.Goals as goal

pub returns-clause-within : goal.returns-clause-within
returns-clause-within c = piece_within c.args.bytes.now _ c.in_ok-piece.ensures.exact
