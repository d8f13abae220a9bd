use Rattle.x509_peer.proofs.Refused.{bracketed}
use Rattle.x509_peer.proofs.address.parse_address.Goals as goal

pub returns-in-None : goal.returns-in-None
returns-in-None c = bracketed c.args.text.now c.parse_bracketed.result c.in-None.ensures c.parse_bracketed.ensures
