use Rattle.x509_peer.proofs.Refused.{no_server}
use Rattle.x509_peer.proofs.server.ServerName.from_ascii.Goals as goal

pub returns-in-Err-clause-found : goal.returns-in-Err-clause-found
returns-in-Err-clause-found c = no_server c.args.octets.now c.in_default.ensures c.in-Err.ensures.found
