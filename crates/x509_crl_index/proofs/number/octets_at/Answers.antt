use Rattle.x509_crl_index.proofs.Putting.{none_behind}
use Rattle.x509_crl_index.proofs.number.octets_at.Goals as goal

pub returns-then-place-octets : goal.returns-then-place-octets
returns-then-place-octets c = none_behind c.args.octets.now c.args.place c.if-place-octets.true
