use Rattle.x509_types.specs.Table.{IsAmong}
use Rattle.x509_types.proofs.by_profile.ByProfileCodec.reencode.Goals as goal

pub returns-in-Rfc5280 : goal.returns-in-Rfc5280
unfolding IsAmong
returns-in-Rfc5280 g c = rw c.in-Rfc5280.is c.reencode.ensures

pub returns-in-Raw : goal.returns-in-Raw
unfolding IsAmong
returns-in-Raw g c = rw c.in-Raw.is c.reencode-in-Raw.ensures
