use Rattle.std.proofs.Common.{◌∙◌, ◌+◌, ap, length, refl}
use Rattle.x509_c_calls.specs.Peers.{SaysPeer}
use Rattle.x509_peer.specs.Peer.{named_email}
use Rattle.x509_c_calls.proofs.peer.email.email_address.Goals as goal

pub returns-in-Ok : goal.returns-in-Ok
unfolding SaysPeer
returns-in-Ok c =
    let local = c.local_part-in-Ok.ensures in
    let host = c.as_bytes.ensures.same ∙ ap (λ host. host.octets.now) c.host.ensures in
    (named_email c.in-Ok.address, c.in-Ok.ensures.found, (refl, ap length c.local_part.ensures, ap (λ octets. length octets + 1) local, ap length host))
