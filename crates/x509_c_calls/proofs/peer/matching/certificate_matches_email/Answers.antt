use Rattle.std.proofs.Common.{inr, refl, subst, sym}
use Rattle.x509_c_calls.proofs.PeerAnswers.{says_named}
use Rattle.x509_c_calls.specs.Peers.{TellsWhetherNamed}
use Rattle.x509_path.specs.Lent.{Lends}
use Rattle.x509_peer.specs.Peer.{named_email}
use Rattle.x509_c_calls.proofs.peer.matching.certificate_matches_email.Goals as goal

pub returns-in-Ok-from_ascii-clause-told : goal.returns-in-Ok-from_ascii-clause-told
unfolding TellsWhetherNamed
returns-in-Ok-from_ascii-clause-told c =
    let found = c.in-Ok.ensures.found in
    let lends = subst (λ octets. Lends octets found.1.0) (sym found.0) found.1.1 in
    let peer = named_email c.in-Ok-from_ascii.address in
    (found.1.0, peer, found.1.1, c.in-Ok-from_ascii.ensures.found, says_named found.1.0 peer c.matches_email.result (c.matches_email.ensures found.1.0 lends) _ c.flag.ensures)

pub returns-in-Err-from_ascii-clause-told : goal.returns-in-Err-from_ascii-clause-told
unfolding TellsWhetherNamed
returns-in-Err-from_ascii-clause-told c = (inr (c.in-Ok.ensures.found.1, refl, c.in-Err-from_ascii.ensures.found), refl)
