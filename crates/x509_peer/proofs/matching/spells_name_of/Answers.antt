use Rattle.x509_check.proofs.LentLists.{is_list}
use Rattle.x509_peer.proofs.Found.{by_names}
use Rattle.x509_peer.specs.Peer.{named}
use Rattle.x509_peer.proofs.matching.spells_name_of.Goals as goal

pub has_name_of-requires : goal.has_name_of-requires
has_name_of-requires c = let one = c.in-Some.ensures.0 in (is_list _ one.0.0 (c.in-Some.ensures.1 one.0 one.1)).0

pub returns-in-Some : goal.returns-in-Some
returns-in-Some c = by_names (named c.args.peer.now) c.args.octets.now _ _ c.in-Some.ensures.0 c.in-Some.ensures.1 c.has_name_of.ensures
