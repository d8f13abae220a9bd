use Rattle.std.proofs.Common.{length}
use Rattle.std.specs.Prelude.{◌↔◌, Any, IsOk}
use Rattle.x509_check.specs.Lending.{listed}
use Rattle.x509_der.specs.List.{list_reading}
use Rattle.x509_ext.specs.GeneralName.{general_name}
use Rattle.x509_peer.specs.Naming.{IsNameOf}
use Rattle.x509_peer.specs.Peer.{named}
use Rattle.x509_peer.proofs.matching.has_name_of.Given as goal

-- what was passed are no names of the peer
abbrev pub invariant-loop-rest : goal.invariant-loop-rest
invariant-loop-rest l = record {
  known : IsOk (list_reading general_name.reading l.rest);
  same : Any (IsNameOf (named l.peer)) (listed (list_reading general_name.reading l.rest)) ↔ Any (IsNameOf (named l.peer)) (listed (list_reading general_name.reading l.names));
}

abbrev pub decreases-loop-rest : goal.decreases-loop-rest
decreases-loop-rest l = length l.rest
