use Rattle.x509_check.specs.ExtensionRefs.{extensions_left}
use Rattle.x509_peer.proofs.Found.{by_none, by_one, by_refusal}
use Rattle.x509_peer.specs.Peer.{named}
use Rattle.x509_peer.proofs.matching.name_peer.Goals as goal

pub returns-in-Ok-Some : goal.returns-in-Ok-Some
returns-in-Ok-Some c =
    let found = rw c.in-Ok-Some.field-0-is at c.in-Ok-Some.ensures in
    by_one (extensions_left c.args.extensions) (named c.args.peer.now) c.in-Ok-Some.extension c.spells_name_of.result found c.spells_name_of.ensures

pub returns-in-Ok-None : goal.returns-in-Ok-None
returns-in-Ok-None c =
    let found = rw c.in-Ok-None.field-0-is at c.in-Ok-None.ensures in
    by_none (extensions_left c.args.extensions) (named c.args.peer.now) found

pub returns-in-Err : goal.returns-in-Err
returns-in-Err c = by_refusal (extensions_left c.args.extensions) (named c.args.peer.now) _ c.in-Err.ensures
