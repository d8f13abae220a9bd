use Rattle.std.proofs.Common.{refl}
use Rattle.x509_log.proofs.ChangedMembers.{identifier_then_poison, one_behind, poison_then_identifier}
use Rattle.x509_log.proofs.part.changed_members.Goals as goal

pub returns-in-Some : goal.returns-in-Some
returns-in-Some c = λ all ps ks.
    identifier_then_poison all c.args.poison.now c.args.identifier.now ps ks (record { critical = c.args.identifier.now.critical; value = c.args.value }) refl c.in-Some.first c.in-Some.ensures
    c.as_bytes-rest.result.now c.as_bytes-rest.ensures

pub unreachable-requires : goal.unreachable-requires
unreachable-requires c = one_behind c.requires.0 c.args.poison.now c.args.identifier.now c.requires.1 c.requires.2 c.in-None.ensures c.in-None-split_around.ensures

pub returns-in-Some-split_around : goal.returns-in-Some-split_around
returns-in-Some-split_around c = λ all ps ks.
    let k = c.in-Some-split_around.second.critical in
    poison_then_identifier all c.args.poison.now c.args.identifier.now ps ks (record { critical = k; value = c.args.value }) c.in-Some-split_around.second refl c.in-Some-split_around.ensures
    c.as_bytes-others.result.now c.as_bytes-others.ensures
