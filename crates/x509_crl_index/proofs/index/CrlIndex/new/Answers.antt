use Rattle.std.proofs.Common.{[], ap, arith, length}
use Rattle.x509_check.proofs.LentCrls.{some_crl}
use Rattle.x509_crl_index.proofs.Entries.{as_many_places}
use Rattle.x509_crl_index.proofs.index.CrlIndex.new.Goals as goal

pub index_places-requires-clause-room : goal.index_places-requires-clause-room
index_places-requires-clause-room g c =
    let crl = c.args.crl.now in
    let v = some_crl g.P.Profile.serial_check crl.bytes.now crl.parts crl.lent crl.within in
    let many = as_many_places g.row.P.Denot g.P.Profile.serial_check c.entry_octets-octets.result.now c.entry_octets-octets.ensures.are_entries [] in
    let same = ap length (c.entry_octets-octets.ensures.same v.0 v.1) in
    let count = c.entry_count-count.ensures v.0 v.1 in
    omega (arith, many, same, count, c.split_at_mut-places.ensures.front_len)
