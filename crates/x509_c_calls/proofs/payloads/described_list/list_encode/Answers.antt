use Rattle.x509_c_calls.proofs.DescribedLists.{listed}
use Rattle.x509_c_calls.proofs.Filled.{fills_as}
use Rattle.x509_c_calls.proofs.Walks.{some_octets}
use Rattle.x509_c_calls.proofs.payloads.described_list.list_encode.Goals as goal

pub returns-in-Ok : goal.returns-in-Ok
returns-in-Ok g c =
    let some = some_octets _ _ c.is_empty.ensures c.if-is_empty.false in
    fills_as _ _ (listed g.T.Grammar.form c.args.members.now c.from.result (rw c.from.ensures c.in-Ok.ensures) some g.T.Encode.writing g.T.Grammar.refuses) _ _ _ _ _ c.write-in-Ok.ensures.filled
