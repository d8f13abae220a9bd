use Rattle.std.proofs.Common.{arith}
use Rattle.x509_sct.specs.AnswerLaws.{answered, wanted}
use Rattle.x509_sct.specs.ItemsLaws.{items_lawful}
use Rattle.x509_sct.specs.ListLaws.{list_lawful}
use Rattle.x509_sct.specs.Numbers.{uint16, vector16_lawful}
use Rattle.x509_sct.proofs.tls.list.read_list.Goals as goal

pub returns : goal.returns
returns g c =
    let items = items_lawful g.T.Tls.form g.met.T.Tls.lawful g.met.T.TlsItem.moves in
    answered (λ v. v.items) _ _ _ _ c.take_list.result (list_lawful uint16 g.T.Tls.form vector16_lawful items c.args.bytes.now (λ i. omega (arith, c.type_inv.bytes i))) c.take_list.ensures (wanted c.take_list.result)
