use Rattle.std.proofs.Common.{sym, ◌∙◌}
use Rattle.x509_sct.specs.ItemsLaws.{items_lawful}
use Rattle.x509_sct.specs.ListLaws.{one_list}
use Rattle.x509_sct.specs.Numbers.{uint16, vector16_lawful}
use Rattle.x509_sct.proofs.tls.laws.one_list.Goals as goal

pub returns : goal.returns
returns g c = record {
  items = one_list uint16 g.T.Tls.form vector16_lawful (items_lawful g.T.Tls.form g.met.T.Tls.lawful g.met.T.TlsItem.moves);
  bytes = λ items bytes others s t. s.1.1 ∙ sym t.1.1;
}
