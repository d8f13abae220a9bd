use Rattle.x509_der.specs.ListLaws.{no_front}
use Rattle.x509_der.specs.List.{list_reading}
use Rattle.x509_der.proofs.list.read_members.Goals as goal

pub returns : goal.returns
returns g c =
    let same = no_front (list_reading g.T.Grammar.form.reading c.args.bytes.now) in
    record { exact = rw same at rw c.in_ok-items.ensures.items at c.read_behind.ensures.exact }
