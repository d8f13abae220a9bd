use Rattle.std.proofs.Common.{◌∙◌}
use Rattle.x509_der.specs.ListWriting.{puts_list}
use Rattle.x509_der.specs.Writing.{plain}
use Rattle.x509_name.specs.Names.{relative_distinguished_name}
use Rattle.x509_name.proofs.name.rdn_sequence.RdnSequenceContent.write_content.Goals as goal

pub returns : goal.returns
returns g c = rw (← (c.as_slice.ensures ∙ c.self.view_is)) (puts_list relative_distinguished_name plain g.R.Room.kind c.as_slice.result.now c.put_rdns.result c.args.room.now c.put_rdns.new.room c.put_rdns.ensures)
