use Rattle.x509_text.specs.Crls.{update_lines}
use Rattle.x509_text.proofs.Written.{written_behind}
use Rattle.x509_text.proofs.crls.write_updates.Goals as goal

pub returns : goal.returns
unfolding update_lines
returns g c = written_behind c.write_optional_time.result _ _ _ _ _ c.in_ok-write_time.ensures c.write_optional_time.ensures
