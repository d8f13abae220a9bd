use Rattle.x509_text.specs.Crls.{entry_lines}
use Rattle.x509_text.proofs.Written.{three_written}
use Rattle.x509_text.proofs.crls.RevokedCertShow.show.Goals as goal

pub returns : goal.returns
unfolding entry_lines
returns g c =
    three_written c.write_extensions.result _ _ _ _ _ _ _
    c.in_ok-write_serial.ensures
    (rw c.below.ensures at c.in_ok-write_time.ensures)
    (rw (c.below-2.ensures, c.as_ref.ensures.value) at c.write_extensions.ensures)
