use Rattle.x509_text.specs.Points.{last_reasons}
use Rattle.x509_text.proofs.Written.{four_written}
use Rattle.x509_text.proofs.points.write_last_reasons.Goals as goal

pub returns : goal.returns
unfolding last_reasons
returns c =
    four_written c.write_reason-4.result _ _ _ _ _ _ _ _ _
    (rw c.has.ensures at c.in_ok-write_reason.ensures)
    (rw c.has-2.ensures at c.in_ok-write_reason-2.ensures)
    (rw c.has-3.ensures at c.in_ok-write_reason-3.ensures)
    (rw c.has-4.ensures at c.write_reason-4.ensures)
