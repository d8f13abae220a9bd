use Rattle.x509_text.specs.Points.{first_reasons}
use Rattle.x509_text.proofs.Written.{five_written}
use Rattle.x509_text.proofs.points.write_first_reasons.Goals as goal

pub returns : goal.returns
unfolding first_reasons
returns c =
    five_written c.write_reason-5.result _ _ _ _ _ _ _ _ _ _ _
    (rw c.has.ensures at c.in_ok-write_reason.ensures)
    (rw c.has-2.ensures at c.in_ok-write_reason-2.ensures)
    (rw c.has-3.ensures at c.in_ok-write_reason-3.ensures)
    (rw c.has-4.ensures at c.in_ok-write_reason-4.ensures)
    (rw c.has-5.ensures at c.write_reason-5.ensures)
