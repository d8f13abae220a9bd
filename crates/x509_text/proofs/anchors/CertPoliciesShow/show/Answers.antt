use Rattle.x509_text.specs.Anchors.{flags_lines}
use Rattle.x509_text.proofs.Written.{three_written}
use Rattle.x509_text.proofs.anchors.CertPoliciesShow.show.Goals as goal

pub returns : goal.returns
unfolding flags_lines
returns c =
    three_written c.write_flag-3.result _ _ _ _ _ _ _
    (rw c.has-mapping.ensures at c.in_ok-write_flag.ensures)
    (rw c.has-explicit.ensures at c.in_ok-write_flag-2.ensures)
    (rw c.has-any.ensures at c.write_flag-3.ensures)
