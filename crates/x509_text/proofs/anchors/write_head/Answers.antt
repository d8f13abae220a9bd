use Rattle.x509_text.specs.Anchors.{head_lines}
use Rattle.x509_text.proofs.Written.{five_written}
use Rattle.x509_text.proofs.anchors.write_head.Goals as goal

pub returns : goal.returns
unfolding head_lines
returns g c =
    five_written c.write_optional_text-2.result _ _ _ _ _ _ _ _ _ _ _
    (rw c.version_text.ensures at c.in_ok-write_line.ensures)
    c.in_ok-write_key.ensures
    (rw c.as_bytes.ensures at c.in_ok-write_octets.ensures)
    c.in_ok-write_optional_text.ensures
    c.write_optional_text-2.ensures
