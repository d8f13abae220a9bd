use Rattle.x509_text.specs.Timestamps.{signed_lines}
use Rattle.x509_text.proofs.Written.{three_written}
use Rattle.x509_text.proofs.timestamps.write_signed.Goals as goal

pub returns : goal.returns
unfolding signed_lines
returns c =
    three_written c.write_octets.result _ _ _ _ _ _ _
    (rw c.hash_text-hash.ensures at c.in_ok-write_line.ensures)
    (rw c.signature_text-signature.ensures at c.in_ok-write_line-2.ensures)
    (rw c.as_slice.ensures.value at c.write_octets.ensures)
