use Rattle.x509_text.specs.Usages.{first_usages}
use Rattle.x509_text.proofs.Written.{five_written}
use Rattle.x509_text.proofs.usages.write_first_usages.Goals as goal

pub returns : goal.returns
unfolding first_usages
returns c =
    five_written c.write_usage-5.result _ _ _ _ _ _ _ _ _ _ _
    (rw c.digital_signature.ensures at c.in_ok-write_usage.ensures)
    (rw c.non_repudiation.ensures at c.in_ok-write_usage-2.ensures)
    (rw c.key_encipherment.ensures at c.in_ok-write_usage-3.ensures)
    (rw c.data_encipherment.ensures at c.in_ok-write_usage-4.ensures)
    (rw c.key_agreement.ensures at c.write_usage-5.ensures)
