use Rattle.x509_text.specs.Usages.{last_usages}
use Rattle.x509_text.proofs.Written.{four_written}
use Rattle.x509_text.proofs.usages.write_last_usages.Goals as goal

pub returns : goal.returns
unfolding last_usages
returns c =
    four_written c.write_usage-4.result _ _ _ _ _ _ _ _ _
    (rw c.key_cert_sign.ensures at c.in_ok-write_usage.ensures)
    (rw c.crl_sign.ensures at c.in_ok-write_usage-2.ensures)
    (rw c.encipher_only.ensures at c.in_ok-write_usage-3.ensures)
    (rw c.decipher_only.ensures at c.write_usage-4.ensures)
