use Rattle.std.proofs.Common.{◌≡◌, ◌+◌, ◌≤◌, length, drop}
use Rattle.x509_sct.specs.Items.{joined}
use Rattle.x509_sct.specs.Numbers.{vector24}
use Rattle.x509_log.proofs.chain.certificates_len.Given as goal

abbrev pub invariant-loop-certificate : goal.invariant-loop-certificate
invariant-loop-certificate l =
    record { whole : l.total + length (joined vector24 (drop l.certificate-index l.certificates)) ≡ length (joined vector24 l.certificates); short : l.total ≤ 16777215 }
