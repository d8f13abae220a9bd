-- What was passed has another number.
use Rattle.std.proofs.Common.{◌≡◌, length}
use Rattle.x509_cert.specs.Revoked.{with_serial}
use Rattle.x509_cert.proofs.crl.certificate_list.first_with.Given as goal

abbrev pub invariant-loop-first : goal.invariant-loop-first
invariant-loop-first g l = with_serial l.serial_number l.rest ≡ with_serial l.serial_number l.entries

abbrev pub decreases-loop-first : goal.decreases-loop-first
decreases-loop-first g l = length l.rest
