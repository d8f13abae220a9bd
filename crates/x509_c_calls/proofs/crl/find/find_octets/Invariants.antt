use Rattle.std.proofs.Common.{◌≡◌, ◌++◌, ℕ, List, length}
use Rattle.x509_base.specs.declared.profile.Rfc5280.{Rfc5280}
use Rattle.x509_c_calls.proofs.crl.find.find_octets.Given as goal
use Rattle.x509_c_calls.specs.FoundEntry.{entry_octets}
use Rattle.x509_cert.specs.Revoked.{with_serial}
use Rattle.x509_cert.specs.declared.crl.revoked_cert.RevokedCert.{RevokedCert}

-- what was passed has entries without the number
abbrev pub invariant-loop-rest : goal.invariant-loop-rest
invariant-loop-rest l = record {
  within : (passed : List ℕ) × (l.octets ≡ passed ++ l.rest);
  all : (values : List (RevokedCert Rfc5280)) → l.octets ≡ entry_octets values
      → (before : List (RevokedCert Rfc5280)) × (left : List (RevokedCert Rfc5280)) × (values ≡ before ++ left) × (l.rest ≡ entry_octets left) × (with_serial l.number values ≡ with_serial l.number left);
}

abbrev pub decreases-loop-rest : goal.decreases-loop-rest
decreases-loop-rest l = length l.rest
