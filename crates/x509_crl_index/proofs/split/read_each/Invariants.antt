use Rattle.std.proofs.Common.{◌≡◌, List, length}
use Rattle.x509_base.specs.declared.profile.Raw.{Raw}
use Rattle.x509_cert.specs.declared.crl.revoked_cert.RevokedCert.{RevokedCert}
use Rattle.x509_der.specs.List.{with_front}
use Rattle.x509_crl_index.specs.Split.{read_entries}
use Rattle.x509_crl_index.proofs.split.read_each.Given as goal

-- the entries that were passed, and those that are left
abbrev pub invariant-loop-rest : goal.invariant-loop-rest
invariant-loop-rest l = (front : List (RevokedCert Raw)) × (with_front front (read_entries l.rest) ≡ read_entries l.octets)

abbrev pub decreases-loop-rest : goal.decreases-loop-rest
decreases-loop-rest l = length l.rest
