-- What is kept of a list of entries that may be left out.
use Rattle.std.proofs.Common.{◌≡◌, ℕ, List, [], Option, Some, None, Ok, refl}
use Rattle.x509_base.specs.declared.profile.Raw.{Raw}
use Rattle.x509_cert.specs.Revoked.{entries}
use Rattle.x509_cert.specs.declared.crl.revoked_cert.RevokedCert.{RevokedCert}
use Rattle.x509_crl_index.specs.Split.{IsKept, emptied, kept_octets, read_entries, read_entry}
use Rattle.x509_der.specs.ListLaws.{none_read}

pub is_emptied : (revoked : Option (List (RevokedCert Raw))) (list : Option (List ℕ)) → IsKept revoked list → emptied list ≡ emptied revoked
is_emptied None None kept = refl
is_emptied None (Some octets) kept = absurd kept
is_emptied (Some revoked) None kept = absurd kept
is_emptied (Some revoked) (Some octets) kept = refl

pub is_read : (revoked : Option (List (RevokedCert Raw))) (list : Option (List ℕ)) → IsKept revoked list → read_entries (kept_octets list) ≡ Ok (entries revoked)
is_read None None kept = none_read read_entry [] refl
is_read None (Some octets) kept = absurd kept
is_read (Some revoked) None kept = absurd kept
is_read (Some revoked) (Some octets) kept = kept
