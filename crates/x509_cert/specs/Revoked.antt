-- The entries of a CRL, and those with a serial number (RFC 5280 5.1.2.6, 5.3).
use Rattle.std.specs.Prelude.{◌≡◌, ℕ, List, [], ◌∷◌, filter, bytes_eq, Option, Some, None}
use Rattle.x509_cert.specs.declared.crl.revoked_cert.RevokedCert.{RevokedCert}

-- the entries, none where the list of them is left out
abbrev pub entries : {P : Type 0} → Option (List (RevokedCert P)) → List (RevokedCert P)
entries None = []
entries (Some revoked) = revoked

-- those with this serial number, in their order
abbrev pub with_serial : {P : Type 0} → List ℕ → List (RevokedCert P) → List (RevokedCert P)
with_serial number revoked = filter (λ e. bytes_eq e.serial_number number) revoked

-- the entry is the first with the number
abbrev pub IsFirstWith : {P : Type 0} → List ℕ → List (RevokedCert P) → RevokedCert P → Type 0
IsFirstWith {P} number revoked entry = (others : List (RevokedCert P)) × (with_serial number revoked ≡ entry ∷ others)
