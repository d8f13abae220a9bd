-- What was found in a CRL that is lent.
use Rattle.std.specs.Prelude.{ℕ, Option, option_map}
use Rattle.x509_check.specs.CrlRefs.{lent_entry}
use Rattle.x509_revocation.specs.Crls.{Entry}
use Rattle.x509_revocation.specs.declared.entries.Found.{Found}

-- the entry, with the place of its CRL
abbrev pub placed_entry : Found → Option (ℕ × Entry)
placed_entry found = option_map (λ e. (found.place, lent_entry e)) found.entry
