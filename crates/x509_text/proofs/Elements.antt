-- Lines of entries of which the octets are the elements.
use Rattle.std.proofs.Common.{◌≡◌, ℕ, List, [], ◌∷◌, ◌++◌, length, Result, Ok, Err, refl, sym, ap}
use Rattle.std.specs.List.{flat_map}
use Rattle.std.specs.Prelude.{IsOk}
use Rattle.x509_base.specs.declared.profile.Raw.{Raw}
use Rattle.x509_cert.specs.declared.crl.revoked_cert.RevokedCert.{RevokedCert}
use Rattle.x509_der.specs.Frames.{field_at}
use Rattle.x509_der.specs.List.{with_front}
use Rattle.x509_der.specs.ListLaws.{first_read, none_read}
use Rattle.x509_der.specs.OutcomeLaws.{ok_is}
use Rattle.x509_der.specs.declared.error.ErrorKind.{ErrorKind}
use Rattle.x509_text.specs.Crls.{entry_lines}
use Rattle.x509_text.specs.Pieces.{elements_lines, entries_read}
use Rattle.x509_crl_index.specs.Split.{read_entries, read_entry}
use Rattle.x509_text.specs.declared.line.Place.{Place}

one_front : (entry : RevokedCert Raw) (others whole : Result (List (RevokedCert Raw)) ErrorKind) → with_front (entry ∷ []) others ≡ whole → IsOk whole → (entries_read whole ≡ entry ∷ entries_read others) × IsOk others
one_front entry (Ok xs) (Ok ys) e ok = (sym (ok_is (entry ∷ xs) ys e), refl)
one_front entry (Ok xs) (Err d) e ok = absurd cc
one_front entry (Err c) (Ok ys) e ok = absurd cc
one_front entry (Err c) (Err d) e ok = absurd cc

-- no lines of no entries
pub no_lines : (at : Place) (octets : List ℕ) → length octets ≡ 0 → elements_lines at octets ≡ []
unfolding elements_lines
no_lines at octets none = ap (λ read. flat_map (entry_lines at) (entries_read read)) (none_read read_entry octets none)

-- the lines of the first entry, and those of the others
pub first_lines : (at : Place) (octets rest : List ℕ) (entry : RevokedCert Raw) → field_at read_entry octets ≡ Ok (entry, rest) → IsOk (read_entries octets) → (elements_lines at octets ≡ entry_lines at entry ++ elements_lines at rest) × IsOk (read_entries rest)
unfolding elements_lines
first_lines at octets rest entry e ok =
    let h = one_front entry (read_entries rest) (read_entries octets) (first_read read_entry octets rest entry e) ok in
    (ap (flat_map (entry_lines at)) h.0, h.1)
