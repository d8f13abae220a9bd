-- Where the parts of a timestamp stand.
use Rattle.std.proofs.Common.{◌≡◌, ◌+◌, ℕ, List, [], ◌∷◌, ◌++◌, length, drop, refl, sym, ap, ◌∙◌, append_assoc, length-append, arith}
use Rattle.std.proofs.lemmas.List.{append-nil, drop_at}
use Rattle.x509_c_calls.specs.Place.{IsAt}
use Rattle.x509_c_calls.specs.Timestamps.{behind_log_id, signature_text}
use Rattle.x509_sct.specs.DigitallySigned.{hash_byte, signature_byte}
use Rattle.x509_sct.specs.Timestamp.{timestamp, timestamp_fields, version_byte}
use Rattle.x509_sct.specs.declared.timestamp.SignedCertificateTimestamp.{SignedCertificateTimestamp}
use Rattle.x509_sct.specs.Form.{Spells}
use Rattle.x509_sct.specs.Numbers.{uint16, uint64}

pub stands : (bytes front text behind : List ℕ) (n m : ℕ) → bytes ≡ front ++ (text ++ behind) → n ≡ length front → m ≡ length text → IsAt text behind bytes (record { place = n; len = m })
stands bytes front text behind n m e place len =
    (ap (drop n) e ∙ drop_at front (text ++ behind) n (sym place), len, omega (arith, place, ap length e, length-append front (text ++ behind)))

module _ (bytes : List ℕ) (it : SignedCertificateTimestamp) (spells : Spells timestamp it bytes) where
  abbrev key : List ℕ
  key = it.log_id.key_id

  key_len : length key ≡ 32
  unfolding timestamp_fields
  key_len = spells.0.1.0

  whole : bytes ≡ version_byte it.version ∷ (key ++ behind_log_id it)
  unfolding timestamp_fields
  whole = spells.1

  pub log_id_at : IsAt key (behind_log_id it) bytes (record { place = 1; len = 32 })
  log_id_at = stands bytes (version_byte it.version ∷ []) key (behind_log_id it) 1 32 whole refl (omega (arith, key_len))

  abbrev to_extensions : List ℕ
  to_extensions = version_byte it.version ∷ (key ++ (uint64.bytes it.timestamp ++ uint16.bytes (length it.extensions)))

  at_extensions : bytes ≡ to_extensions ++ (it.extensions ++ signature_text it)
  at_extensions = whole ∙ simp append_assoc refl

  extensions_place : length to_extensions ≡ 43
  extensions_place = omega (arith, key_len, length-append key (uint64.bytes it.timestamp ++ uint16.bytes (length it.extensions)))

  pub extensions_at : (n : ℕ) → n ≡ length it.extensions → IsAt it.extensions (signature_text it) bytes (record { place = 43; len = n })
  extensions_at n is = stands bytes to_extensions it.extensions (signature_text it) 43 n at_extensions (omega (arith, extensions_place)) is

  abbrev bits : List ℕ
  bits = it.signature.signature

  abbrev algorithms : List ℕ
  algorithms = hash_byte it.signature.algorithm.hash ∷ signature_byte it.signature.algorithm.signature ∷ uint16.bytes (length bits)

  at_signature : bytes ≡ (to_extensions ++ (it.extensions ++ algorithms)) ++ (bits ++ [])
  at_signature = at_extensions ∙ simp (append_assoc, append-nil) refl

  pub signature_at : (n m : ℕ) → n ≡ length it.extensions → m ≡ length bits → IsAt bits [] bytes (record { place = 47 + n; len = m })
  signature_at n m is len =
      stands bytes (to_extensions ++ (it.extensions ++ algorithms)) bits [] (47 + n) m at_signature
      (omega (arith, extensions_place, is, length-append to_extensions (it.extensions ++ algorithms), length-append it.extensions algorithms)) len
