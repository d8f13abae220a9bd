-- Where the octets of a signature stand.
use Rattle.std.proofs.Common.{◌≡◌, ◌≤◌, ◌+◌, ◌-◌, ℕ, true, List, ◌∷◌, length, drop, Result, refl, sym, ap, ◌∙◌, arith, length-append, length-drop}
use Rattle.std.proofs.lemmas.List.{drop-drop}
use Rattle.x509_c_calls.proofs.Parts.{part_text, behind_part, whole}
use Rattle.x509_c_calls.specs.Place.{IsAt}
use Rattle.x509_c_calls.specs.declared.place.span.Span.{Span}
use Rattle.x509_cert.specs.Certificate.{certificate}
use Rattle.x509_cert.specs.declared.certificate.certificate.CertificateInner.{CertificateInner}
use Rattle.x509_cert.specs.Signed.{IsSignedPart}
use Rattle.x509_der.specs.Element.{element, is_identifier, is_universal}
use Rattle.x509_der.specs.declared.error.ErrorKind.{ErrorKind}
use Rattle.x509_der.specs.Form.{Spells}

pub is_bits : is_identifier 3 ≡ true
unfolding is_identifier is_universal
is_bits = refl

-- what is signed is the element in front of the algorithm
pub is_signed : {P : Type 0} (check : List ℕ → Result Unit ErrorKind) (value : CertificateInner P) (bytes : List ℕ) (spells : Spells (certificate check) value bytes) → IsSignedPart bytes (element 48 (part_text check value bytes spells))
is_signed check value bytes spells =
    record { content = part_text check value bytes spells; behind = behind_part check value bytes spells; part = refl; whole = whole check value bytes spells; within = spells.2 }

module _ (bytes rest more : List ℕ) (first : ℕ) (span : Span) (stands : IsAt (first ∷ rest) more bytes span) where
  pub behind_first_fits : span.place + 1 ≤ length bytes
  behind_first_fits = omega (arith, stands.2, ap length stands.0, length-drop span.place bytes, length-append (first ∷ rest) more)

  pub first_fits : 1 ≤ span.len
  first_fits = omega (arith, stands.1)

  -- behind the first of the octets stand the rest
  pub behind_first : IsAt rest more bytes (record { place = span.place + 1; len = span.len - 1 })
  behind_first = (sym (drop-drop 1 span.place bytes) ∙ ap (drop 1) stands.0, omega (arith, stands.1), behind_first_fits)
