-- Subjects without RDNs.
use Rattle.std.proofs.Common.{◌≡◌, ◌↔◌, ℕ, true, List, [], ◌∷◌, refl, arith}
use Rattle.std.specs.Prelude.{bytes_eq}
use Rattle.x509_cert.specs.Certificate.{rfc5280_certificate}
use Rattle.x509_der.specs.Element.{element, length_octets}
use Rattle.x509_der.specs.Form.{Spells, spelling}
use Rattle.x509_der.specs.List.{all_good, joined}
use Rattle.x509_name.specs.Names.{name}
use Rattle.x509_path.proofs.Lent.{same_names, subject_spells}
use Rattle.x509_path.specs.Certificates.{Certificate}

abbrev pub empty_name : List ℕ
empty_name = 48 ∷ 0 ∷ []

empty_spells : Spells name [] empty_name
unfolding element length_octets joined all_good
empty_spells = (tt, refl, omega arith)

pub no_name : (c : Certificate) (bytes : List ℕ) → Spells rfc5280_certificate c bytes → (lent : List ℕ) → lent ≡ spelling name c.tbs_certificate.subject → (bytes_eq lent empty_name ≡ true) ↔ (c.tbs_certificate.subject ≡ [])
no_name c bytes spells lent is = same_names c.tbs_certificate.subject [] lent empty_name (subject_spells c bytes spells lent is) empty_spells
