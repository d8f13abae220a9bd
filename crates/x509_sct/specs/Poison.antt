-- CtPrecertificatePoison: NULL (RFC 6962 3.1), whose content is empty (X.690 8.8)
use Rattle.std.specs.Prelude.{◌≡◌, ℕ, List, [], ◌∷◌, Result, Ok, Err, refl}
use Rattle.std.proofs.Common.{inl}
use Rattle.x509_der.specs.declared.error.ErrorKind.{ErrorKind}
use Rattle.x509_der.specs.declared.error.ErrorKind.TheVariants.{Malformed}
use Rattle.x509_der.specs.declared.tag.Tag.TheVariants.{Null}
use Rattle.x509_der.specs.Form.{Form, Contents, IsContents, universal}
use Rattle.x509_sct.specs.declared.poison.CtPrecertificatePoison.{CtPrecertificatePoison}

abbrev pub the_poison : CtPrecertificatePoison
the_poison = record {}

abbrev pub poison_reading : List ℕ → Result CtPrecertificatePoison ErrorKind
poison_reading [] = Ok the_poison
poison_reading (octet ∷ octets) = Err Malformed

abbrev pub poison_contents : Contents CtPrecertificatePoison
poison_contents = record { octets = λ poison. []; good = λ poison. Unit {0}; reading = poison_reading }

abbrev pub ct_precertificate_poison : Form CtPrecertificatePoison
ct_precertificate_poison = universal Null poison_contents

poison_sound : (bytes : List ℕ) (v : CtPrecertificatePoison) → poison_reading bytes ≡ Ok v → Unit {0} × (bytes ≡ [])
poison_sound [] v e = (tt, refl)
poison_sound (octet ∷ octets) v e = absurd cc

poison_refused : (bytes : List ℕ) (e : ErrorKind) → poison_reading bytes ≡ Err e → e ≡ Malformed
poison_refused [] e h = cc
poison_refused (octet ∷ octets) e h = cc

pub poison_contents_lawful : {R : ErrorKind → Type 0} → IsContents R poison_contents
poison_contents_lawful = record { sound = poison_sound; complete = λ v g. refl; refused = λ bytes e r. inl (poison_refused bytes e r) }
