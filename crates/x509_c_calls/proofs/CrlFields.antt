-- The fields of a CRL and of its entries, one after the other.
use Rattle.std.proofs.Common.{◌≡◌, ℕ, ◌≤◌, ◌+◌, true, List, [], ◌∷◌, ◌++◌, length, refl, arith, append_assoc, length-append}
use Rattle.x509_base.specs.Profiles.{rfc5280_serial_number}
use Rattle.x509_base.specs.declared.profile.Rfc5280.{Rfc5280}
use Rattle.x509_base.specs.Time.{time}
use Rattle.x509_base.specs.declared.time.Time.{Time}
use Rattle.x509_base.specs.declared.time.Time.TheVariants.{UtcTime, GeneralTime}
use Rattle.x509_cert.specs.RevokedCert.{revoked_cert}
use Rattle.x509_cert.specs.declared.crl.revoked_cert.RevokedCert.{RevokedCert}
use Rattle.x509_der.specs.Element.{element, length_octets, is_identifier, is_universal}
use Rattle.x509_der.specs.Form.{Form, spelling}
use Rattle.x509_der.specs.List.{joined}
use Rattle.x509_der.specs.Choice.{by_case}

pub is_integer : is_identifier 2 ≡ true
unfolding is_identifier is_universal
is_integer = refl

pub is_time : (t : Time) → is_identifier (time.tag t) ≡ true
unfolding by_case is_identifier is_universal
is_time (UtcTime c) = refl
is_time (GeneralTime c) = refl

-- parts in two groups stand one behind the other
pub one_after_the_other : (a b c d e f g more : List ℕ) → ((a ++ (b ++ (c ++ d))) ++ (e ++ (f ++ g))) ++ more ≡ a ++ (b ++ (c ++ (d ++ (e ++ (f ++ (g ++ more))))))
one_after_the_other a b c d e f g more = simp append_assoc refl

pub three : (a b c more : List ℕ) → (a ++ (b ++ c)) ++ more ≡ a ++ (b ++ (c ++ more))
three a b c more = simp append_assoc refl

-- ---- how many entries there are: no more than octets

pub element_length : (tag : ℕ) (content : List ℕ) → 1 + length content ≤ length (element tag content)
unfolding element
element_length tag content = omega (arith, length-append (length_octets (length content)) content)

pub entry_length : (values : List (RevokedCert Rfc5280)) → length values ≤ length (joined (spelling (revoked_cert rfc5280_serial_number)) values)
unfolding joined
entry_length [] = omega arith
entry_length (value ∷ values) =
    let form : Form (RevokedCert Rfc5280) = revoked_cert rfc5280_serial_number in
    omega (arith, length-append (spelling form value) (joined (spelling form) values), element_length 48 (form.content value), entry_length values)
