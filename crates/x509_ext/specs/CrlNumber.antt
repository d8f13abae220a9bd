-- CrlNumber and BaseCrlNumber: INTEGER from 0 on (RFC 5280 5.2.3, 5.2.4)
use Rattle.std.specs.Prelude.{ℕ, List, refl}
use Rattle.x509_der.specs.declared.tag.Tag.TheVariants.{Integer}
use Rattle.x509_der.specs.Form.{Form}
use Rattle.x509_der.specs.Round.{Round, rounded}
use Rattle.x509_prim.specs.Integer.{unsigned_integer}
use Rattle.x509_ext.specs.declared.pkix.crl_number.CrlNumber.{CrlNumber}
use Rattle.x509_ext.specs.declared.pkix.crl_number.BaseCrlNumber.{BaseCrlNumber}

abbrev pub crl_number_round : Round CrlNumber (List ℕ)
crl_number_round = record { to = λ crl. crl.0; from = λ number. record { 0 = number }; back = λ crl. refl; there = λ number. refl }

abbrev pub crl_number : Form CrlNumber
crl_number = rounded crl_number_round Integer unsigned_integer

abbrev pub base_crl_number_round : Round BaseCrlNumber (List ℕ)
base_crl_number_round = record { to = λ base. base.0; from = λ number. record { 0 = number }; back = λ base. refl; there = λ number. refl }

abbrev pub base_crl_number : Form BaseCrlNumber
base_crl_number = rounded base_crl_number_round Integer unsigned_integer
