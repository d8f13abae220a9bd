-- SubjectAltName and IssuerAltName: list GeneralName (RFC 5280 4.2.1.6, 4.2.1.7), and when the former is critical.
use Rattle.std.specs.Prelude.{Bool, true, false, List, [], ◌∷◌, refl}
use Rattle.x509_name.specs.declared.attr.type_and_value.AttributeTypeAndValue.{AttributeTypeAndValue}
use Rattle.x509_der.specs.declared.tag.Tag.TheVariants.{Sequence}
use Rattle.x509_der.specs.Form.{Form}
use Rattle.x509_der.specs.Round.{Round, rounded}
use Rattle.x509_ext.specs.GeneralName.{general_names}
use Rattle.x509_ext.specs.declared.pkix.name.general_name.GeneralName.{GeneralName}
use Rattle.x509_ext.specs.declared.pkix.alternative_names.SubjectAltName.{SubjectAltName}
use Rattle.x509_ext.specs.declared.pkix.alternative_names.IssuerAltName.{IssuerAltName}

abbrev pub subject_alt_name_round : Round SubjectAltName (List GeneralName)
subject_alt_name_round = record { to = λ alternative. alternative.0; from = λ names. record { 0 = names }; back = λ alternative. refl; there = λ names. refl }

abbrev pub subject_alt_name : Form SubjectAltName
subject_alt_name = rounded subject_alt_name_round Sequence general_names

abbrev pub issuer_alt_name_round : Round IssuerAltName (List GeneralName)
issuer_alt_name_round = record { to = λ alternative. alternative.0; from = λ names. record { 0 = names }; back = λ alternative. refl; there = λ names. refl }

abbrev pub issuer_alt_name : Form IssuerAltName
issuer_alt_name = rounded issuer_alt_name_round Sequence general_names

-- the name has no relative distinguished names (RFC 5280 4.2.1.6)
abbrev pub is_empty_name : List (List AttributeTypeAndValue) → Bool
is_empty_name [] = true
is_empty_name (rdn ∷ rdns) = false
