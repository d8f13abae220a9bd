-- ExtendedKeyUsage: list OBJECT IDENTIFIER (RFC 5280 4.2.1.12)
use Rattle.std.specs.Prelude.{ℕ, List, refl}
use Rattle.x509_der.specs.declared.tag.Tag.TheVariants.{Sequence}
use Rattle.x509_der.specs.List.{list_of}
use Rattle.x509_der.specs.Form.{Form, universal}
use Rattle.x509_der.specs.Round.{Round, rounded}
use Rattle.x509_der.specs.ObjectIdentifierForm.{object_identifier}
use Rattle.x509_ext.specs.declared.pkix.extended_key_usage.ExtendedKeyUsage.{ExtendedKeyUsage}

abbrev pub extended_key_usage_round : Round ExtendedKeyUsage (List (List ℕ))
extended_key_usage_round = record { to = λ usage. usage.0; from = λ purposes. record { 0 = purposes }; back = λ usage. refl; there = λ purposes. refl }

abbrev pub extended_key_usage : Form ExtendedKeyUsage
extended_key_usage = rounded extended_key_usage_round Sequence (universal Sequence (list_of object_identifier))
