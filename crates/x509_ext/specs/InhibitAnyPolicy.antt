-- InhibitAnyPolicy: u32 (RFC 5280 4.2.1.14)
use Rattle.std.specs.Prelude.{ℕ, ◌^◌, refl}
use Rattle.x509_der.specs.declared.tag.Tag.TheVariants.{Integer}
use Rattle.x509_der.specs.Form.{Form}
use Rattle.x509_der.specs.Natural.{natural}
use Rattle.x509_der.specs.Round.{Round, rounded}
use Rattle.x509_ext.specs.declared.pkix.inhibit_any_policy.InhibitAnyPolicy.{InhibitAnyPolicy}

abbrev pub inhibit_any_policy_round : Round InhibitAnyPolicy ℕ
inhibit_any_policy_round = record { to = λ inhibit. inhibit.0; from = λ certificates. record { 0 = certificates }; back = λ inhibit. refl; there = λ certificates. refl }

abbrev pub inhibit_any_policy : Form InhibitAnyPolicy
inhibit_any_policy = rounded inhibit_any_policy_round Integer (natural (2 ^ 32))
