-- KeyUsage: what a key may be used for, as named bits (RFC 5280 4.2.1.3)
use Rattle.std.specs.Prelude.{ℕ, ◌^◌, ◌==◌, Bool, List, [], ◌∷◌, codes, refl}
use Rattle.std.specs.Int.RustNames.{bit_and}
use Rattle.x509_der.specs.Round.{Round, rounded}
use Rattle.x509_ext.specs.declared.pkix.key_usage.KeyUsages.{KeyUsages}
use Rattle.x509_ext.specs.declared.pkix.key_usage.KeyUsage.{KeyUsage}
use Rattle.x509_der.specs.declared.tag.Tag.TheVariants.{BitString}
use Rattle.x509_der.specs.Form.{Form}
use Rattle.x509_prim.specs.NamedBits.{flag_bits}

-- the named bits 0 to 8, each as the set of it alone
abbrev pub key_usage_names : List (List ℕ × ℕ)
key_usage_names =
    (codes "DIGITAL_SIGNATURE", 1) ∷ (codes "NON_REPUDIATION", 2) ∷ (codes "KEY_ENCIPHERMENT", 4)
    ∷ (codes "DATA_ENCIPHERMENT", 8) ∷ (codes "KEY_AGREEMENT", 16) ∷ (codes "KEY_CERT_SIGN", 32)
    ∷ (codes "CRL_SIGN", 64) ∷ (codes "ENCIPHER_ONLY", 128) ∷ (codes "DECIPHER_ONLY", 256) ∷ []

-- each set of them is a number
abbrev pub key_usage_set : Round KeyUsages ℕ
key_usage_set = record { to = λ usages. usages.0; from = λ set. record { 0 = set }; back = λ usages. refl; there = λ set. refl }

abbrev pub key_usages : Form KeyUsages
key_usages = flag_bits key_usage_set key_usage_names

abbrev pub key_usage_round : Round KeyUsage KeyUsages
key_usage_round = record { to = λ usage. usage.0; from = λ usages. record { 0 = usages }; back = λ usage. refl; there = λ usages. refl }

abbrev pub key_usage : Form KeyUsage
key_usage = rounded key_usage_round BitString key_usages

-- whether the named bit n is there
abbrev pub has_bit : KeyUsage → ℕ → Bool
has_bit usage n = bit_and usage.0.0 (2 ^ n) == 2 ^ n
