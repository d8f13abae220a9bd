-- What keys may be used for, as sets of which bit n stands for the named bit n (RFC 5280 4.2.1.3).
use Rattle.std.specs.Prelude.{ℕ, ◌^◌, Bool, if◌then◌else◌}
use Rattle.std.specs.Int.RustNames.{bit_or}

abbrev pub digital_signature : ℕ
digital_signature = 2 ^ 0

abbrev pub key_encipherment : ℕ
key_encipherment = 2 ^ 2

abbrev pub data_encipherment : ℕ
data_encipherment = 2 ^ 3

abbrev pub key_agreement : ℕ
key_agreement = 2 ^ 4

abbrev pub key_cert_sign : ℕ
key_cert_sign = 2 ^ 5

abbrev pub crl_sign : ℕ
crl_sign = 2 ^ 6

-- the set, with a further use where that is wanted
abbrev pub with_usage : Bool → ℕ → ℕ → ℕ
with_usage wanted further set = if wanted then bit_or set further else set

-- of certification authorities: certificates and lists are signed, and where asked for answers of OCSP
abbrev pub ca_usages : Bool → ℕ
ca_usages emits_ocsp_response = with_usage emits_ocsp_response digital_signature (bit_or key_cert_sign crl_sign)

-- of servers: handshakes are signed, and where asked for data or keys are enciphered, or keys agreed on
abbrev pub subscriber_usages : Bool → Bool → Bool → ℕ
subscriber_usages enciphers_data enciphers_keys agrees_on_keys =
    with_usage agrees_on_keys key_agreement (with_usage enciphers_keys key_encipherment (with_usage enciphers_data data_encipherment digital_signature))
