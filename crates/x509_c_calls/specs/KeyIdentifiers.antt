-- By what the key of an issuer is told, by its places (RFC 5280 4.2.1.1).
use Rattle.std.specs.Prelude.{ℕ, List, ◌++◌}
use Rattle.x509_base.specs.Serial.{serial_number}
use Rattle.x509_base.specs.Profiles.{rfc5280_serial_number}
use Rattle.x509_c_calls.specs.Optional.{IsPerhapsAt}
use Rattle.x509_c_calls.specs.declared.payloads.key_identifier.AuthorityKeyIdentifierView.{AuthorityKeyIdentifierView}
use Rattle.x509_der.specs.Frames.{implicit, optional_octets}
use Rattle.x509_der.specs.Form.{spelling}
use Rattle.x509_ext.specs.declared.pkix.authority_key_identifier.AuthorityKeyIdentifier.{AuthorityKeyIdentifier}
use Rattle.x509_ext.specs.GeneralName.{general_names}

-- what stands behind the identifier of the key, and behind the names
abbrev pub serial_text : AuthorityKeyIdentifier → List ℕ
serial_text identifier = optional_octets (spelling (implicit 2 (serial_number rfc5280_serial_number))) identifier.authority_cert_serial_number

abbrev pub issuer_text : AuthorityKeyIdentifier → List ℕ
issuer_text identifier = optional_octets (spelling (implicit 1 general_names)) identifier.authority_cert_issuer

-- what the view says of an identifier in these bytes, behind which those others stand
pub record IsAuthorityKeyIdentifier (bytes : List ℕ) (identifier : AuthorityKeyIdentifier) (behind : List ℕ) (view : AuthorityKeyIdentifierView) : Type 0 where
  pub key_identifier : IsPerhapsAt (λ octets. octets) identifier.key_identifier (issuer_text identifier ++ (serial_text identifier ++ behind)) bytes view.key_identifier
  pub issuer : IsPerhapsAt (spelling (implicit 1 general_names)) identifier.authority_cert_issuer (serial_text identifier ++ behind) bytes view.issuer
  pub serial_number : IsPerhapsAt (λ content. content) identifier.authority_cert_serial_number behind bytes view.serial_number
