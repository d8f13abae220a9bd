-- Words that several rules use, what rules look at beside the certificate itself, and of whom they speak.
use Rattle.std.specs.Prelude.{◌≡◌, ◌↔◌, ◌&&◌, ◌||◌, ◌+◌, ◌*◌, ℕ, Bool, false, not, nat_le, List, [], ◌∷◌, length, take, filter, Option, Some, bytes_eq, codes}
use Rattle.std.specs.List.{list_any}
use Rattle.x509_base.specs.declared.subject_public_key_info.SubjectPublicKeyInfo.{SubjectPublicKeyInfo}
use Rattle.x509_der.specs.Form.{Form, Spells, universal}
use Rattle.x509_der.specs.List.{list_of}
use Rattle.x509_der.specs.declared.tag.Tag.TheVariants.{Sequence}
use Rattle.x509_ext.specs.Access.{authority_info_access_syntax}
use Rattle.x509_ext.specs.AlternativeNames.{subject_alt_name}
use Rattle.x509_ext.specs.AuthorityKeyIdentifier.{authority_key_identifier}
use Rattle.x509_ext.specs.CertificatePolicies.{certificate_policies}
use Rattle.x509_ext.specs.DistributionPoint.{crl_distribution_points}
use Rattle.x509_ext.specs.ExtendedKeyUsage.{extended_key_usage}
use Rattle.x509_ext.specs.Identifiers.{id_ce, id_pkix}
use Rattle.x509_ext.specs.KeyUsage.{key_usage}
use Rattle.x509_ext.specs.NameConstraints.{name_constraints}
use Rattle.x509_ext.specs.SubjectKeyIdentifier.{subject_key_identifier}
use Rattle.x509_ext.specs.declared.extension.Extension.{Extension}
use Rattle.x509_ext.specs.declared.pkix.authority_key_identifier.AuthorityKeyIdentifier.{AuthorityKeyIdentifier}
use Rattle.x509_ext.specs.declared.pkix.key_usage.KeyUsage.{KeyUsage}
use Rattle.x509_ext.specs.declared.pkix.name.general_name.GeneralName.{GeneralName}
use Rattle.x509_ext.specs.declared.pkix.name.general_name.GeneralName.TheVariants.{UniformResourceIdentifier}
use Rattle.x509_lint.specs.BasicConstraints.{any_basic_constraints}
use Rattle.x509_lint.specs.Key.{is_self_issued}
use Rattle.x509_lint.specs.Words.{Certificate, IsValue, extensions_of, has, is_same, passes}
use Rattle.x509_lint_web.specs.declared.values.WebValues.{WebValues}
use Rattle.x509_name.specs.declared.attr.type_and_value.AttributeTypeAndValue.{AttributeTypeAndValue}
use Rattle.x509_prim.specs.Integer.{unsigned_integer}

-- ---- values

-- SEQUENCE OF INTEGER, each from 0 on; an RSAPublicKey is one of two numbers (RFC 8017 A.1.1)
abbrev pub numbers : Form (List (List ℕ))
numbers = universal Sequence (list_of unsigned_integer)

-- the value that the octets spell; None where they spell none
abbrev pub IsSpelled : {T : Type 0} → Form T → List ℕ → Option T → Type 0
IsSpelled {T} form octets found = (value : T) → Spells form value octets ↔ (found ≡ Some value)

abbrev pub key_of : Certificate → SubjectPublicKeyInfo
key_of c = c.tbs_certificate.subject_public_key_info

-- the values of the extensions, each where there is one of its OID alone, and it is read, and of the key
abbrev pub AreValuesOf : List Extension → SubjectPublicKeyInfo → WebValues → Type 0
AreValuesOf extensions key v =
    IsValue any_basic_constraints (id_ce 19) extensions v.basic_constraints
    × IsValue key_usage (id_ce 15) extensions v.key_usage
    × IsValue extended_key_usage (id_ce 37) extensions v.extended_key_usage
    × IsValue subject_alt_name (id_ce 17) extensions v.subject_alt_name
    × IsValue authority_key_identifier (id_ce 35) extensions v.authority_key_identifier
    × IsValue certificate_policies (id_ce 32) extensions v.certificate_policies
    × IsValue crl_distribution_points (id_ce 31) extensions v.crl_distribution_points
    × IsValue authority_info_access_syntax (id_pkix 1 1) extensions v.authority_info_access
    × IsValue subject_key_identifier (id_ce 14) extensions v.subject_key_identifier
    × IsValue name_constraints (id_ce 30) extensions v.name_constraints
    × IsSpelled numbers key.subject_public_key.octets v.rsa_numbers

-- ---- names and texts

-- some attribute of the name has the type
abbrev pub has_attribute : List ℕ → List (List AttributeTypeAndValue) → Bool
has_attribute oid rdns = list_any (λ rdn. list_any (λ a. bytes_eq a.oid oid) rdn) rdns

abbrev pub is_of_type : List ℕ → AttributeTypeAndValue → Bool
is_of_type oid a = bytes_eq a.oid oid

-- how many attributes of the name have the type
abbrev pub count_of : List ℕ → List (List AttributeTypeAndValue) → ℕ
count_of oid [] = 0
count_of oid (rdn ∷ rdns) = length (filter (is_of_type oid) rdn) + count_of oid rdns

-- an HTTP URI: it begins with `http://` (RFC 9110 4.2.1)
abbrev pub is_http : List ℕ → Bool
is_http text = nat_le 7 (length text) && is_same (take 7 text) (codes "http://")

abbrev pub is_http_name : GeneralName → Bool
is_http_name (UniformResourceIdentifier text) = is_http text
is_http_name other = false

-- ---- numbers

-- the number of these digits, the highest first
abbrev pub number_of : ℕ → ℕ → List ℕ → ℕ
number_of base high [] = high
number_of base high (digit ∷ digits) = number_of base (high * base + digit) digits

-- ---- extensions

-- the KeyUsage is read, and passes the test
abbrev pub has_usage : (KeyUsage → Bool) → WebValues → Bool
has_usage test v = passes test v.key_usage

-- the EKU is read, and one of its purposes passes the test
abbrev pub has_purpose : (List ℕ → Bool) → WebValues → Bool
has_purpose test v = passes (λ u. list_any test u.0) v.extended_key_usage

-- a policy has the OID
abbrev pub has_policy : List ℕ → WebValues → Bool
has_policy oid v = passes (λ p. list_any (λ policy. bytes_eq policy.policy_identifier oid) p.0) v.certificate_policies

-- ---- whom the rules speak of

-- id-kp-serverAuth (RFC 5280 4.2.1.12)
abbrev pub server_auth : List ℕ
server_auth = id_pkix 3 1

-- id-kp-OCSPSigning (RFC 6960 4.2.2.2)
abbrev pub ocsp_signing : List ℕ
ocsp_signing = id_pkix 3 9

-- cA is set
abbrev pub is_authority : WebValues → Bool
is_authority v = passes (λ b. b.ca) v.basic_constraints

-- there are no basic constraints, or those that there are are read and don't set cA
abbrev pub is_leaf : Certificate → WebValues → Bool
is_leaf c v = not (has (id_ce 19) (extensions_of c)) || passes (λ b. not b.ca) v.basic_constraints

-- there is no EKU, or the one that there is is read and has id-kp-serverAuth
abbrev pub may_serve : Certificate → WebValues → Bool
may_serve c v = not (has (id_ce 37) (extensions_of c)) || has_purpose (λ purpose. bytes_eq purpose server_auth) v

-- a TLS server's certificate (TLS BR 7.1.2.7)
abbrev pub is_server : Certificate → WebValues → Bool
is_server c v = is_leaf c v && may_serve c v

-- one of an authority that may stand above a TLS server's (TLS BR 7.1.2.10)
abbrev pub is_above_servers : Certificate → WebValues → Bool
is_above_servers c v = is_authority v && may_serve c v

-- the AKI tells another key than the one of these octets
abbrev pub tells_another : List ℕ → AuthorityKeyIdentifier → Bool
tells_another key issuer = passes (λ octets. not (bytes_eq octets key)) issuer.key_identifier

-- SKI and AKI are read, and tell two keys: the certificate is signed by another one than it has (RFC 5280 4.2.1.1)
abbrev pub is_of_another_key : WebValues → Bool
is_of_another_key v = passes (λ key. passes (tells_another key.0) v.authority_key_identifier) v.subject_key_identifier

-- one of a root above TLS servers (TLS BR 7.1.2.1): self-issued, and not signed by another key
abbrev pub is_root : Certificate → WebValues → Bool
is_root c v = is_above_servers c v && (is_self_issued c && not (is_of_another_key v))

-- one of such an authority that has another issuer (TLS BR 7.1.2.2, 7.1.2.5, 7.1.2.6)
abbrev pub is_subordinate : Certificate → WebValues → Bool
is_subordinate c v = is_above_servers c v && not (is_self_issued c)

-- an OCSP responder's certificate (TLS BR 7.1.2.8): the EKU is read, and has id-kp-OCSPSigning, and not id-kp-serverAuth
abbrev pub is_responder : Certificate → WebValues → Bool
is_responder c v =
    is_leaf c v && (has_purpose (λ purpose. bytes_eq purpose ocsp_signing) v && not (has_purpose (λ purpose. bytes_eq purpose server_auth) v))
