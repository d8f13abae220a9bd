-- Names of servers in common names, which the caller may ask under name constraints (RFC 5280 4.2.1.10, RFC 6125 6.4.4).
use Rattle.std.specs.Prelude.{◌≡◌, ℕ, Bool, true, false, List, [], Option, Some, None, encode_utf8_all, option_map}
use Rattle.std.specs.List.{list_any}
use Rattle.std.specs.Net.Addr.{ipv4_octets, ipv6_octets}
use Rattle.std.specs.Net.Grammar.{IsIpText}
use Rattle.std.specs.declared.net.ip_addr.IpAddr.{IpAddr}
use Rattle.std.specs.declared.net.ip_addr.IpAddr.TheVariants as ip
use Rattle.x509_constraints.specs.Constraints.{IsAllowedBy}
use Rattle.x509_ext.specs.declared.pkix.alternative_names.SubjectAltName.{SubjectAltName}
use Rattle.x509_ext.specs.declared.pkix.name.general_name.GeneralName.{GeneralName}
use Rattle.x509_ext.specs.declared.pkix.name.general_name.GeneralName.TheVariants.{DnsName, IpAddress}
use Rattle.x509_ext.specs.declared.pkix.name_constraints.NameConstraints.{NameConstraints}
use Rattle.x509_host.specs.Host.{is_host_or_wildcard, without_root}
use Rattle.x509_match.specs.Matching.{compared_text}
use Rattle.x509_name.specs.AttributeTypes as types
use Rattle.x509_name.specs.declared.attr.type_and_value.AttributeTypeAndValue.{AttributeTypeAndValue}

-- ---- texts

-- the octets of an address, in the order of the network
abbrev pub ip_octets : IpAddr → List ℕ
ip_octets (ip.V4 a) = ipv4_octets a
ip_octets (ip.V6 a) = ipv6_octets a

-- an IPv4 address as four decimal numbers, or an IPv6 address (RFC 4291 2.2)
abbrev pub IsAddressText : List ℕ → List ℕ → Type 0
IsAddressText text octets = (a : IpAddr) × IsIpText text a × (octets ≡ ip_octets a)

-- What a text names as a server: the address that it is, or else the host, perhaps behind a wildcard; the dot of the root may stand at its end
-- (RFC 1034 3.1).
abbrev pub IsServerText : List ℕ → GeneralName → Type 0
IsServerText text (IpAddress octets) = IsAddressText text octets
IsServerText text (DnsName name) =
    ((octets : List ℕ) → IsAddressText text octets → ⊥) × ((name ≡ without_root text) × (is_host_or_wildcard name ≡ true))
IsServerText text _ = ⊥

-- ---- common names

-- the text that an attribute is compared by (RFC 5280 7.1), in UTF-8, whatever its string type
abbrev pub text_of : AttributeTypeAndValue → Option (List ℕ)
text_of a = option_map encode_utf8_all (compared_text a)

-- it is a common name, whose text names that server
abbrev pub NamesServer : AttributeTypeAndValue → GeneralName → Type 0
NamesServer a name = (a.oid ≡ types.common_name) × ((text : List ℕ) × (text_of a ≡ Some text) × IsServerText text name)

-- ---- beside the SAN

abbrev pub is_dns_name : GeneralName → Bool
is_dns_name (DnsName _) = true
is_dns_name _ = false

abbrev pub is_ip_address : GeneralName → Bool
is_ip_address (IpAddress _) = true
is_ip_address _ = false

-- the names of a SAN, none where there isn't one
abbrev pub names_of : Option SubjectAltName → List GeneralName
names_of None = []
names_of (Some alternative) = alternative.0

-- the SAN has a name of that form
abbrev pub has_form_of : GeneralName → Option SubjectAltName → Bool
has_form_of (DnsName _) names = list_any is_dns_name (names_of names)
has_form_of (IpAddress _) names = list_any is_ip_address (names_of names)
has_form_of _ names = false

-- the attribute is asked as that name: a peer may be taken by it, as the SAN has none of its form
abbrev pub IsAskedAs : Option SubjectAltName → AttributeTypeAndValue → GeneralName → Type 0
IsAskedAs names a name = NamesServer a name × (has_form_of name names ≡ false)

-- what it is asked as is allowed by one set
abbrev pub IsCommonNameAllowed : NameConstraints → Option SubjectAltName → AttributeTypeAndValue → Type 0
IsCommonNameAllowed constraints names a = (name : GeneralName) → IsAskedAs names a name → IsAllowedBy constraints name
