-- The commonNames of a subject beside the names of the SAN, of which each has to be one (TLS BR 7.1.4.3).
use Rattle.std.specs.Prelude.{◌&&◌, ◌||◌, ◌==◌, ℕ, Bool, false, not, length, List, bytes_eq, if◌then◌else◌}
use Rattle.std.specs.List.{list_any}
use Rattle.std.specs.Net.Addr.{segments_of}
use Rattle.std.specs.Net.Text.{hex_groups_text, ipv4_text}
use Rattle.x509_ext.specs.declared.pkix.name.general_name.GeneralName.{GeneralName}
use Rattle.x509_ext.specs.declared.pkix.name.general_name.GeneralName.TheVariants.{DnsName, IpAddress}
use Rattle.x509_lint.specs.Text.{id_at}
use Rattle.x509_lint.specs.Words.{is_same}
use Rattle.x509_lint_web.specs.Host.{has_octet, has_xn_label, is_beyond_ascii}
use Rattle.x509_lint_web.specs.declared.common_names.CommonNameFault.{CommonNameFault}
use Rattle.x509_lint_web.specs.declared.common_names.CommonNameFault.TheVariants.{Stray, Rewritten}
use Rattle.x509_name.specs.declared.attr.type_and_value.AttributeTypeAndValue.{AttributeTypeAndValue}

-- an iPAddress as text: of version 4 an IPv4address (RFC 3986 3.2.2), of version 6 as RFC 5952 4 writes it
abbrev pub is_text_of_address : List ℕ → List ℕ → Bool
is_text_of_address text octets =
    if length octets == 4 then bytes_eq (ipv4_text octets) text
    else if length octets == 16 then bytes_eq (hex_groups_text (segments_of octets)) text
    else false

-- an IPv4address, or an IPv6 address and a text with a colon, which may be another way to write it
abbrev pub is_address : List ℕ → List ℕ → Bool
is_address text octets = if length octets == 4 then bytes_eq (ipv4_text octets) text else ((length octets == 16) && has_octet 58 text)

-- the dNSName without regard to ASCII case; or one with a label of IDNA and a text beyond ASCII, which may be the same in Unicode
abbrev pub is_host : List ℕ → List ℕ → Bool
is_host text other = is_same text other || (is_beyond_ascii text && has_xn_label other)

-- the text is the name, however it is written
abbrev pub is_value : List ℕ → GeneralName → Bool
is_value text (DnsName other) = is_host text other
is_value text (IpAddress octets) = is_address text octets
is_value text other = false

-- the text is the name as it has to be written: a dNSName octet for octet, an iPAddress in the one text that it has
abbrev pub is_copy : List ℕ → GeneralName → Bool
is_copy text (DnsName other) = bytes_eq other text
is_copy text (IpAddress octets) = is_text_of_address text octets
is_copy text other = false

abbrev pub is_common_name : AttributeTypeAndValue → Bool
is_common_name a = bytes_eq a.oid (id_at 3)

-- a commonName that is no name of the SAN
abbrev pub is_stray : List GeneralName → AttributeTypeAndValue → Bool
is_stray names a = is_common_name a && not (list_any (is_value a.value.value) names)

-- a commonName that is one, and is written otherwise
abbrev pub is_rewritten : List GeneralName → AttributeTypeAndValue → Bool
is_rewritten names a = is_common_name a && (list_any (is_value a.value.value) names && not (list_any (is_copy a.value.value) names))

abbrev pub is_odd_name : CommonNameFault → List GeneralName → AttributeTypeAndValue → Bool
is_odd_name Stray names a = is_stray names a
is_odd_name Rewritten names a = is_rewritten names a

abbrev pub has_odd_name : CommonNameFault → List GeneralName → List (List AttributeTypeAndValue) → Bool
has_odd_name fault names rdns = list_any (λ rdn. list_any (is_odd_name fault names) rdn) rdns
