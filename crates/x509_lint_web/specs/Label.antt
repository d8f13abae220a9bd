-- Labels of IDNA in DNS names (RFC 5890 2.3.2.1): what stands behind `xn--` is Punycode (RFC 3492 6.2), which makes it a P-label (TLS BR 1.6.1).
use Rattle.std.specs.Prelude.{◌&&◌, ℕ, Bool, false, not, is_some, length, List, drop, nat_le}
use Rattle.std.specs.List.{list_any}
use Rattle.std.specs.Str.{is_utf8}
use Rattle.idna.specs.Punycode.{decode}
use Rattle.x509_ext.specs.declared.pkix.name.general_name.GeneralName.{GeneralName}
use Rattle.x509_ext.specs.declared.pkix.name.general_name.GeneralName.TheVariants.{DnsName}
use Rattle.x509_host.specs.Host.{labels_of}
use Rattle.x509_lint.specs.Label.{is_xn_label}

-- a text that can be decoded, in a label of 63 octets at most (RFC 1035 2.3.4)
abbrev pub is_punycode : List ℕ → Bool
is_punycode octets = nat_le (length octets) 59 && (is_utf8 octets && is_some (decode octets))

-- it begins as a label of IDNA, and is none
abbrev pub is_other_label : List ℕ → Bool
is_other_label label = is_xn_label label && not (is_punycode (drop 4 label))

abbrev pub has_other_label : List ℕ → Bool
has_other_label text = list_any is_other_label (labels_of text)

-- a dNSName with such a label
abbrev pub is_other_name : GeneralName → Bool
is_other_name (DnsName text) = has_other_label text
is_other_name other = false
