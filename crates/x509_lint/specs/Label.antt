-- Labels of IDNA in DNS names (RFC 5890 2.3.2.1), whose text is in Normalization Form C (RFC 5891 5.4).
use Rattle.std.specs.Prelude.{◌&&◌, ℕ, Bool, false, not, length, List, drop, take, nat_le, codes, Option, None, if◌then◌else◌}
use Rattle.std.specs.List.{list_any}
use Rattle.std.specs.Str.{is_utf8}
use Rattle.idna.specs.Punycode.{decode}
use Rattle.unicode_normalization.specs.Forms.{is_nfc}
use Rattle.x509_ext.specs.declared.pkix.name.general_name.GeneralName.{GeneralName}
use Rattle.x509_ext.specs.declared.pkix.name.general_name.GeneralName.TheVariants.{DnsName}
use Rattle.x509_host.specs.Host.{labels_of}
use Rattle.x509_lint.specs.Words.{is_same, passes}

-- a label as IDNA writes one that isn't ASCII
abbrev pub is_xn_label : List ℕ → Bool
is_xn_label label = nat_le 4 (length label) && is_same (take 4 label) (codes "xn--")

-- the characters for which octets behind `xn--` stand by Punycode (RFC 3492 6.2), in a label of 63 octets at most (RFC 1035 2.3.4)
abbrev pub decoded : List ℕ → Option (List ℕ)
decoded octets = if nat_le (length octets) 59 && is_utf8 octets then decode octets else None

abbrev pub is_unnormalized : List ℕ → Bool
is_unnormalized text = not (is_nfc text)

-- it is decoded, and the text isn't in Normalization Form C
abbrev pub is_unnormalized_label : List ℕ → Bool
is_unnormalized_label label = is_xn_label label && passes is_unnormalized (decoded (drop 4 label))

abbrev pub has_unnormalized_label : List ℕ → Bool
has_unnormalized_label text = list_any is_unnormalized_label (labels_of text)

-- a dNSName with such a label
abbrev pub is_unnormalized_name : GeneralName → Bool
is_unnormalized_name (DnsName text) = has_unnormalized_label text
is_unnormalized_name other = false
