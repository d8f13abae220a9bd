-- DNS names of TLS servers (TLS BR 1.6.1, 7.1.2.7.12).
use Rattle.std.specs.Prelude.{◌&&◌, ◌||◌, ◌==◌, ◌-◌, ℕ, Bool, false, not, nat_le, nat_lt, length, take, drop, List, [], ◌∷◌, codes, if◌then◌else◌}
use Rattle.std.specs.Char.{is_ascii_alphabetic, is_ascii_digit}
use Rattle.std.specs.List.{list_all, list_any, slice_get}
use Rattle.x509_host.specs.Host.{behind_wildcard, labels_of}
use Rattle.x509_lint.specs.Label.{is_xn_label}
use Rattle.x509_lint.specs.Words.{is_same, passes}

abbrev pub has_octet : ℕ → List ℕ → Bool
has_octet octet text = list_any (λ o. o == octet) text

abbrev pub has_underscore : List ℕ → Bool
has_underscore text = has_octet 95 text

-- hyphens in the third and the fourth place, and something other than xn in front (RFC 5890 2.3.1)
abbrev pub is_reserved_label : List ℕ → Bool
is_reserved_label (first ∷ second ∷ third ∷ fourth ∷ octets) =
    (third == 45) && ((fourth == 45) && not (((first == 88) || (first == 120)) && ((second == 78) || (second == 110))))
is_reserved_label other = false

abbrev pub has_reserved_label : List ℕ → Bool
has_reserved_label text = list_any is_reserved_label (labels_of text)

-- some label is as IDNA writes one that isn't ASCII (RFC 5890 2.3.2.1)
abbrev pub has_xn_label : List ℕ → Bool
has_xn_label text = list_any is_xn_label (labels_of text)

abbrev pub is_beyond_ascii : List ℕ → Bool
is_beyond_ascii text = list_any (λ o. nat_lt 127 o) text

-- a * that isn't the whole of the leftmost label
abbrev pub has_other_wildcard : List ℕ → Bool
has_other_wildcard text = has_octet 42 (behind_wildcard text)

-- no full stop, but for that of a wildcard
abbrev pub has_one_label : List ℕ → Bool
has_one_label text = not (has_octet 46 (behind_wildcard text))

-- what stands behind the last full stop of a text, and the label where it has none
abbrev pub last_label_of : List ℕ → List ℕ → List ℕ
last_label_of label [] = label
last_label_of label (octet ∷ octets) = if octet == 46 then last_label_of octets octets else last_label_of label octets

abbrev pub last_label : List ℕ → List ℕ
last_label text = last_label_of text text

-- the last label is one that the public DNS never has (RFC 6761 6, RFC 6762 3, RFC 9476 2; ICANN keeps `internal` for private use)
abbrev pub is_internal_label : List ℕ → Bool
is_internal_label label =
    is_same label (codes "alt") || (is_same label (codes "example") || (is_same label (codes "internal") || (is_same label (codes "invalid")
    || (is_same label (codes "local") || (is_same label (codes "localhost") || is_same label (codes "test"))))))

abbrev pub is_internal : List ℕ → Bool
is_internal text = is_internal_label (last_label text)

abbrev pub are_digits : List ℕ → Bool
are_digits octets = list_all is_ascii_digit octets

-- the last label is of digits, as that of an IPv4 address is
abbrev pub is_numeric : List ℕ → Bool
is_numeric text = not (length (last_label text) == 0) && are_digits (last_label text)

-- the text ends in the other, without regard to ASCII case
abbrev pub ends_in : List ℕ → List ℕ → Bool
ends_in text end = is_same (drop (length text - length end) text) end

-- a name of the reverse mapping (RFC 1035 3.5, RFC 3596 2.5)
abbrev pub is_reverse : List ℕ → Bool
is_reverse text = ends_in text (codes ".in-addr.arpa") || ends_in text (codes ".ip6.arpa")

-- a letter or one of the digits 2 to 7 (RFC 4648 6)
abbrev pub is_base32 : ℕ → Bool
is_base32 octet = is_ascii_alphabetic octet || (nat_le 50 octet && nat_le octet 55)

abbrev pub are_base32 : List ℕ → Bool
are_base32 octets = list_all is_base32 octets

-- the octet at the place is between the two, both included
abbrev pub is_between : List ℕ → ℕ → ℕ → ℕ → Bool
is_between octets at low high = passes (λ octet. nat_le low octet && nat_le octet high) (slice_get octets at)

-- 35 octets in base 32, the last of which is the version, 3
abbrev pub is_onion_label : List ℕ → Bool
is_onion_label label = (length label == 56) && (are_base32 label && (is_between label 55 68 68 || is_between label 55 100 100))

-- a name ending in onion, and what stands in front of that isn't the address of an onion service
abbrev pub is_other_onion : List ℕ → Bool
is_other_onion text = is_same (last_label text) (codes "onion") && not (is_onion_label (last_label (take (length text - 6) text)))
