-- What RFC 5280 allows and the types of this library can't hold: a large OID, which has more than 39 octets or a number of 2^32 or more, and an x400Address. An extension that
-- can't be decoded and has one isn't called malformed, since the decoder's refusal doesn't tell whether the rest is right.
use Rattle.std.specs.Prelude.{ℕ, Bool, true, false, ◌&&◌, ◌||◌, ◌==◌, not, nat_lt, List, [], ◌∷◌, length, if◌then◌else◌}
use Rattle.std.specs.List.{list_any, slice_get}
use Rattle.x509_der.specs.ElementReading.{piece_at}
use Rattle.x509_der.specs.ObjectIdentifier.{is_object_identifier}
use Rattle.x509_lint.specs.Notices.{value_read}
use Rattle.x509_ext.specs.declared.extension.Extension.{Extension}
use Rattle.x509_lint.specs.Words.{is_empty, is_of, passes}
use Rattle.x509_lint.specs.declared.beyond.Beyond.{Beyond}
use Rattle.x509_lint.specs.declared.beyond.Beyond.TheVariants.{Nothing, Identifiers, Names}

-- whole numbers in base 128, of which none begins with 0x80 (X.690 8.19.2); fresh is whether one begins here
abbrev pub are_numbers : Bool → List ℕ → Bool
are_numbers fresh [] = fresh
are_numbers fresh (octet ∷ octets) = if nat_lt octet 128 then are_numbers true octets else not (fresh && (octet == 128)) && are_numbers false octets

-- the content of a large OID; where it has more than 39 octets, its numbers aren't looked at
abbrev pub is_large : List ℕ → Bool
is_large content = nat_lt 39 (length content) || (not (is_empty content) && (are_numbers true content && not (is_object_identifier content)))

-- OBJECT IDENTIFIER, identifier octet 0x06
abbrev pub is_large_identifier : ℕ → List ℕ → Bool
is_large_identifier tag content = (tag == 6) && is_large content

-- x400Address [3], identifier octet 0xA3: an ORAddress, which begins with a SEQUENCE (RFC 5280 A.1)
abbrev pub is_x400_address : ℕ → List ℕ → Bool
is_x400_address tag content = (tag == 163) && passes (λ first. first == 48) (slice_get content 0)

-- which of them an extension may have
abbrev pub is_beyond : Beyond → ℕ → List ℕ → Bool
is_beyond Nothing tag content = false
is_beyond Identifiers tag content = is_large_identifier tag content
is_beyond Names tag content = is_large_identifier tag content || is_x400_address tag content

-- the octets begin with one
abbrev pub begins_beyond : Beyond → List ℕ → Bool
begins_beyond beyond octets = passes (λ p. is_beyond beyond p.tag p.content) (value_read (piece_at octets))

-- one stands somewhere in the octets
abbrev pub has_beyond : Beyond → List ℕ → Bool
has_beyond beyond [] = false
has_beyond beyond (octet ∷ octets) = begins_beyond beyond (octet ∷ octets) || has_beyond beyond octets

-- no value of the type is read, and an extension of it has one, so that the rules on what it says can't be judged
abbrev pub is_unjudged : List ℕ → Beyond → List Extension → Bool → Bool
is_unjudged oid beyond extensions is_read = not is_read && list_any (λ e. is_of oid e && has_beyond beyond e.extn_value) extensions
