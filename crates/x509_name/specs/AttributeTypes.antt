-- The attribute types that have a name (RFC 4519 section 2, RFC 5280 appendix A.1, RFC 2985 5.2.1), as the content octets of their OIDs.
use Rattle.std.specs.Prelude.{ℕ, List, [], ◌∷◌}
use Rattle.x509_der.specs.Arcs.{content_of}

abbrev pub common_name : List ℕ
common_name = content_of (2 ∷ 5 ∷ 4 ∷ 3 ∷ [])

abbrev pub surname : List ℕ
surname = content_of (2 ∷ 5 ∷ 4 ∷ 4 ∷ [])

abbrev pub serial_number : List ℕ
serial_number = content_of (2 ∷ 5 ∷ 4 ∷ 5 ∷ [])

abbrev pub country_name : List ℕ
country_name = content_of (2 ∷ 5 ∷ 4 ∷ 6 ∷ [])

abbrev pub locality_name : List ℕ
locality_name = content_of (2 ∷ 5 ∷ 4 ∷ 7 ∷ [])

abbrev pub state_or_province_name : List ℕ
state_or_province_name = content_of (2 ∷ 5 ∷ 4 ∷ 8 ∷ [])

abbrev pub street_address : List ℕ
street_address = content_of (2 ∷ 5 ∷ 4 ∷ 9 ∷ [])

abbrev pub organization_name : List ℕ
organization_name = content_of (2 ∷ 5 ∷ 4 ∷ 10 ∷ [])

abbrev pub organizational_unit_name : List ℕ
organizational_unit_name = content_of (2 ∷ 5 ∷ 4 ∷ 11 ∷ [])

abbrev pub title : List ℕ
title = content_of (2 ∷ 5 ∷ 4 ∷ 12 ∷ [])

abbrev pub description : List ℕ
description = content_of (2 ∷ 5 ∷ 4 ∷ 13 ∷ [])

abbrev pub postal_code : List ℕ
postal_code = content_of (2 ∷ 5 ∷ 4 ∷ 17 ∷ [])

abbrev pub name : List ℕ
name = content_of (2 ∷ 5 ∷ 4 ∷ 41 ∷ [])

abbrev pub given_name : List ℕ
given_name = content_of (2 ∷ 5 ∷ 4 ∷ 42 ∷ [])

abbrev pub initials : List ℕ
initials = content_of (2 ∷ 5 ∷ 4 ∷ 43 ∷ [])

abbrev pub generation_qualifier : List ℕ
generation_qualifier = content_of (2 ∷ 5 ∷ 4 ∷ 44 ∷ [])

abbrev pub dn_qualifier : List ℕ
dn_qualifier = content_of (2 ∷ 5 ∷ 4 ∷ 46 ∷ [])

abbrev pub pseudonym : List ℕ
pseudonym = content_of (2 ∷ 5 ∷ 4 ∷ 65 ∷ [])

abbrev pub user_id : List ℕ
user_id = content_of (0 ∷ 9 ∷ 2342 ∷ 19200300 ∷ 100 ∷ 1 ∷ 1 ∷ [])

abbrev pub domain_component : List ℕ
domain_component = content_of (0 ∷ 9 ∷ 2342 ∷ 19200300 ∷ 100 ∷ 1 ∷ 25 ∷ [])

abbrev pub email_address : List ℕ
email_address = content_of (1 ∷ 2 ∷ 840 ∷ 113549 ∷ 1 ∷ 9 ∷ 1 ∷ [])
