-- Identifier octets of elements.
use Rattle.std.proofs.Common.{◌≡◌, true, refl}
use Rattle.x509_der.specs.Element.{is_identifier, is_universal}

pub is_octets : is_identifier 4 ≡ true
unfolding is_identifier is_universal
is_octets = refl

pub is_oid : is_identifier 6 ≡ true
unfolding is_identifier is_universal
is_oid = refl

pub is_sequence : is_identifier 48 ≡ true
unfolding is_identifier is_universal
is_sequence = refl

pub is_explicit_0 : is_identifier 160 ≡ true
unfolding is_identifier is_universal
is_explicit_0 = refl

pub is_implicit_0 : is_identifier 128 ≡ true
unfolding is_identifier is_universal
is_implicit_0 = refl

pub is_implicit_1 : is_identifier 129 ≡ true
unfolding is_identifier is_universal
is_implicit_1 = refl

pub is_implicit_2 : is_identifier 130 ≡ true
unfolding is_identifier is_universal
is_implicit_2 = refl

pub is_list_1 : is_identifier 161 ≡ true
unfolding is_identifier is_universal
is_list_1 = refl

pub is_list_2 : is_identifier 162 ≡ true
unfolding is_identifier is_universal
is_list_2 = refl
