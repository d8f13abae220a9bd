-- Identifier octets of elements.
use Rattle.std.proofs.Common.{◌≡◌, true, refl}
use Rattle.x509_der.specs.Element.{is_identifier, is_universal}

pub is_bits : is_identifier 3 ≡ true
unfolding is_identifier is_universal
is_bits = refl
