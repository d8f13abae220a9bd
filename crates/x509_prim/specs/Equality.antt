-- Equality of bit strings is exact.
use Rattle.std.specs.Prelude.{refl}
use Rattle.x509_der.specs.Exact.{IsExact, exact_number, exact_octets, exact_both, exact_by}
use Rattle.x509_prim.specs.BitString.{BitParts}
use Rattle.x509_prim.specs.contracts.bit_string.BitStringPartialEq.TheImpl as bit_string_eq

pub exact_bit_string : IsExact bit_string_eq.ghosts.eq
exact_bit_string = exact_by (λ (parts : BitParts). (parts.unused, parts.octets)) (λ (unused, octets). record { unused = unused; octets = octets }) (λ parts. refl) (exact_both exact_number exact_octets)
