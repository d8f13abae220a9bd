-- Lines of algorithms and of public keys (RFC 5280 4.1.1.2, 4.1.2.7).
use Rattle.std.specs.Prelude.{ℕ, ◌+◌, ◌*◌, List, [], ◌∷◌, ◌++◌, Option, Some, None, length, codes, bytes_eq, nat_lt, if◌then◌else◌}
use Rattle.std.specs.Fmt.{decimal}
use Rattle.x509_base.specs.declared.algorithm_identifier.AlgorithmIdentifier.{AlgorithmIdentifier}
use Rattle.x509_base.specs.declared.subject_public_key_info.SubjectPublicKeyInfo.{SubjectPublicKeyInfo}
use Rattle.x509_der.specs.ObjectIdentifierForm.{object_identifier}
use Rattle.x509_der.specs.declared.tag.Tag.TheVariants.{Sequence}
use Rattle.x509_der.specs.List.{list_of}
use Rattle.x509_der.specs.declared.any.Any.{Any}
use Rattle.x509_der.specs.Form.{Form, universal}
use Rattle.x509_prim.specs.Integer.{unsigned_integer, without_zeros}
use Rattle.x509_text.specs.declared.line.Place.{Place}
use Rattle.x509_text.specs.Lines.{line, below}
use Rattle.x509_text.specs.Names.{oid_text}
use Rattle.x509_text.specs.Payloads.{optional, value_in, value_of}
use Rattle.x509_text.specs.Values.{any_line, bits_lines, oid_line}

abbrev pub parameters_line : Place → Option Any → List ℕ
parameters_line at parameters = optional (any_line at (codes "parameters")) parameters

unfoldable pub algorithm_lines : Place → List ℕ → AlgorithmIdentifier → List ℕ
algorithm_lines at label algorithm = oid_line at label algorithm.oid ++ parameters_line (below at) algorithm.parameters

-- ---- how many bits a key has

-- how many bits an octet has from its highest bit that is set
abbrev pub bits_of_octet : ℕ → ℕ
bits_of_octet octet =
    if nat_lt octet 1 then 0
    else if nat_lt octet 2 then 1
    else if nat_lt octet 4 then 2
    else if nat_lt octet 8 then 3
    else if nat_lt octet 16 then 4
    else if nat_lt octet 32 then 5
    else if nat_lt octet 64 then 6
    else if nat_lt octet 128 then 7
    else 8

-- how many bits a number has, by its octets without leading zeros; the number 0 has none
abbrev pub bit_count : List ℕ → ℕ
bit_count [] = 0
bit_count (first ∷ rest) = bits_of_octet first + 8 * length rest

-- SEQUENCE OF INTEGER, each from 0 on
abbrev pub numbers : Form (List (List ℕ))
numbers = universal Sequence (list_of unsigned_integer)

-- RSAPublicKey is the modulus and the exponent (RFC 8017 A.1.1)
abbrev pub first_bits : List (List ℕ) → Option ℕ
first_bits (modulus ∷ exponent ∷ []) = Some (bit_count (without_zeros modulus))
first_bits other = None

abbrev pub bits_of_modulus : Option (List (List ℕ)) → Option ℕ
bits_of_modulus (Some ns) = first_bits ns
bits_of_modulus None = None

unfoldable pub modulus_bits : List ℕ → Option ℕ
modulus_bits octets = bits_of_modulus (value_of numbers octets)

-- Dss-Parms are the prime, its divisor and the base (RFC 3279 2.3.2)
abbrev pub bits_of_prime : Option (List (List ℕ)) → Option ℕ
bits_of_prime (Some (prime ∷ divisor ∷ base ∷ [])) = Some (bit_count (without_zeros prime))
bits_of_prime other = None

unfoldable pub prime_bits : Option Any → Option ℕ
prime_bits (Some parameters) = bits_of_prime (value_in numbers parameters)
prime_bits None = None

-- the size of the field of a curve
abbrev pub curve_bits : List ℕ → Option ℕ
curve_bits name =
    if bytes_eq name (codes "secp192r1") then Some 192
    else if bytes_eq name (codes "secp224r1") then Some 224
    else if bytes_eq name (codes "secp256r1") then Some 256
    else if bytes_eq name (codes "secp256k1") then Some 256
    else if bytes_eq name (codes "brainpoolP256r1") then Some 256
    else if bytes_eq name (codes "secp384r1") then Some 384
    else if bytes_eq name (codes "brainpoolP384r1") then Some 384
    else if bytes_eq name (codes "brainpoolP512r1") then Some 512
    else if bytes_eq name (codes "secp521r1") then Some 521
    else None

abbrev pub named_curve_bits : Option (List ℕ) → Option ℕ
named_curve_bits (Some oid) = curve_bits (oid_text oid)
named_curve_bits None = None

-- the parameters of a key of an elliptic curve name the curve (RFC 5480 2.1.1)
unfoldable pub parameters_bits : Option Any → Option ℕ
parameters_bits (Some parameters) = named_curve_bits (value_in object_identifier parameters)
parameters_bits None = None

-- those of the modulus, of the prime, of the field, or of a key whose length the algorithm fixes (RFC 7748, RFC 8032), by the name of the algorithm
unfoldable pub key_bits : List ℕ → SubjectPublicKeyInfo → Option ℕ
key_bits name key =
    if bytes_eq name (codes "rsaEncryption") then modulus_bits key.subject_public_key.octets
    else if bytes_eq name (codes "id-RSASSA-PSS") then modulus_bits key.subject_public_key.octets
    else if bytes_eq name (codes "id-dsa") then prime_bits key.algorithm.parameters
    else if bytes_eq name (codes "id-ecPublicKey") then parameters_bits key.algorithm.parameters
    else if bytes_eq name (codes "id-X25519") then Some 256
    else if bytes_eq name (codes "id-Ed25519") then Some 256
    else if bytes_eq name (codes "id-X448") then Some 448
    else if bytes_eq name (codes "id-Ed448") then Some 456
    else None

-- ---- keys

abbrev pub size_text : ℕ → List ℕ
size_text bits = decimal bits ++ codes " bits"

unfoldable pub size_line : Place → Option ℕ → List ℕ
size_line at bits = optional (λ n. line at (codes "key size") (size_text n)) bits

abbrev pub known_bits : SubjectPublicKeyInfo → Option ℕ
known_bits key = key_bits (oid_text key.algorithm.oid) key

unfoldable pub bits_of_key : Place → SubjectPublicKeyInfo → List ℕ
bits_of_key at key = size_line at (known_bits key) ++ bits_lines at (codes "key") key.subject_public_key

unfoldable pub key_lines : Place → SubjectPublicKeyInfo → List ℕ
key_lines at key = algorithm_lines at (codes "key algorithm") key.algorithm ++ bits_of_key at key
