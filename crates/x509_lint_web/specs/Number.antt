-- The numbers of keys: factors of a modulus that are close together (TLS BR 6.1.1.3), and points that aren't on their curve (TLS BR 6.1.6).
use Rattle.std.specs.Prelude.{◌≡◌, ◌*◌, ◌≤◌, ℕ, List, [], ◌∷◌, bytes_eq, drop, length, take, Option, Some, None, IsSomeAnd, if◌then◌else◌}
use Rattle.x509_base.specs.declared.subject_public_key_info.SubjectPublicKeyInfo.{SubjectPublicKeyInfo}
use Rattle.x509_der.specs.declared.any.Any.{Any}
use Rattle.x509_lint_web.specs.Algorithm.{is_oid_tag, p256, p384, p521}
use Rattle.x509_numbers.specs.Curves.{IsOnCurve}
use Rattle.x509_numbers.specs.Factors.{HasCloseFactors}
use Rattle.x509_numbers.specs.Octets.{number_of}
use Rattle.x509_numbers.specs.declared.curves.NistCurve.{NistCurve}
use Rattle.x509_numbers.specs.declared.curves.NistCurve.TheVariants.{P256, P384, P521}
use Rattle.x509_prim.specs.Integer.{without_zeros}

-- ---- factors

-- 2,048 octets at most; factors of a longer modulus aren't sought
abbrev pub AreClose : List ℕ → Type 0
AreClose octets = (length octets ≤ 2048) × HasCloseFactors (number_of octets)

-- an RSAPublicKey whose modulus, by its octets without leading zeros, Fermat's factorization factors
abbrev pub HasCloseModulus : List (List ℕ) → Type 0
HasCloseModulus (modulus ∷ exponent ∷ []) = AreClose (without_zeros modulus)
HasCloseModulus other = ⊥

-- ---- points

-- octets of a coordinate, as many as the prime of the field has (SEC 1 2.3.5)
abbrev pub coordinate_len : NistCurve → ℕ
coordinate_len P256 = 32
coordinate_len P384 = 48
coordinate_len P521 = 66

-- x and y, each of so many octets, aren't on the curve
abbrev pub AreOff : NistCurve → ℕ → List ℕ → Type 0
AreOff curve len octets = IsOnCurve curve (number_of (take len octets)) (number_of (drop len octets)) → ⊥

-- an uncompressed point, 4 in front of x and y (SEC 1 2.3.3), that isn't on the curve; a compressed one, 2 or 3 in front of x, isn't asked
abbrev pub IsPointOff : NistCurve → List ℕ → Type 0
IsPointOff curve [] = ⊥
IsPointOff curve (form ∷ octets) = (form ≡ 4) × (length octets ≡ 2 * coordinate_len curve) × AreOff curve (coordinate_len curve) octets

-- the curve of an OID (RFC 5480 2.1.1.1)
abbrev pub curve_of_oid : List ℕ → Option NistCurve
curve_of_oid oid =
    if bytes_eq oid p256 then Some P256 else (if bytes_eq oid p384 then Some P384 else (if bytes_eq oid p521 then Some P521 else None))

-- the curve that parameters name
abbrev pub curve_of : Option Any → Option NistCurve
curve_of None = None
curve_of (Some a) = if is_oid_tag a.tag then curve_of_oid a.value else None

-- the parameters name P-256, P-384 or P-521, and the octets of the key are such a point
abbrev pub HasPointOff : SubjectPublicKeyInfo → Type 0
HasPointOff key = IsSomeAnd (curve_of key.algorithm.parameters) (λ curve. IsPointOff curve key.subject_public_key.octets)
