-- Kinds of public keys and of signature algorithms: what their object identifiers name.
use Rattle.std.specs.Prelude.{ℕ, List, [], ◌∷◌, Option, Some, None, bytes_eq, nat_eq, if◌then◌else◌}
use Rattle.x509_base.specs.KeyAlgorithms.{ec_public_key}
use Rattle.x509_base.specs.declared.algorithm_identifier.AlgorithmIdentifier.{AlgorithmIdentifier}
use Rattle.x509_c_calls.specs.declared.key.kinds.KeyKind.{KeyKind}
use Rattle.x509_c_calls.specs.declared.key.kinds.KeyKind.TheVariants as keys
use Rattle.x509_c_calls.specs.declared.key.kinds.SignatureKind.{SignatureKind}
use Rattle.x509_c_calls.specs.declared.key.kinds.SignatureKind.TheVariants as signatures
use Rattle.x509_der.specs.Arcs.{content_of}
use Rattle.x509_der.specs.Tag.{octet_of}
use Rattle.x509_der.specs.declared.any.Any.{Any}

-- what the first row with these content octets names; else the other
abbrev pub named_in : {K : Type 0} → K → List (List ℕ × K) → List ℕ → K
named_in other [] octets = other
named_in other (row ∷ rows) octets = if bytes_eq row.0 octets then row.1 else named_in other rows octets

-- ---- keys

-- rsaEncryption (RFC 3279 2.3.1), id-RSASSA-PSS (RFC 4055 1.2), id-dsa (RFC 3279 2.3.2); id-Ed25519, id-Ed448, id-X25519, id-X448 (RFC 8410 3)
unfoldable pub key_algorithms : List (List ℕ × KeyKind)
key_algorithms =
    (content_of (1 ∷ 2 ∷ 840 ∷ 113549 ∷ 1 ∷ 1 ∷ 1 ∷ []), keys.Rsa)
    ∷ (content_of (1 ∷ 2 ∷ 840 ∷ 113549 ∷ 1 ∷ 1 ∷ 10 ∷ []), keys.RsaPss)
    ∷ (content_of (1 ∷ 2 ∷ 840 ∷ 10040 ∷ 4 ∷ 1 ∷ []), keys.Dsa)
    ∷ (content_of (1 ∷ 3 ∷ 101 ∷ 112 ∷ []), keys.Ed25519)
    ∷ (content_of (1 ∷ 3 ∷ 101 ∷ 113 ∷ []), keys.Ed448)
    ∷ (content_of (1 ∷ 3 ∷ 101 ∷ 110 ∷ []), keys.X25519)
    ∷ (content_of (1 ∷ 3 ∷ 101 ∷ 111 ∷ []), keys.X448)
    ∷ []

-- secp256r1, secp384r1, secp521r1 (RFC 5480 2.1.1.1)
unfoldable pub curves : List (List ℕ × KeyKind)
curves =
    (content_of (1 ∷ 2 ∷ 840 ∷ 10045 ∷ 3 ∷ 1 ∷ 7 ∷ []), keys.EcP256)
    ∷ (content_of (1 ∷ 3 ∷ 132 ∷ 0 ∷ 34 ∷ []), keys.EcP384)
    ∷ (content_of (1 ∷ 3 ∷ 132 ∷ 0 ∷ 35 ∷ []), keys.EcP521)
    ∷ []

-- the curve is told by parameters that are an OBJECT IDENTIFIER (RFC 5480 2.1.1), whose identifier octet is 6 (X.690 8.1.2)
unfoldable pub curve_kind : Option Any → KeyKind
curve_kind None = keys.EcOther
curve_kind (Some parameters) = if nat_eq (octet_of parameters.tag) 6 then named_in keys.EcOther curves parameters.value else keys.EcOther

-- the content octets of that OBJECT IDENTIFIER
abbrev pub curve_oid : Option Any → Option (List ℕ)
curve_oid None = None
curve_oid (Some parameters) = if nat_eq (octet_of parameters.tag) 6 then Some parameters.value else None

-- the content octets of the OID of the curve of an algorithm's keys, where they are of an elliptic curve and it is named
unfoldable pub named_curve : AlgorithmIdentifier → Option (List ℕ)
named_curve algorithm = if bytes_eq algorithm.oid ec_public_key then curve_oid algorithm.parameters else None

-- the kind of the keys of an algorithm
unfoldable pub key_kind : AlgorithmIdentifier → KeyKind
key_kind algorithm = if bytes_eq algorithm.oid ec_public_key then curve_kind algorithm.parameters else named_in keys.Other key_algorithms algorithm.oid

abbrev pub key_number : KeyKind → ℕ
key_number keys.Other = 0
key_number keys.Rsa = 1
key_number keys.RsaPss = 2
key_number keys.Dsa = 3
key_number keys.EcP256 = 4
key_number keys.EcP384 = 5
key_number keys.EcP521 = 6
key_number keys.EcOther = 7
key_number keys.Ed25519 = 8
key_number keys.Ed448 = 9
key_number keys.X25519 = 10
key_number keys.X448 = 11

-- ---- signature algorithms

-- sha1WithRSAEncryption (RFC 3279 2.2.1); sha224, sha256, sha384 and sha512WithRSAEncryption (RFC 4055 5), id-RSASSA-PSS (RFC 4055 3.1);
-- id-dsa-with-sha1 (RFC 3279 2.2.2), id-dsa-with-sha224 and sha256 (RFC 5758 3.1); ecdsa-with-SHA1 (RFC 3279 2.2.3), ecdsa-with-SHA224, SHA256,
-- SHA384 and SHA512 (RFC 5758 3.2); id-Ed25519, id-Ed448 (RFC 8410 3)
unfoldable pub signature_algorithms : List (List ℕ × SignatureKind)
signature_algorithms =
    (content_of (1 ∷ 2 ∷ 840 ∷ 113549 ∷ 1 ∷ 1 ∷ 5 ∷ []), signatures.RsaSha1)
    ∷ (content_of (1 ∷ 2 ∷ 840 ∷ 113549 ∷ 1 ∷ 1 ∷ 14 ∷ []), signatures.RsaSha224)
    ∷ (content_of (1 ∷ 2 ∷ 840 ∷ 113549 ∷ 1 ∷ 1 ∷ 11 ∷ []), signatures.RsaSha256)
    ∷ (content_of (1 ∷ 2 ∷ 840 ∷ 113549 ∷ 1 ∷ 1 ∷ 12 ∷ []), signatures.RsaSha384)
    ∷ (content_of (1 ∷ 2 ∷ 840 ∷ 113549 ∷ 1 ∷ 1 ∷ 13 ∷ []), signatures.RsaSha512)
    ∷ (content_of (1 ∷ 2 ∷ 840 ∷ 113549 ∷ 1 ∷ 1 ∷ 10 ∷ []), signatures.RsaPss)
    ∷ (content_of (1 ∷ 2 ∷ 840 ∷ 10040 ∷ 4 ∷ 3 ∷ []), signatures.DsaSha1)
    ∷ (content_of (2 ∷ 16 ∷ 840 ∷ 1 ∷ 101 ∷ 3 ∷ 4 ∷ 3 ∷ 1 ∷ []), signatures.DsaSha224)
    ∷ (content_of (2 ∷ 16 ∷ 840 ∷ 1 ∷ 101 ∷ 3 ∷ 4 ∷ 3 ∷ 2 ∷ []), signatures.DsaSha256)
    ∷ (content_of (1 ∷ 2 ∷ 840 ∷ 10045 ∷ 4 ∷ 1 ∷ []), signatures.EcdsaSha1)
    ∷ (content_of (1 ∷ 2 ∷ 840 ∷ 10045 ∷ 4 ∷ 3 ∷ 1 ∷ []), signatures.EcdsaSha224)
    ∷ (content_of (1 ∷ 2 ∷ 840 ∷ 10045 ∷ 4 ∷ 3 ∷ 2 ∷ []), signatures.EcdsaSha256)
    ∷ (content_of (1 ∷ 2 ∷ 840 ∷ 10045 ∷ 4 ∷ 3 ∷ 3 ∷ []), signatures.EcdsaSha384)
    ∷ (content_of (1 ∷ 2 ∷ 840 ∷ 10045 ∷ 4 ∷ 3 ∷ 4 ∷ []), signatures.EcdsaSha512)
    ∷ (content_of (1 ∷ 3 ∷ 101 ∷ 112 ∷ []), signatures.Ed25519)
    ∷ (content_of (1 ∷ 3 ∷ 101 ∷ 113 ∷ []), signatures.Ed448)
    ∷ []

-- the kind of a signature algorithm
unfoldable pub signature_kind : AlgorithmIdentifier → SignatureKind
signature_kind algorithm = named_in signatures.Other signature_algorithms algorithm.oid

abbrev pub signature_number : SignatureKind → ℕ
signature_number signatures.Other = 0
signature_number signatures.RsaSha1 = 1
signature_number signatures.RsaSha224 = 2
signature_number signatures.RsaSha256 = 3
signature_number signatures.RsaSha384 = 4
signature_number signatures.RsaSha512 = 5
signature_number signatures.RsaPss = 6
signature_number signatures.DsaSha1 = 7
signature_number signatures.DsaSha224 = 8
signature_number signatures.DsaSha256 = 9
signature_number signatures.EcdsaSha1 = 10
signature_number signatures.EcdsaSha224 = 11
signature_number signatures.EcdsaSha256 = 12
signature_number signatures.EcdsaSha384 = 13
signature_number signatures.EcdsaSha512 = 14
signature_number signatures.Ed25519 = 15
signature_number signatures.Ed448 = 16
