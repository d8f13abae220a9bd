-- Algorithms of signatures and keys (TLS BR 7.1.3), as the content octets of their OIDs, and their parameters.
use Rattle.std.specs.Prelude.{◌&&◌, ◌||◌, ◌++◌, ℕ, Bool, true, false, List, [], ◌∷◌, bytes_eq}
use Rattle.x509_der.specs.declared.any.Any.{Any}
use Rattle.x509_der.specs.declared.tag.Tag.{Tag}
use Rattle.x509_der.specs.declared.tag.Tag.TheVariants.{Null, ObjectIdentifier, Sequence}
use Rattle.x509_base.specs.declared.subject_public_key_info.SubjectPublicKeyInfo.{SubjectPublicKeyInfo}
use Rattle.x509_lint.specs.Words.{is_empty}

-- 1.2.840.113549.1.1.n (RFC 8017 C)
abbrev pub pkcs_1 : ℕ → List ℕ
pkcs_1 n = 0x2A ∷ 0x86 ∷ 0x48 ∷ 0x86 ∷ 0xF7 ∷ 0x0D ∷ 0x01 ∷ 0x01 ∷ n ∷ []

-- 1.2.840.10045.4.3.n (RFC 5758 3.2)
abbrev pub ecdsa_with : ℕ → List ℕ
ecdsa_with n = 0x2A ∷ 0x86 ∷ 0x48 ∷ 0xCE ∷ 0x3D ∷ 0x04 ∷ 0x03 ∷ n ∷ []

-- ecdsa-with-SHA1, 1.2.840.10045.4.1 (RFC 3279 2.2.3)
abbrev pub ecdsa_with_sha1 : List ℕ
ecdsa_with_sha1 = 0x2A ∷ 0x86 ∷ 0x48 ∷ 0xCE ∷ 0x3D ∷ 0x04 ∷ 0x01 ∷ []

-- sha1WithRSAEncryption, or that
abbrev pub is_of_sha1 : List ℕ → Bool
is_of_sha1 oid = bytes_eq oid (pkcs_1 5) || bytes_eq oid ecdsa_with_sha1

-- sha256WithRSAEncryption, sha384WithRSAEncryption, sha512WithRSAEncryption
abbrev pub is_rsa_pkcs1 : List ℕ → Bool
is_rsa_pkcs1 oid = bytes_eq oid (pkcs_1 11) || (bytes_eq oid (pkcs_1 12) || bytes_eq oid (pkcs_1 13))

-- id-RSASSA-PSS, whose parameters say the hash function
abbrev pub is_rsa_pss : List ℕ → Bool
is_rsa_pss oid = bytes_eq oid (pkcs_1 10)

-- ecdsa-with-SHA256, ecdsa-with-SHA384, ecdsa-with-SHA512
abbrev pub is_ecdsa : List ℕ → Bool
is_ecdsa oid = bytes_eq oid (ecdsa_with 2) || (bytes_eq oid (ecdsa_with 3) || bytes_eq oid (ecdsa_with 4))

-- ---- keys (TLS BR 7.1.3.1)

-- id-ecPublicKey, 1.2.840.10045.2.1 (RFC 5480 2.1.1)
abbrev pub ec_public_key : List ℕ
ec_public_key = 0x2A ∷ 0x86 ∷ 0x48 ∷ 0xCE ∷ 0x3D ∷ 0x02 ∷ 0x01 ∷ []

abbrev pub is_rsa : SubjectPublicKeyInfo → Bool
is_rsa key = bytes_eq key.algorithm.oid (pkcs_1 1)

abbrev pub is_ec : SubjectPublicKeyInfo → Bool
is_ec key = bytes_eq key.algorithm.oid ec_public_key

-- ---- parameters

abbrev pub is_null_tag : Tag → Bool
is_null_tag Null = true
is_null_tag other = false

abbrev pub is_null : Any → Bool
is_null a = is_null_tag a.tag && is_empty a.value

-- the AlgorithmIdentifier of a hash function of SHA-2, 2.16.840.1.101.3.4.2.n, with NULL
abbrev pub sha_2 : ℕ → List ℕ
sha_2 n = 0x30 ∷ 0x0D ∷ 0x06 ∷ 0x09 ∷ 0x60 ∷ 0x86 ∷ 0x48 ∷ 0x01 ∷ 0x65 ∷ 0x03 ∷ 0x04 ∷ 0x02 ∷ n ∷ 0x05 ∷ 0x00 ∷ []

-- the content octets of RSASSA-PSS-params (RFC 8017 A.2.3): that hash function, id-mgf1 with it, and a salt of so many octets
abbrev pub pss_parameters : ℕ → ℕ → List ℕ
pss_parameters n salt =
    (0xA0 ∷ 0x0F ∷ []) ++ (sha_2 n ++ ((0xA1 ∷ 0x1C ∷ 0x30 ∷ 0x1A ∷ 0x06 ∷ 0x09 ∷ pkcs_1 8) ++ (sha_2 n ++ (0xA2 ∷ 0x03 ∷ 0x02 ∷ 0x01 ∷ salt ∷ []))))

-- those of SHA-256, SHA-384 and SHA-512, of which each salt has as many octets as the digest (TLS BR 7.1.3.2.1)
abbrev pub are_pss_octets : List ℕ → Bool
are_pss_octets octets =
    bytes_eq octets (pss_parameters 1 32) || (bytes_eq octets (pss_parameters 2 48) || bytes_eq octets (pss_parameters 3 64))

abbrev pub is_sequence_tag : Tag → Bool
is_sequence_tag Sequence = true
is_sequence_tag other = false

abbrev pub are_pss : Any → Bool
are_pss a = is_sequence_tag a.tag && are_pss_octets a.value

abbrev pub is_oid_tag : Tag → Bool
is_oid_tag ObjectIdentifier = true
is_oid_tag other = false

-- secp256r1, 1.2.840.10045.3.1.7; secp384r1, 1.3.132.0.34; secp521r1, 1.3.132.0.35 (RFC 5480 2.1.1.1)
abbrev pub p256 : List ℕ
p256 = 0x2A ∷ 0x86 ∷ 0x48 ∷ 0xCE ∷ 0x3D ∷ 0x03 ∷ 0x01 ∷ 0x07 ∷ []

abbrev pub p384 : List ℕ
p384 = 0x2B ∷ 0x81 ∷ 0x04 ∷ 0x00 ∷ 34 ∷ []

abbrev pub p521 : List ℕ
p521 = 0x2B ∷ 0x81 ∷ 0x04 ∷ 0x00 ∷ 35 ∷ []

abbrev pub is_curve : List ℕ → Bool
is_curve octets = bytes_eq octets p256 || (bytes_eq octets p384 || bytes_eq octets p521)

-- the OID of one of these
abbrev pub names_curve : Any → Bool
names_curve a = is_oid_tag a.tag && is_curve a.value
