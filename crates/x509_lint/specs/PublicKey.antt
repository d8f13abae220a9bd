-- The rules on public keys and on algorithms of signatures (RFC 3279, 4055, 5480, 5758, 8017, 8410, 8813, 9295): what breaks each, their order, and how each is told.
use Rattle.std.specs.Prelude.{◌&&◌, ◌||◌, ◌==◌, ◌-◌, ◌%◌, ℕ, Bool, true, false, not, length, List, [], ◌∷◌, bytes_eq, codes, Option, is_some}
use Rattle.std.specs.List.{slice_get}
use Rattle.x509_base.specs.declared.subject_public_key_info.SubjectPublicKeyInfo.{SubjectPublicKeyInfo}
use Rattle.x509_der.specs.Form.{Form, universal}
use Rattle.x509_der.specs.List.{list_of}
use Rattle.x509_der.specs.declared.any.Any.{Any}
use Rattle.x509_der.specs.declared.tag.Tag.{Tag}
use Rattle.x509_der.specs.declared.tag.Tag.TheVariants.{Null, ObjectIdentifier, Sequence}
use Rattle.x509_ext.specs.KeyUsage.{has_bit}
use Rattle.x509_ext.specs.declared.pkix.key_usage.KeyUsage.{KeyUsage}
use Rattle.x509_lint.specs.Words.{Certificate, is_empty, passes}
use Rattle.x509_lint.specs.declared.rule.public_key.PublicKeyRule.{PublicKeyRule}
use Rattle.x509_lint.specs.declared.rule.public_key.PublicKeyRule.TheVariants as rules
use Rattle.x509_lint.specs.declared.values.PublicKeyValues.{PublicKeyValues}
use Rattle.x509_lint.specs.Sentence.{Sentence, must_of}
use Rattle.x509_prim.specs.Integer.{unsigned_integer, without_zeros}

-- ---- algorithms, by the content octets of their OIDs

-- 1.2.840.113549.1.1.n (RFC 8017 C)
abbrev pub pkcs_1 : ℕ → List ℕ
pkcs_1 n = 0x2A ∷ 0x86 ∷ 0x48 ∷ 0x86 ∷ 0xF7 ∷ 0x0D ∷ 0x01 ∷ 0x01 ∷ n ∷ []

-- 1.2.840.10045.4.3.n (RFC 5758 3.2)
abbrev pub ecdsa_with : ℕ → List ℕ
ecdsa_with n = 0x2A ∷ 0x86 ∷ 0x48 ∷ 0xCE ∷ 0x3D ∷ 0x04 ∷ 0x03 ∷ n ∷ []

-- 1.3.101.n (RFC 8410 3)
abbrev pub id_edwards : ℕ → List ℕ
id_edwards n = 0x2B ∷ 0x65 ∷ n ∷ []

-- sha224WithRSAEncryption, sha256WithRSAEncryption, sha384WithRSAEncryption, sha512WithRSAEncryption (RFC 4055 5)
abbrev pub is_sha_2_rsa : List ℕ → Bool
is_sha_2_rsa oid = bytes_eq oid (pkcs_1 14) || (bytes_eq oid (pkcs_1 11) || (bytes_eq oid (pkcs_1 12) || bytes_eq oid (pkcs_1 13)))

-- md2WithRSAEncryption, md5WithRSAEncryption, sha1WithRSAEncryption (RFC 3279 2.2.1)
abbrev pub is_old_rsa : List ℕ → Bool
is_old_rsa oid = bytes_eq oid (pkcs_1 2) || (bytes_eq oid (pkcs_1 4) || bytes_eq oid (pkcs_1 5))

-- id-RSASSA-PSS (RFC 4055 3.1)
abbrev pub is_pss : List ℕ → Bool
is_pss oid = bytes_eq oid (pkcs_1 10)

-- ecdsa-with-SHA224, ecdsa-with-SHA256, ecdsa-with-SHA384, ecdsa-with-SHA512 (RFC 5758 3.2)
abbrev pub is_sha_2_ecdsa : List ℕ → Bool
is_sha_2_ecdsa oid = bytes_eq oid (ecdsa_with 1) || (bytes_eq oid (ecdsa_with 2) || (bytes_eq oid (ecdsa_with 3) || bytes_eq oid (ecdsa_with 4)))

-- rsaEncryption (RFC 3279 2.3.1)
abbrev pub is_rsa : List ℕ → Bool
is_rsa oid = bytes_eq oid (pkcs_1 1)

-- id-ecPublicKey, 1.2.840.10045.2.1 (RFC 5480 2.1.1)
abbrev pub is_ec : List ℕ → Bool
is_ec oid = bytes_eq oid (0x2A ∷ 0x86 ∷ 0x48 ∷ 0xCE ∷ 0x3D ∷ 0x02 ∷ 0x01 ∷ [])

-- id-X25519, id-X448 (RFC 8410 3)
abbrev pub is_montgomery : List ℕ → Bool
is_montgomery oid = bytes_eq oid (id_edwards 110) || bytes_eq oid (id_edwards 111)

-- id-Ed25519, id-Ed448
abbrev pub is_edwards : List ℕ → Bool
is_edwards oid = bytes_eq oid (id_edwards 112) || bytes_eq oid (id_edwards 113)

-- ---- parameters

abbrev pub is_null_tag : Tag → Bool
is_null_tag Null = true
is_null_tag other = false

abbrev pub is_oid_tag : Tag → Bool
is_oid_tag ObjectIdentifier = true
is_oid_tag other = false

-- the parameters are there, and are NULL
abbrev pub are_null : Option Any → Bool
are_null parameters = passes (λ a. is_null_tag a.tag && is_empty a.value) parameters

-- they are there, and are an OID: that of a curve, namedCurve (RFC 5480 2.1.1)
abbrev pub are_named : Option Any → Bool
are_named parameters = passes (λ a. is_oid_tag a.tag) parameters

-- ---- RSAPublicKey (RFC 8017 A.1.1), by the octets of its numbers without leading zeros

-- SEQUENCE OF INTEGER, each from 0 on; an RSAPublicKey is one of two numbers
abbrev pub numbers : Form (List (List ℕ))
numbers = universal Sequence (list_of unsigned_integer)

abbrev pub are_two : List (List ℕ) → Bool
are_two (modulus ∷ exponent ∷ []) = true
are_two other = false

abbrev pub is_even : List ℕ → Bool
is_even octets = passes (λ octet. octet % 2 == 0) (slice_get octets (length octets - 1))

-- the modulus is even
abbrev pub has_even_modulus : List (List ℕ) → Bool
has_even_modulus (modulus ∷ exponent ∷ []) = is_even (without_zeros modulus)
has_even_modulus other = false

-- the exponent is even, or 1
abbrev pub has_no_exponent : List (List ℕ) → Bool
has_no_exponent (modulus ∷ exponent ∷ []) = is_even (without_zeros exponent) || bytes_eq (without_zeros exponent) (1 ∷ [])
has_no_exponent other = false

-- ---- points and keys of curves

-- 4 and both coordinates, or 2 or 3 and one (RFC 5480 2.2)
abbrev pub is_point : ℕ → ℕ → List ℕ → Bool
is_point one both [] = false
is_point one both (first ∷ octets) = ((first == 4) && (length octets == both)) || (((first == 2) || (first == 3)) && (length octets == one))

-- the curve is secp256r1, secp384r1 or secp521r1 (RFC 5480 2.1.1.1), and the octets are no point of its size
abbrev pub is_no_point : List ℕ → List ℕ → Bool
is_no_point curve octets =
    (bytes_eq curve (0x2A ∷ 0x86 ∷ 0x48 ∷ 0xCE ∷ 0x3D ∷ 0x03 ∷ 0x01 ∷ 0x07 ∷ []) && not (is_point 32 64 octets))
    || ((bytes_eq curve (0x2B ∷ 0x81 ∷ 0x04 ∷ 0x00 ∷ 34 ∷ []) && not (is_point 48 96 octets))
    || (bytes_eq curve (0x2B ∷ 0x81 ∷ 0x04 ∷ 0x00 ∷ 35 ∷ []) && not (is_point 66 132 octets)))

abbrev pub has_no_point : Option Any → List ℕ → Bool
has_no_point parameters octets = passes (λ a. is_oid_tag a.tag && is_no_point a.value octets) parameters

-- X25519 and Ed25519 have keys of 32 octets, X448 of 56 (RFC 7748 5), Ed448 of 57 (RFC 8032 5.2.5)
abbrev pub has_other_length : List ℕ → List ℕ → Bool
has_other_length oid octets =
    ((bytes_eq oid (id_edwards 110) || bytes_eq oid (id_edwards 112)) && not (length octets == 32))
    || ((bytes_eq oid (id_edwards 111) && not (length octets == 56)) || (bytes_eq oid (id_edwards 113) && not (length octets == 57)))

-- ---- what a key may be used for

-- keyEncipherment or dataEncipherment
abbrev pub enciphers : KeyUsage → Bool
enciphers usage = has_bit usage 2 || has_bit usage 3

-- one of these, keyAgreement, encipherOnly or decipherOnly
abbrev pub agrees : KeyUsage → Bool
agrees usage = enciphers usage || (has_bit usage 4 || (has_bit usage 7 || has_bit usage 8))

-- ---- the rules, in their order

abbrev pub key_of : Certificate → SubjectPublicKeyInfo
key_of c = c.tbs_certificate.subject_public_key_info

abbrev pub public_key_rules : List PublicKeyRule
public_key_rules =
    rules.RsaSignatureParametersNotNull
    ∷ rules.OldRsaSignatureParametersNotNull
    ∷ rules.PssSignatureParametersAbsent
    ∷ rules.EcdsaSignatureParametersPresent
    ∷ rules.EdwardsSignatureParametersPresent
    ∷ rules.RsaKeyParametersNotNull
    ∷ rules.RsaPublicKeyMalformed
    ∷ rules.RsaModulusEven
    ∷ rules.RsaExponentInvalid
    ∷ rules.EcParametersNotNamed
    ∷ rules.EcPointInvalid
    ∷ rules.EcKeyUsageInvalid
    ∷ rules.EdwardsKeyParametersPresent
    ∷ rules.EdwardsKeyLength
    ∷ rules.EdwardsKeyUsageInvalid
    ∷ rules.MontgomeryKeyWithoutAgreement ∷ []

abbrev pub public_key_sentence : PublicKeyRule → Sentence Certificate PublicKeyValues
public_key_sentence rules.RsaSignatureParametersNotNull =
    must_of (codes "RFC 4055") (codes "rsa_signature_parameters_not_null") (codes "5") (codes "signatureAlgorithm")
    (λ c v. is_sha_2_rsa c.signature_algorithm.oid && not (are_null c.signature_algorithm.parameters))
public_key_sentence rules.OldRsaSignatureParametersNotNull =
    must_of (codes "RFC 3279") (codes "old_rsa_signature_parameters_not_null") (codes "2.2.1") (codes "signatureAlgorithm")
    (λ c v. is_old_rsa c.signature_algorithm.oid && not (are_null c.signature_algorithm.parameters))
public_key_sentence rules.PssSignatureParametersAbsent =
    must_of (codes "RFC 4055") (codes "pss_signature_parameters_absent") (codes "3.1") (codes "signatureAlgorithm")
    (λ c v. is_pss c.signature_algorithm.oid && not (is_some c.signature_algorithm.parameters))
public_key_sentence rules.EcdsaSignatureParametersPresent =
    must_of (codes "RFC 5758") (codes "ecdsa_signature_parameters_present") (codes "3.2") (codes "signatureAlgorithm")
    (λ c v. is_sha_2_ecdsa c.signature_algorithm.oid && is_some c.signature_algorithm.parameters)
public_key_sentence rules.EdwardsSignatureParametersPresent =
    must_of (codes "RFC 8410") (codes "edwards_signature_parameters_present") (codes "3") (codes "signatureAlgorithm")
    (λ c v. is_edwards c.signature_algorithm.oid && is_some c.signature_algorithm.parameters)
public_key_sentence rules.RsaKeyParametersNotNull =
    must_of (codes "RFC 3279") (codes "rsa_key_parameters_not_null") (codes "2.3.1") (codes "tbsCertificate.subjectPublicKeyInfo")
    (λ c v. is_rsa (key_of c).algorithm.oid && not (are_null (key_of c).algorithm.parameters))
public_key_sentence rules.RsaPublicKeyMalformed =
    must_of (codes "RFC 3279") (codes "rsa_public_key_malformed") (codes "2.3.1") (codes "tbsCertificate.subjectPublicKeyInfo")
    (λ c v. is_rsa (key_of c).algorithm.oid && not (passes are_two v.key_numbers))
public_key_sentence rules.RsaModulusEven =
    must_of (codes "RFC 8017") (codes "rsa_modulus_even") (codes "3.1") (codes "tbsCertificate.subjectPublicKeyInfo")
    (λ c v. is_rsa (key_of c).algorithm.oid && passes has_even_modulus v.key_numbers)
public_key_sentence rules.RsaExponentInvalid =
    must_of (codes "RFC 8017") (codes "rsa_exponent_invalid") (codes "3.1") (codes "tbsCertificate.subjectPublicKeyInfo")
    (λ c v. is_rsa (key_of c).algorithm.oid && passes has_no_exponent v.key_numbers)
public_key_sentence rules.EcParametersNotNamed =
    must_of (codes "RFC 5480") (codes "ec_parameters_not_named") (codes "2.1.1") (codes "tbsCertificate.subjectPublicKeyInfo")
    (λ c v. is_ec (key_of c).algorithm.oid && not (are_named (key_of c).algorithm.parameters))
public_key_sentence rules.EcPointInvalid =
    must_of (codes "RFC 5480") (codes "ec_point_invalid") (codes "2.2") (codes "tbsCertificate.subjectPublicKeyInfo")
    (λ c v. is_ec (key_of c).algorithm.oid && has_no_point (key_of c).algorithm.parameters (key_of c).subject_public_key.octets)
public_key_sentence rules.EcKeyUsageInvalid =
    must_of (codes "RFC 8813") (codes "ec_key_usage_invalid") (codes "3") (codes "tbsCertificate.extensions.keyUsage")
    (λ c v. is_ec (key_of c).algorithm.oid && passes enciphers v.key_usage)
public_key_sentence rules.EdwardsKeyParametersPresent =
    must_of (codes "RFC 8410") (codes "edwards_key_parameters_present") (codes "3") (codes "tbsCertificate.subjectPublicKeyInfo")
    (λ c v. (is_edwards (key_of c).algorithm.oid || is_montgomery (key_of c).algorithm.oid) && is_some (key_of c).algorithm.parameters)
public_key_sentence rules.EdwardsKeyLength =
    must_of (codes "RFC 8410") (codes "edwards_key_length") (codes "4") (codes "tbsCertificate.subjectPublicKeyInfo")
    (λ c v. has_other_length (key_of c).algorithm.oid (key_of c).subject_public_key.octets)
public_key_sentence rules.EdwardsKeyUsageInvalid =
    must_of (codes "RFC 9295") (codes "edwards_key_usage_invalid") (codes "3") (codes "tbsCertificate.extensions.keyUsage")
    (λ c v. is_edwards (key_of c).algorithm.oid && passes agrees v.key_usage)
public_key_sentence rules.MontgomeryKeyWithoutAgreement =
    must_of (codes "RFC 8410") (codes "montgomery_key_without_agreement") (codes "5") (codes "tbsCertificate.extensions.keyUsage")
    (λ c v. is_montgomery (key_of c).algorithm.oid && passes (λ usage. not (has_bit usage 4)) v.key_usage)
