-- The names of object identifiers that are printed, each by its arcs, with the standard that gives both.
use Rattle.std.specs.Prelude.{ℕ, List, [], ◌∷◌, codes}
use Rattle.x509_base.specs.KeyAlgorithms.{ec_public_key, rsa_encryption}
use Rattle.x509_cert.specs.Identifiers.{pkcs_9}
use Rattle.x509_der.specs.Arcs.{content_of}
use Rattle.x509_ext.specs.Identifiers.{id_ce, id_pkix}
use Rattle.x509_sct.specs.Identifier.{embedded_timestamps, precertificate_poison}

-- a name, and the content octets of the identifier that has it
pub record Row : Type 0 where
  pub name : List ℕ
  pub octets : List ℕ

abbrev pub row : List ℕ → List ℕ → Row
row name octets = record { name = name; octets = octets }

-- 1.2.840.113549.1.1.n (pkcs-1; RFC 8017, appendix C)
abbrev pub pkcs_1 : ℕ → List ℕ
pkcs_1 n = content_of (1 ∷ 2 ∷ 840 ∷ 113549 ∷ 1 ∷ 1 ∷ n ∷ [])

-- 1.2.840.10040.4.n (RFC 3279 2.2.2, 2.3.2)
abbrev pub x9_57_algorithm : ℕ → List ℕ
x9_57_algorithm n = content_of (1 ∷ 2 ∷ 840 ∷ 10040 ∷ 4 ∷ n ∷ [])

-- 2.16.840.1.101.3.4.3.n (RFC 5758 3.1, RFC 9881 2)
abbrev pub nist_signature : ℕ → List ℕ
nist_signature n = content_of (2 ∷ 16 ∷ 840 ∷ 1 ∷ 101 ∷ 3 ∷ 4 ∷ 3 ∷ n ∷ [])

-- 1.2.840.10045.4.3.n (RFC 5758 3.2)
abbrev pub ecdsa_with_sha2 : ℕ → List ℕ
ecdsa_with_sha2 n = content_of (1 ∷ 2 ∷ 840 ∷ 10045 ∷ 4 ∷ 3 ∷ n ∷ [])

-- 1.3.101.n (RFC 8410 3)
abbrev pub edwards_curve : ℕ → List ℕ
edwards_curve n = content_of (1 ∷ 3 ∷ 101 ∷ n ∷ [])

-- 1.2.840.10045.3.1.n (RFC 5480 2.1.1.1)
abbrev pub prime_curve : ℕ → List ℕ
prime_curve n = content_of (1 ∷ 2 ∷ 840 ∷ 10045 ∷ 3 ∷ 1 ∷ n ∷ [])

-- 1.3.132.0.n (RFC 5480 2.1.1.1; SEC 2, appendix A)
abbrev pub certicom_curve : ℕ → List ℕ
certicom_curve n = content_of (1 ∷ 3 ∷ 132 ∷ 0 ∷ n ∷ [])

-- 1.3.36.3.3.2.8.1.1.n (RFC 5639 4.1)
abbrev pub brainpool_curve : ℕ → List ℕ
brainpool_curve n = content_of (1 ∷ 3 ∷ 36 ∷ 3 ∷ 3 ∷ 2 ∷ 8 ∷ 1 ∷ 1 ∷ n ∷ [])

unfoldable pub oid_names : List Row
oid_names =
    -- RSA (RFC 8017, appendix C)
    row (codes "rsaEncryption") rsa_encryption
    ∷ row (codes "md2WithRSAEncryption") (pkcs_1 2)
    ∷ row (codes "md5WithRSAEncryption") (pkcs_1 4)
    ∷ row (codes "sha1WithRSAEncryption") (pkcs_1 5)
    ∷ row (codes "id-RSAES-OAEP") (pkcs_1 7)
    ∷ row (codes "id-RSASSA-PSS") (pkcs_1 10)
    ∷ row (codes "sha256WithRSAEncryption") (pkcs_1 11)
    ∷ row (codes "sha384WithRSAEncryption") (pkcs_1 12)
    ∷ row (codes "sha512WithRSAEncryption") (pkcs_1 13)
    ∷ row (codes "sha224WithRSAEncryption") (pkcs_1 14)
    -- DSA (RFC 3279 2.3.2, 2.2.2; RFC 5758 3.1)
    ∷ row (codes "id-dsa") (x9_57_algorithm 1)
    ∷ row (codes "id-dsa-with-sha1") (x9_57_algorithm 3)
    ∷ row (codes "id-dsa-with-sha224") (nist_signature 1)
    ∷ row (codes "id-dsa-with-sha256") (nist_signature 2)
    -- elliptic curves (RFC 5480 2.1.1; RFC 3279 2.2.3; RFC 5758 3.2)
    ∷ row (codes "id-ecPublicKey") ec_public_key
    ∷ row (codes "ecdsa-with-SHA1") (content_of (1 ∷ 2 ∷ 840 ∷ 10045 ∷ 4 ∷ 1 ∷ []))
    ∷ row (codes "ecdsa-with-SHA224") (ecdsa_with_sha2 1)
    ∷ row (codes "ecdsa-with-SHA256") (ecdsa_with_sha2 2)
    ∷ row (codes "ecdsa-with-SHA384") (ecdsa_with_sha2 3)
    ∷ row (codes "ecdsa-with-SHA512") (ecdsa_with_sha2 4)
    -- RFC 8410 3
    ∷ row (codes "id-X25519") (edwards_curve 110)
    ∷ row (codes "id-X448") (edwards_curve 111)
    ∷ row (codes "id-Ed25519") (edwards_curve 112)
    ∷ row (codes "id-Ed448") (edwards_curve 113)
    -- ML-DSA (FIPS 204; RFC 9881 2)
    ∷ row (codes "id-ml-dsa-44") (nist_signature 17)
    ∷ row (codes "id-ml-dsa-65") (nist_signature 18)
    ∷ row (codes "id-ml-dsa-87") (nist_signature 19)
    -- curves (RFC 5480 2.1.1.1)
    ∷ row (codes "secp192r1") (prime_curve 1)
    ∷ row (codes "secp256r1") (prime_curve 7)
    ∷ row (codes "secp224r1") (certicom_curve 33)
    ∷ row (codes "secp384r1") (certicom_curve 34)
    ∷ row (codes "secp521r1") (certicom_curve 35)
    -- SEC 2, appendix A; RFC 5639 4.1
    ∷ row (codes "secp256k1") (certicom_curve 10)
    ∷ row (codes "brainpoolP256r1") (brainpool_curve 7)
    ∷ row (codes "brainpoolP384r1") (brainpool_curve 11)
    ∷ row (codes "brainpoolP512r1") (brainpool_curve 13)
    -- extensions (RFC 5280 4.2.1, 5.2, 5.3)
    ∷ row (codes "subjectDirectoryAttributes") (id_ce 9)
    ∷ row (codes "subjectKeyIdentifier") (id_ce 14)
    ∷ row (codes "keyUsage") (id_ce 15)
    ∷ row (codes "privateKeyUsagePeriod") (id_ce 16)
    ∷ row (codes "subjectAltName") (id_ce 17)
    ∷ row (codes "issuerAltName") (id_ce 18)
    ∷ row (codes "basicConstraints") (id_ce 19)
    ∷ row (codes "cRLNumber") (id_ce 20)
    ∷ row (codes "reasonCode") (id_ce 21)
    ∷ row (codes "invalidityDate") (id_ce 24)
    ∷ row (codes "deltaCRLIndicator") (id_ce 27)
    ∷ row (codes "issuingDistributionPoint") (id_ce 28)
    ∷ row (codes "certificateIssuer") (id_ce 29)
    ∷ row (codes "nameConstraints") (id_ce 30)
    ∷ row (codes "cRLDistributionPoints") (id_ce 31)
    ∷ row (codes "certificatePolicies") (id_ce 32)
    ∷ row (codes "policyMappings") (id_ce 33)
    ∷ row (codes "authorityKeyIdentifier") (id_ce 35)
    ∷ row (codes "policyConstraints") (id_ce 36)
    ∷ row (codes "extKeyUsage") (id_ce 37)
    ∷ row (codes "freshestCRL") (id_ce 46)
    ∷ row (codes "inhibitAnyPolicy") (id_ce 54)
    -- RFC 5280 4.2.2.1; RFC 3739 3.2.6; RFC 5280 4.2.2.2; RFC 7633 4; RFC 6960 4.2.2.2.1
    ∷ row (codes "authorityInfoAccess") (id_pkix 1 1)
    ∷ row (codes "qcStatements") (id_pkix 1 3)
    ∷ row (codes "subjectInfoAccess") (id_pkix 1 11)
    ∷ row (codes "tlsFeature") (id_pkix 1 24)
    ∷ row (codes "ocspNoCheck") (content_of (1 ∷ 3 ∷ 6 ∷ 1 ∷ 5 ∷ 5 ∷ 7 ∷ 48 ∷ 1 ∷ 5 ∷ []))
    -- certificate transparency (RFC 6962 3.3, 3.1)
    ∷ row (codes "signedCertificateTimestamps") embedded_timestamps
    ∷ row (codes "precertificatePoison") precertificate_poison
    -- purposes (RFC 5280 4.2.1.12)
    ∷ row (codes "anyExtendedKeyUsage") (content_of (2 ∷ 5 ∷ 29 ∷ 37 ∷ 0 ∷ []))
    ∷ row (codes "serverAuth") (id_pkix 3 1)
    ∷ row (codes "clientAuth") (id_pkix 3 2)
    ∷ row (codes "codeSigning") (id_pkix 3 3)
    ∷ row (codes "emailProtection") (id_pkix 3 4)
    ∷ row (codes "timeStamping") (id_pkix 3 8)
    ∷ row (codes "OCSPSigning") (id_pkix 3 9)
    -- policies and their qualifiers (RFC 5280 4.2.1.4)
    ∷ row (codes "anyPolicy") (content_of (2 ∷ 5 ∷ 29 ∷ 32 ∷ 0 ∷ []))
    ∷ row (codes "cps") (id_pkix 2 1)
    ∷ row (codes "unotice") (id_pkix 2 2)
    -- access methods (RFC 5280 4.2.2)
    ∷ row (codes "ocsp") (id_pkix 48 1)
    ∷ row (codes "caIssuers") (id_pkix 48 2)
    ∷ row (codes "caRepository") (id_pkix 48 5)
    -- attributes of CSRs (RFC 2985 5.4.1, 5.4.2)
    ∷ row (codes "challengePassword") (pkcs_9 7)
    ∷ row (codes "extensionRequest") (pkcs_9 14)
    -- kinds of other names (RFC 4108 5; RFC 4985 2; RFC 9598 3)
    ∷ row (codes "hardwareModuleName") (id_pkix 8 4)
    ∷ row (codes "dnsSRV") (id_pkix 8 7)
    ∷ row (codes "SmtpUTF8Mailbox") (id_pkix 8 9)
    ∷ []
