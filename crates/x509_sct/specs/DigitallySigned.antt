-- Signatures and their algorithms (RFC 5246 4.7, 7.4.1.4.1).
use Rattle.std.specs.Prelude.{ℕ, List, [], ◌∷◌, refl}
use Rattle.x509_sct.specs.Form.{Form, IsForm, named, ◌⊗◌, struct}
use Rattle.x509_sct.specs.FormLaws.{AreNamed, named_lawful, pair_lawful, struct_lawful}
use Rattle.x509_sct.specs.Numbers.{vector16, vector16_lawful}
use Rattle.x509_sct.specs.declared.signed.HashAlgorithm.{HashAlgorithm}
use Rattle.x509_sct.specs.declared.signed.HashAlgorithm.TheVariants as hashes
use Rattle.x509_sct.specs.declared.signed.SignatureAlgorithm.{SignatureAlgorithm}
use Rattle.x509_sct.specs.declared.signed.SignatureAlgorithm.TheVariants as signatures
use Rattle.x509_sct.specs.declared.signed.SignatureAndHashAlgorithm.{SignatureAndHashAlgorithm}
use Rattle.x509_sct.specs.declared.signed.DigitallySigned.{DigitallySigned}

-- enum { none(0), md5(1), sha1(2), sha224(3), sha256(4), sha384(5), sha512(6), (255) }, and intrinsic(8) (RFC 8422 5.1.3)
abbrev pub hash_byte : HashAlgorithm → ℕ
hash_byte hashes.None = 0
hash_byte hashes.Md5 = 1
hash_byte hashes.Sha1 = 2
hash_byte hashes.Sha224 = 3
hash_byte hashes.Sha256 = 4
hash_byte hashes.Sha384 = 5
hash_byte hashes.Sha512 = 6
hash_byte hashes.Intrinsic = 8

abbrev pub all_hashes : List HashAlgorithm
all_hashes = hashes.None ∷ hashes.Md5 ∷ hashes.Sha1 ∷ hashes.Sha224 ∷ hashes.Sha256 ∷ hashes.Sha384 ∷ hashes.Sha512 ∷ hashes.Intrinsic ∷ []

pub hashes_named : AreNamed hash_byte all_hashes
hashes_named = elim [ hashes.None ↦ refl | hashes.Md5 ↦ refl | hashes.Sha1 ↦ refl | hashes.Sha224 ↦ refl | hashes.Sha256 ↦ refl | hashes.Sha384 ↦ refl | hashes.Sha512 ↦ refl | hashes.Intrinsic ↦ refl ]

abbrev pub hash_algorithm : Form HashAlgorithm
hash_algorithm = named hash_byte all_hashes

-- enum { anonymous(0), rsa(1), dsa(2), ecdsa(3), (255) }, and ed25519(7), ed448(8) (RFC 8422 5.1.3)
abbrev pub signature_byte : SignatureAlgorithm → ℕ
signature_byte signatures.Anonymous = 0
signature_byte signatures.Rsa = 1
signature_byte signatures.Dsa = 2
signature_byte signatures.Ecdsa = 3
signature_byte signatures.Ed25519 = 7
signature_byte signatures.Ed448 = 8

abbrev pub all_signatures : List SignatureAlgorithm
all_signatures = signatures.Anonymous ∷ signatures.Rsa ∷ signatures.Dsa ∷ signatures.Ecdsa ∷ signatures.Ed25519 ∷ signatures.Ed448 ∷ []

pub signatures_named : AreNamed signature_byte all_signatures
signatures_named = elim [ signatures.Anonymous ↦ refl | signatures.Rsa ↦ refl | signatures.Dsa ↦ refl | signatures.Ecdsa ↦ refl | signatures.Ed25519 ↦ refl | signatures.Ed448 ↦ refl ]

abbrev pub signature_algorithm : Form SignatureAlgorithm
signature_algorithm = named signature_byte all_signatures

-- SignatureAndHashAlgorithm: hash: HashAlgorithm, signature: SignatureAlgorithm
abbrev pub signature_and_hash : Form SignatureAndHashAlgorithm
signature_and_hash = struct (λ v. (v.hash, v.signature)) (λ x. record { hash = x.0; signature = x.1 }) (hash_algorithm ⊗ signature_algorithm)

pub signature_and_hash_lawful : IsForm signature_and_hash
signature_and_hash_lawful = struct_lawful _ _ (hash_algorithm ⊗ signature_algorithm) (λ v. refl) (λ x. refl) (pair_lawful _ _ (named_lawful _ _ hashes_named) (named_lawful _ _ signatures_named))

-- DigitallySigned: algorithm: SignatureAndHashAlgorithm, signature: opaque<0..2^16-1>
abbrev pub digitally_signed : Form DigitallySigned
digitally_signed = struct (λ v. (v.algorithm, v.signature)) (λ x. record { algorithm = x.0; signature = x.1 }) (signature_and_hash ⊗ vector16)

pub digitally_signed_lawful : IsForm digitally_signed
digitally_signed_lawful = struct_lawful _ _ (signature_and_hash ⊗ vector16) (λ v. refl) (λ x. refl) (pair_lawful _ _ signature_and_hash_lawful vector16_lawful)
