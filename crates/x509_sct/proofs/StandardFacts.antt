-- Worked timestamps and lists, computed from the definitions (RFC 6962 3.2, 3.3).
use Rattle.std.proofs.Common.{◌≡◌, inl, inr, List, [], ◌∷◌, ◌++◌, refl, lit<}
use Rattle.std.specs.Prelude.{ℕ, replicate}
use Rattle.x509_sct.specs.declared.tls.error.TlsError.TheVariants.{EndOfStream, UnknownValue, TrailingData, InvalidVectorLength}
use Rattle.x509_sct.specs.Form.{Spells, IsWholeFault}
use Rattle.x509_sct.specs.Lists.{ListFault}
use Rattle.x509_sct.specs.Numbers.{uint16, vector24}
use Rattle.x509_sct.specs.declared.entry.SignatureType.TheVariants.{CertificateTimestamp}
use Rattle.x509_sct.specs.declared.signed.DigitallySigned.{DigitallySigned}
use Rattle.x509_sct.specs.declared.signed.HashAlgorithm.TheVariants as hashes
use Rattle.x509_sct.specs.declared.signed.SignatureAlgorithm.TheVariants as signatures
use Rattle.x509_sct.specs.declared.timestamp.SignedCertificateTimestamp.{SignedCertificateTimestamp}
use Rattle.x509_sct.specs.declared.timestamp.Version.TheVariants.{V1}
use Rattle.x509_sct.specs.DigitallySigned.{digitally_signed, hash_algorithm}
use Rattle.x509_sct.specs.SignedInput.{signed_entry, signed_input}
use Rattle.x509_sct.specs.Timestamp.{timestamp, timestamp_fields}
use Rattle.x509_sct.specs.TimestampList.{serialized, IsTimestampList}

-- a signature of the octets 0, 1 and 2 with SHA-256 and ECDSA
abbrev signed : DigitallySigned
signed = record { algorithm = record { hash = hashes.Sha256; signature = signatures.Ecdsa }; signature = 0 ∷ 1 ∷ 2 ∷ [] }

pub signed_octets : digitally_signed.bytes signed ≡ 0x04 ∷ 0x03 ∷ 0x00 ∷ 0x03 ∷ 0x00 ∷ 0x01 ∷ 0x02 ∷ []
signed_octets = refl

pub seven_is_no_hash : hash_algorithm.fault (7 ∷ []) (UnknownValue 7)
seven_is_no_hash = (elim [ hashes.None ↦ λ e. cc | hashes.Md5 ↦ λ e. cc | hashes.Sha1 ↦ λ e. cc | hashes.Sha224 ↦ λ e. cc | hashes.Sha256 ↦ λ e. cc | hashes.Sha384 ↦ λ e. cc | hashes.Sha512 ↦ λ e. cc | hashes.Intrinsic ↦ λ e. cc ], refl)

pub no_hash_ends : hash_algorithm.fault [] EndOfStream
no_hash_ends = refl

-- the log of 32 octets 2A, 1,683,095,206,506 milliseconds, no extensions
abbrev promise : SignedCertificateTimestamp
promise = record { version = V1; log_id = record { key_id = replicate 32 0x2A }; timestamp = 1683095206506; extensions = []; signature = signed }

abbrev promise_octets : List ℕ
promise_octets =
    0x00 ∷ (replicate 32 0x2A ++ 0x00 ∷ 0x00 ∷ 0x01 ∷ 0x87 ∷ 0xE0 ∷ 0x4A ∷ 0xBA ∷ 0x6A ∷ 0x00 ∷ 0x00 ∷ 0x04 ∷ 0x03 ∷ 0x00 ∷ 0x03 ∷ 0x00 ∷ 0x01 ∷ 0x02 ∷ [])

pub promise_is_spelled : Spells timestamp promise promise_octets
unfolding timestamp_fields
promise_is_spelled = ((tt, (refl, (lit< tt, (lit< tt, ((tt, tt), lit< tt))))), refl)

pub empty_list : IsTimestampList [] (0x00 ∷ 0x00 ∷ [])
empty_list = (tt, (lit< tt, refl))

pub list_of_one : IsTimestampList (record { octets = promise_octets } ∷ []) (0x00 ∷ 0x34 ∷ 0x00 ∷ 0x32 ∷ promise_octets)
list_of_one = ((lit< tt, tt), (lit< tt, refl))

-- one byte of items: the length of an item is cut
pub cut_item : ListFault uint16 serialized (0x00 ∷ 0x01 ∷ 0x00 ∷ []) EndOfStream
cut_item = inr (record {
  value = 0x00 ∷ [];
  rest = [];
  begins = (lit< tt, refl);
  behind = record { values = []; rest = 0x00 ∷ []; good = tt; front = refl; left = lit< tt; fault = inl (lit< tt, refl) };
})

-- a byte behind the empty list
pub byte_behind : ListFault uint16 serialized (0x00 ∷ 0x00 ∷ 0x00 ∷ []) TrailingData
byte_behind = inr (record { value = []; rest = 0x00 ∷ []; begins = (lit< tt, refl); behind = refl })

pub item_of_a_byte : IsTimestampList (record { octets = 0x41 ∷ [] } ∷ []) (0x00 ∷ 0x03 ∷ 0x00 ∷ 0x01 ∷ 0x41 ∷ [])
item_of_a_byte = ((lit< tt, tt), (lit< tt, refl))

-- a timestamp of version 65
pub no_version : IsWholeFault timestamp (0x41 ∷ []) (UnknownValue 65)
unfolding timestamp_fields
no_version = inl (inl (elim [ V1 ↦ λ e. cc ], refl))

-- what is signed of a certificate of the octets 30 and 00, with one octet of extensions
pub certificate_is_signed : Spells signed_input (V1, (CertificateTimestamp, (1683095206506, (inl (0x30 ∷ 0x00 ∷ []), 0x07 ∷ []))))
    (0x00 ∷ 0x00 ∷ 0x00 ∷ 0x00 ∷ 0x01 ∷ 0x87 ∷ 0xE0 ∷ 0x4A ∷ 0xBA ∷ 0x6A ∷ 0x00 ∷ 0x00 ∷ 0x00 ∷ 0x00 ∷ 0x02 ∷ 0x30 ∷ 0x00 ∷ 0x00 ∷ 0x01 ∷ 0x07 ∷ [])
unfolding signed_input
certificate_is_signed = ((tt, (tt, (lit< tt, ((lit< tt, (lit< tt, lit< tt)), lit< tt)))), refl)

-- of a precertificate of the same octets, whose issuer's key has the hash of 32 octets 5A
pub precertificate_is_signed : Spells signed_entry (inr (replicate 32 0x5A, 0x30 ∷ 0x00 ∷ [])) (0x00 ∷ 0x01 ∷ (replicate 32 0x5A ++ 0x00 ∷ 0x00 ∷ 0x02 ∷ 0x30 ∷ 0x00 ∷ []))
precertificate_is_signed = ((lit< tt, (refl, (lit< tt, lit< tt))), refl)

pub no_certificate : vector24.fault (0x00 ∷ 0x00 ∷ 0x00 ∷ []) InvalidVectorLength
no_certificate = inr (record { value = []; rest = []; begins = (lit< tt, refl); behind = (refl, refl) })

-- an entry of the type 256
pub no_entry_type : signed_entry.fault (0x01 ∷ 0x00 ∷ []) (UnknownValue 256)
no_entry_type = inr (record { value = 256; rest = []; begins = (lit< tt, refl); behind = refl })
