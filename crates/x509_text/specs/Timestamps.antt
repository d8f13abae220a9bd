-- Lines of signed certificate timestamps, SCTs (RFC 6962 3.1, 3.2, 3.3).
use Rattle.std.specs.Prelude.{ℕ, ◌+◌, ◌/◌, ◌%◌, List, [], ◌∷◌, ◌++◌, Option, Some, None, Result, Ok, Err, nat_eq, nat_le, codes, if◌then◌else◌}
use Rattle.std.specs.Fmt.{decimal}
use Rattle.std.specs.List.{flat_map}
use Rattle.x509_base.specs.CivilTime.{CivilTime, last_date_time, unix_seconds}
use Rattle.x509_base.specs.TimeText.{two_digits}
use Rattle.x509_sct.specs.FieldReading.{whole_at}
use Rattle.x509_sct.specs.Lists.{list_reading}
use Rattle.x509_sct.specs.Numbers.{uint16, vector16}
use Rattle.x509_sct.specs.Timestamp.{timestamp}
use Rattle.x509_sct.specs.declared.list.SignedCertificateTimestampList.{SignedCertificateTimestampList}
use Rattle.x509_sct.specs.declared.poison.CtPrecertificatePoison.{CtPrecertificatePoison}
use Rattle.x509_sct.specs.declared.signed.DigitallySigned.{DigitallySigned}
use Rattle.x509_sct.specs.declared.signed.HashAlgorithm.{HashAlgorithm}
use Rattle.x509_sct.specs.declared.signed.HashAlgorithm.TheVariants as hashes
use Rattle.x509_sct.specs.declared.signed.SignatureAlgorithm.{SignatureAlgorithm}
use Rattle.x509_sct.specs.declared.signed.SignatureAlgorithm.TheVariants as signatures
use Rattle.x509_sct.specs.declared.timestamp.SignedCertificateTimestamp.{SignedCertificateTimestamp}
use Rattle.x509_sct.specs.declared.timestamp.Version.{Version}
use Rattle.x509_sct.specs.declared.timestamp.Version.TheVariants.{V1}
use Rattle.x509_sct.specs.declared.tls.error.TlsError.{TlsError}
use Rattle.x509_text.specs.declared.line.Place.{Place}
use Rattle.x509_text.specs.Dates.{date_time_at}
use Rattle.x509_text.specs.Lines.{line, below}
use Rattle.x509_text.specs.Payloads.{octets_line}
use Rattle.x509_text.specs.Values.{second_text}

-- ---- times

-- milliseconds of a second, as a full stop and three digits; nothing of 0
abbrev pub fraction_text : ℕ → List ℕ
fraction_text millis = if nat_eq millis 0 then [] else codes "." ++ ((48 + millis / 100) ∷ two_digits (millis % 100))

-- YYYY-MM-DD HH:MM:SS UTC, with milliseconds behind the seconds where they aren't 0
abbrev pub precise_text : CivilTime → ℕ → List ℕ
precise_text moment millis = second_text moment ++ (fraction_text millis ++ codes " UTC")

-- the number of milliseconds
abbrev pub late_text : ℕ → List ℕ
late_text millis = decimal millis ++ codes " milliseconds since 1970"

-- so many milliseconds since 1970-01-01T00:00:00Z: the moment through the year 9999, and their number after that
unfoldable pub time_text : ℕ → List ℕ
time_text millis =
    if nat_le (millis / 1000) (unix_seconds last_date_time) then precise_text (date_time_at (millis / 1000)) (millis % 1000)
    else late_text millis

-- ---- timestamps

-- the names of RFC 6962 3.2
abbrev pub version_text : Version → List ℕ
version_text V1 = codes "v1"

-- the names of RFC 5246 7.4.1.4.1 and RFC 8422 5.1.3
abbrev pub hash_text : HashAlgorithm → List ℕ
hash_text hashes.None = codes "none"
hash_text hashes.Md5 = codes "md5"
hash_text hashes.Sha1 = codes "sha1"
hash_text hashes.Sha224 = codes "sha224"
hash_text hashes.Sha256 = codes "sha256"
hash_text hashes.Sha384 = codes "sha384"
hash_text hashes.Sha512 = codes "sha512"
hash_text hashes.Intrinsic = codes "intrinsic"

abbrev pub signature_text : SignatureAlgorithm → List ℕ
signature_text signatures.Anonymous = codes "anonymous"
signature_text signatures.Rsa = codes "rsa"
signature_text signatures.Dsa = codes "dsa"
signature_text signatures.Ecdsa = codes "ecdsa"
signature_text signatures.Ed25519 = codes "ed25519"
signature_text signatures.Ed448 = codes "ed448"

-- DigitallySigned (RFC 5246 4.7)
unfoldable pub signed_lines : Place → DigitallySigned → List ℕ
signed_lines at signed =
    line at (codes "hash algorithm") (hash_text signed.algorithm.hash)
    ++ (line at (codes "signature algorithm") (signature_text signed.algorithm.signature)
    ++ octets_line at (codes "signature") signed.signature)

-- the extensions of a timestamp, where it has any
abbrev pub extensions_line : Place → List ℕ → List ℕ
extensions_line at [] = []
extensions_line at (octet ∷ octets) = octets_line at (codes "extensions") (octet ∷ octets)

-- what belongs to a timestamp: its version, its log, its extensions, its signature
unfoldable pub timestamp_parts : Place → SignedCertificateTimestamp → List ℕ
timestamp_parts at t =
    line at (codes "version") (version_text t.version)
    ++ (octets_line at (codes "log ID") t.log_id.key_id
    ++ (extensions_line at t.extensions
    ++ signed_lines at t.signature))

-- SignedCertificateTimestamp (RFC 6962 3.2)
unfoldable pub timestamp_lines : Place → SignedCertificateTimestamp → List ℕ
timestamp_lines at t = line at (codes "timestamp") (time_text t.timestamp) ++ timestamp_parts (below at) t

-- ---- lists of them

abbrev pub value_read : {X : Type 0} → Result X TlsError → Option X
value_read (Ok x) = Some x
value_read (Err e) = None

-- the timestamp of which the octets are the encoding, where they are that of one
unfoldable pub timestamp_of : List ℕ → Option SignedCertificateTimestamp
timestamp_of octets = value_read (whole_at timestamp.reading octets)

abbrev pub timestamp_or_octets : Place → List ℕ → Option SignedCertificateTimestamp → List ℕ
timestamp_or_octets at octets (Some t) = timestamp_lines at t
timestamp_or_octets at octets None = octets_line at (codes "undecodable") octets

-- SerializedSCT (RFC 6962 3.3)
unfoldable pub serialized_lines : Place → List ℕ → List ℕ
serialized_lines at octets = timestamp_or_octets at octets (timestamp_of octets)

-- the octets of each SerializedSCT of a list, where the octets are the encoding of a list
unfoldable pub serialized_in : List ℕ → Option (List (List ℕ))
serialized_in octets = value_read (list_reading uint16.reading vector16.reading octets)

abbrev pub list_or_octets : Place → List ℕ → Option (List (List ℕ)) → List ℕ
list_or_octets at octets (Some serialized) = flat_map (serialized_lines at) serialized
list_or_octets at octets None = octets_line at (codes "undecodable") octets

-- SignedCertificateTimestampList (RFC 6962 3.3)
unfoldable pub timestamps_lines : Place → SignedCertificateTimestampList → List ℕ
timestamps_lines at list = list_or_octets at list.0 (serialized_in list.0)

-- the poison extension, whose value is NULL (RFC 6962 3.1)
abbrev pub poison_line : Place → CtPrecertificatePoison → List ℕ
poison_line at poison = line at (codes "value") (codes "NULL")
