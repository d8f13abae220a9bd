-- How the elements of a certificate are read: a tool of the proofs, which `ElementPartsLaws` ties to `Elements`.
use Rattle.std.specs.Prelude.{ℕ, ◌+◌, List, Option, IfSome, Result, Ok, option_map}
use Rattle.x509_der.specs.declared.error.ErrorKind.{ErrorKind}
use Rattle.x509_der.specs.Element.{element}
use Rattle.x509_der.specs.Outcome.{◌>>=◌}
use Rattle.x509_der.specs.Frames.{explicit, Part, required, optional, optional_octets, ◌⊗◌, fields}
use Rattle.x509_der.specs.Form.{Form, Contents, under, whole_reading}
use Rattle.x509_cert.specs.Elements.{IsElement, TbsElements, CertificateElements}

-- a content of any octets
abbrev pub any_octets : Contents (List ℕ)
any_octets = record { octets = λ content. content; good = λ content. Unit; reading = λ content. Ok content }

-- one element of this identifier octet
abbrev pub any_element : ℕ → Form (List ℕ)
any_element tag = under tag any_octets

-- a part whose values are seen as others
abbrev pub seen_as : {X Y : Type 0} → (X → Y) → (Y → List ℕ) → (Y → Type 0) → Part X → Part Y
seen_as view text good part = record {
  text = text;
  good = good;
  starts = part.starts;
  avoids = part.avoids;
  reading = λ bytes. part.reading bytes >>= λ x. Ok (view x.0, x.1);
}

-- an element with this identifier octet
unfoldable pub lent : ℕ → Part (List ℕ)
lent tag = seen_as (element tag) (λ bytes. bytes) (IsElement tag) (required (any_element tag))

-- the same inside an explicit tag
unfoldable pub lent_inside : ℕ → ℕ → Part (List ℕ)
lent_inside n tag = seen_as (element tag) (element (160 + n)) (IsElement tag) (required (explicit n (any_element tag)))

-- an element that may be left out
unfoldable pub lent_optional : ℕ → Part (Option (List ℕ))
lent_optional tag = seen_as (option_map (element tag)) (optional_octets (λ bytes. bytes)) (λ found. IfSome found (IsElement tag)) (optional (any_element tag))

-- the same inside an explicit tag
unfoldable pub lent_explicit : ℕ → ℕ → Part (Option (List ℕ))
lent_explicit n tag = seen_as (option_map (element tag)) (optional_octets (element (160 + n))) (λ found. IfSome found (IsElement tag)) (optional (explicit n (any_element tag)))

-- ---- the signed part

abbrev pub TbsFront : Type 0
TbsFront = Option (List ℕ) × (List ℕ × (List ℕ × (List ℕ × List ℕ)))

abbrev pub TbsBehind : Type 0
TbsBehind = List ℕ × (List ℕ × (Option (List ℕ) × (Option (List ℕ) × Option (List ℕ))))

unfoldable pub tbs_parts : Part (TbsFront × TbsBehind)
tbs_parts =
    (lent_explicit 0 0x02 ⊗ (lent 0x02 ⊗ (lent 0x30 ⊗ (lent 0x30 ⊗ lent 0x30))))
    ⊗ (lent 0x30 ⊗ (lent 0x30 ⊗ (lent_optional 0x81 ⊗ (lent_optional 0x82 ⊗ lent_explicit 3 0x30))))

abbrev pub tbs_contents : Contents TbsElements
tbs_contents = fields
    (λ e. ((e.version, (e.serial_number, (e.signature, (e.issuer, e.validity)))), (e.subject, (e.subject_public_key_info, (e.issuer_unique_id, (e.subject_unique_id, e.extensions))))))
    (λ ((version, (serial_number, (signature, (issuer, validity)))), (subject, (subject_public_key_info, (issuer_unique_id, (subject_unique_id, extensions))))). record { version = version; serial_number = serial_number; signature = signature; issuer = issuer; validity = validity; subject = subject; subject_public_key_info = subject_public_key_info; issuer_unique_id = issuer_unique_id; subject_unique_id = subject_unique_id; extensions = extensions })
    tbs_parts

-- ---- the whole

unfoldable pub outer_parts : Part (List ℕ × (List ℕ × List ℕ))
outer_parts = lent 0x30 ⊗ (lent 0x30 ⊗ lent 0x03)

abbrev pub outer_contents : Contents (List ℕ × (List ℕ × List ℕ))
outer_contents = fields (λ x. x) (λ x. x) outer_parts

-- ---- what a reader answers

-- on the bytes of the signed part
abbrev pub tbs_reading : List ℕ → Result TbsElements ErrorKind
tbs_reading bytes = whole_reading (any_element 0x30).reading bytes >>= tbs_contents.reading

-- on the bytes of the whole
abbrev pub certificate_reading : List ℕ → Result CertificateElements ErrorKind
certificate_reading bytes = whole_reading (any_element 0x30).reading bytes >>= outer_contents.reading >>= λ x.
    tbs_reading x.0 >>= λ fields. Ok (record { tbs_certificate = x.0; fields = fields; signature_algorithm = x.1.0; signature = x.1.1 })
