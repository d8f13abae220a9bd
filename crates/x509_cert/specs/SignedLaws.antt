-- What holds of signed parts.
use Rattle.std.proofs.Common.{Err, ◌↔◌, None, ◌≡◌, ℕ, ◌≤◌, List, ◌++◌, length, refl, sym, ap, ◌∙◌, arith, length-append}
use Rattle.x509_der.specs.Element.{element, length_octets, limit}
use Rattle.x509_der.specs.FrontLaws.{elements, element_is}
use Rattle.x509_der.specs.declared.error.ErrorKind.{ErrorKind}
use Rattle.x509_der.specs.declared.error.ErrorKind.TheVariants.{Malformed}
use Rattle.x509_der.specs.declared.tag.Tag.TheVariants.{Sequence}
use Rattle.x509_der.specs.Form.{Form, IsForm, Contents, Spells, spelling, universal}
use Rattle.x509_der.specs.SpellingLaws.{values}
use Rattle.x509_der.specs.Writing.{Writing, writes, written_spelling, IsStable}
use Rattle.x509_der.specs.Frames.{Part, required, ◌⊗◌, fields_octets, fields_good}
use Rattle.x509_cert.specs.Signed.{IsSignedPart}

-- bytes have one signed part at most
pub one_part : (bytes s t : List ℕ) → IsSignedPart bytes s → IsSignedPart bytes t → s ≡ t
one_part bytes s t p q =
    let same = element_is 0x30 0x30 (s ++ p.behind) (t ++ q.behind) (sym p.whole ∙ q.whole) in
    let fronts : element 0x30 p.content ++ p.behind ≡ element 0x30 q.content ++ q.behind = ap (λ x. x ++ p.behind) (sym p.part) ∙ same.1 ∙ ap (λ x. x ++ q.behind) q.part in
    let contents = elements 0x30 0x30 p.content q.content p.behind q.behind fronts in
    p.part ∙ ap (element 0x30) contents.1 ∙ sym q.part

-- the element of a content is no shorter than what stands in front of it
pub content_shorter : (tag : ℕ) (front behind : List ℕ) → length front ≤ length (element tag (front ++ behind))
unfolding element
content_shorter tag front behind = omega (arith, length-append front behind, length-append (length_octets (length (front ++ behind))) (front ++ behind))

-- Where the content of a SEQUENCE begins with the bytes of one, these are the signed part, and spell its value.
pub front_is_signed : {X Y : Type 0} (whole : Form Y) (part : Form X) (value : Y) (first : X) (behind bytes : List ℕ)
    → whole.tag value ≡ 0x30 → part.tag first ≡ 0x30 → whole.content value ≡ spelling part first ++ behind → part.good first → Spells whole value bytes
    → IsSignedPart bytes (spelling part first) × Spells part first (spelling part first)
front_is_signed whole part value first behind bytes outside inside begins good spells =
    let signed = spelling part first in
    let is : bytes ≡ element 0x30 (signed ++ behind) = spells.1 ∙ rw (outside, begins) refl in
    let within : length signed ≤ limit = omega (arith, content_shorter 0x30 signed behind, ap length is, spells.2) in
    (record { content = part.content first; behind = behind; part = rw inside refl; whole = is; within = spells.2 }, (good, refl, within))

-- The bytes are the SEQUENCE of a value's fields: what Spells says of fields to from part, whichever from is.
abbrev pub SpellsFields : {X Y : Type 0} → (Y → X) → Part X → Y → List ℕ → Type 0
SpellsFields to part value bytes = fields_good to part value × (bytes ≡ element 0x30 (fields_octets to part value)) × (length bytes ≤ limit)

-- The first field, where that is a SEQUENCE itself: its bytes are the signed part, and spell it.
pub first_field_is_signed : {X Y Z : Type 0} (to : Y → X × Z) (first : Contents X) (rest : Part Z) (value : Y) (bytes : List ℕ)
    → SpellsFields to (required (universal Sequence first) ⊗ rest) value bytes
    → IsSignedPart bytes (spelling (universal Sequence first) (to value).0) × Spells (universal Sequence first) (to value).0 (spelling (universal Sequence first) (to value).0)
unfolding fields_octets fields_good
first_field_is_signed {X} {Y} {Z} to first rest value bytes spells =
    let part = required (universal Sequence first) ⊗ rest in
    let whole : Form Y = universal Sequence (record { octets = fields_octets to part; good = fields_good to part; reading = λ octets. Err Malformed }) in
    front_is_signed whole (universal Sequence first) value (to value).0 (rest.text (to value).1) bytes refl refl refl spells.0.0 spells

-- What is written of a value is the bytes that spell it exactly where the value is written as it is.
pub written_as_it_is : {X : Type 0} {R : ErrorKind → Type 0} (form : Form X) → IsForm R form → (writing : Writing X) → IsStable form.good writing → (value : X) (bytes : List ℕ)
    → Spells form value bytes → (writes writing value).refusal ≡ None → (written_spelling form (writes writing value) ≡ bytes) ↔ ((writes writing value).value ≡ value)
written_as_it_is form lawful writing stable value bytes spells free = (
  (λ same. values form lawful (writes writing value).value value bytes (stable.kept value spells.0 free, sym same, spells.2) spells),
  (λ same. ap (spelling form) same ∙ sym spells.1),
)
