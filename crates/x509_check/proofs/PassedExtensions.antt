-- What is told of the extensions of entries while they are checked.
use Rattle.std.proofs.Common.{◌≡◌, ◌||◌, ◌≤◌, ℕ, ◌-◌, Bool, true, false, take, drop, List, [], ◌∷◌, ◌++◌, length, Option, Ok, refl, sym, ap, ◌∙◌, inl, arith, length-append}
use Rattle.std.proofs.lemmas.List.{append-nil, length-drop, take-append-drop}
use Rattle.std.proofs.lemmas.List.Folds.{list_any-append}
use Rattle.std.specs.List.{list_any}
use Rattle.x509_cert.specs.declared.crl.revoked_cert.RevokedCert.{RevokedCert}
use Rattle.x509_check.specs.CrlRefs.{is_marked, marks, reason_alone}
use Rattle.x509_der.specs.Element.{element, length_octets, limit}
use Rattle.x509_der.specs.Form.{Spells, spelling}
use Rattle.x509_der.specs.FrameLaws.{field_complete, field_sound}
use Rattle.x509_der.specs.Frames.{default_octets, field_at, fields_good, fields_octets}
use Rattle.x509_der.specs.List.{all_good, joined}
use Rattle.x509_der.specs.ObjectIdentifierForm.{pass_arcs}
use Rattle.x509_ext.specs.Extension.{extension_fields, extensions, extensions_lawful}
use Rattle.x509_ext.specs.Identifiers.{id_ce}
use Rattle.x509_ext.specs.LookUp.{members}
use Rattle.x509_ext.specs.declared.extension.Extension.{Extension}

-- ---- a reason alone

-- what stands before its octet
abbrev pub reason_front : List ℕ
reason_front = 0x30 ∷ 0x0C ∷ 0x30 ∷ 0x0A ∷ 0x06 ∷ 0x03 ∷ 0x55 ∷ 0x1D ∷ 0x15 ∷ 0x04 ∷ 0x03 ∷ 0x0A ∷ 0x01 ∷ []

reason_good : (reason : ℕ) → extensions.good (reason_alone reason)
unfolding all_good extension_fields fields_good
reason_good reason = ((pass_arcs (id_ce 21) refl, (inl refl, tt)), tt)

reason_spelled : (reason : ℕ) → spelling extensions (reason_alone reason) ≡ reason_front ++ reason ∷ []
unfolding element length_octets joined extension_fields fields_octets default_octets
reason_spelled reason = refl

pub spells_reason : (bytes : List ℕ) (reason : ℕ) → bytes ≡ reason_front ++ reason ∷ [] → Spells extensions (reason_alone reason) bytes
spells_reason bytes reason is = (reason_good reason, is ∙ sym (reason_spelled reason), omega (arith, ap length is))

one_octet : (bytes : List ℕ) → length bytes ≡ 1 → (last : ℕ) × (bytes ≡ last ∷ [])
one_octet [] one = absurd (omega (arith, one))
one_octet (b ∷ []) one = (b, refl)
one_octet (b ∷ c ∷ bytes) one = absurd (omega (arith, one))

-- bytes of which the front is this have one octet more
pub one_behind : (bytes front : List ℕ) → 1 ≤ length bytes → take (length bytes - 1) bytes ≡ front → (last : ℕ) × (bytes ≡ front ++ last ∷ [])
one_behind bytes front some is =
    let n = length bytes - 1 in
    let behind = one_octet (drop n bytes) (omega (arith, some, length-drop n bytes)) in
    (behind.0, sym (take-append-drop n bytes) ∙ ap (λ f. f ++ drop n bytes) is ∙ ap (λ l. front ++ l) behind.1)

pub reason_passes : (bytes : List ℕ) (reason : ℕ) → Spells extensions (reason_alone reason) bytes → (list : List Extension) × (field_at extensions.reading bytes ≡ Ok (list, [])) × (false ≡ list_any marks list)
reason_passes bytes reason spells = (
  reason_alone reason,
  ap (field_at extensions.reading) (spells.1 ∙ sym (append-nil (spelling extensions (reason_alone reason)))) ∙ field_complete {R = λ e. ⊥} extensions extensions_lawful (reason_alone reason) [] spells.0,
  refl,
)

-- ---- any list

-- whether a list marks its entry, and one that may be left out
abbrev pub MarkBy : List Extension → Bool → Type 0
MarkBy list is_marked = is_marked ≡ list_any marks list

abbrev pub MarkAmong : Option (List Extension) → Bool → Type 0
MarkAmong list is_marked = is_marked ≡ list_any marks (members list)

pub list_spelled : (bytes rest lent : List ℕ) (list : List Extension) → length bytes ≤ limit → field_at extensions.reading bytes ≡ Ok (list, rest) → lent ≡ spelling extensions list → Spells extensions list lent
list_spelled bytes rest lent list within read is =
    let s = field_sound {R = λ e. ⊥} extensions extensions_lawful bytes list rest read in
    (s.0, is, omega (arith, within, ap length s.1, ap length is, length-append (spelling extensions list) rest))

-- ---- entries

or_none : (b : Bool) → (b || false) ≡ b
or_none true = refl
or_none false = refl

-- of entries and one more
pub marked_behind : {P : Type 0} (front : List (RevokedCert P)) (entry : RevokedCert P) (before here : Bool) → before ≡ list_any is_marked front → here ≡ is_marked entry → (before || here) ≡ list_any is_marked (front ++ entry ∷ [])
marked_behind front entry before here one other = rw (one, other) (ap (λ b. list_any is_marked front || b) (sym (or_none (is_marked entry))) ∙ sym (list_any-append is_marked front (entry ∷ [])))
