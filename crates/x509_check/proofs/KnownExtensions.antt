-- The parts of an extension that is known to stand in bytes.
use Rattle.std.proofs.Common.{◌≡◌, ℕ, ◌≤◌, Bool, true, false, List, [], ◌∷◌, ◌++◌, length, get_or, bytes_eq, Ok, refl, sym, subst, ap, ◌∙◌, arith, append_assoc}
use Rattle.std.specs.List.{list_any}
use Rattle.std.specs.Prelude.{IsOk}
use Rattle.x509_check.proofs.KnownEntries.{not_refused, piece_of_field}
use Rattle.x509_check.proofs.LentLists.{first_left, first_of, is_list}
use Rattle.x509_check.specs.Lending.{listed}
use Rattle.x509_der.specs.Boolean.{boolean}
use Rattle.x509_der.specs.DefaultValues.{boolean_default}
use Rattle.x509_der.specs.Element.{element}
use Rattle.x509_der.specs.ElementLaws.{piece_at-element}
use Rattle.x509_der.specs.ElementReading.{Piece, piece_at}
use Rattle.x509_der.specs.Form.{spelling}
use Rattle.x509_der.specs.FrameLaws.{field_sound}
use Rattle.x509_der.specs.Frames.{default_octets, fields_octets}
use Rattle.x509_der.specs.List.{list_reading}
use Rattle.x509_der.specs.ListLaws.{none_read}
use Rattle.x509_der.specs.Outcome.{IsRefusal}
use Rattle.x509_der.specs.OutcomeLaws.{ok_is}
use Rattle.x509_der.specs.TagLaws.{tag_is_identifier}
use Rattle.x509_der.specs.declared.error.ErrorKind.{ErrorKind}
use Rattle.x509_der.specs.declared.error.ErrorKind.TheVariants.{Malformed}
use Rattle.x509_der.specs.declared.tag.Tag.TheVariants.{ObjectIdentifier, Sequence}
use Rattle.x509_ext.specs.Extension.{extension, extension_contents, extension_contents_lawful, extension_fields, extension_lawful}
use Rattle.x509_ext.specs.LookUp.{with_oid}
use Rattle.x509_ext.specs.declared.extension.Extension.{Extension}
use Rattle.x509_prim.specs.OctetString.{octet_string}

abbrev pub behind_oid : Extension → List ℕ
behind_oid e = default_octets boolean_default (spelling boolean) e.critical ++ spelling octet_string e.extn_value

-- the OID stands in front
pub oid_stands : (octets : List ℕ) (e : Extension) → extension_contents.reading octets ≡ Ok e → piece_at octets ≡ Ok (record { tag = 6; content = e.extn_id; rest = behind_oid e })
unfolding extension_fields fields_octets
oid_stands octets e read = ap piece_at ((extension_contents_lawful {R = λ e. ⊥}).sound octets e read).1 ∙ piece_at-element 6 e.extn_id (behind_oid e) (tag_is_identifier ObjectIdentifier)

-- a BOOLEAN stands behind it exactly where the extension is critical
pub is_critical : (critical : Bool) (value rest : List ℕ) → rest ≡ default_octets boolean_default (spelling boolean) critical ++ spelling octet_string value → get_or rest 0 0 ≡ 1 → critical ≡ true
unfolding default_octets element
is_critical true value rest is h = refl
is_critical false value rest is h = absurd (let k = rw is at h in cc)

pub is_not_critical : (critical : Bool) (value rest : List ℕ) → rest ≡ default_octets boolean_default (spelling boolean) critical ++ spelling octet_string value → (1 ≤ length rest → get_or rest 0 0 ≡ 1 → ⊥) → critical ≡ false
unfolding default_octets element
is_not_critical true value rest is other = absurd (other (omega (arith, ap length is)) (rw is refl))
is_not_critical false value rest is other = refl

-- ---- a list of extensions

-- the extension at the front, and those behind it
pub record IsFirstOf (rest : List ℕ) (piece : Piece) : Type 0 where
  pub first : Extension
  pub read : extension_contents.reading piece.content ≡ Ok first
  pub list : listed (list_reading extension.reading rest) ≡ first ∷ listed (list_reading extension.reading piece.rest)
  pub known : IsOk (list_reading extension.reading piece.rest)

pub is_first_of : (rest : List ℕ) (piece : Piece) → piece_at rest ≡ Ok piece → 1 ≤ length rest → IsOk (list_reading extension.reading rest) → IsFirstOf rest piece
is_first_of rest piece p some ok =
    let front = first_of extension.reading rest some ok in
    let s = field_sound {R = λ e. ⊥} extension extension_lawful rest front.0 front.1 front.2 in
    let stands = ok_is piece _ (sym p ∙ ap piece_at s.1 ∙ piece_at-element 48 (extension.content front.0) front.1 (tag_is_identifier Sequence)) in
    let left = first_left extension.reading rest front.1 front.0 front.2 ok in
    let behind : piece.rest ≡ front.1 = ap (λ (q : Piece). q.rest) stands in record {
      first = front.0;
      read = ap (λ (q : Piece). extension_contents.reading q.content) stands ∙ (extension_contents_lawful {R = λ e. ⊥}).complete front.0 s.0;
      list = left.0 ∙ ap (λ r. front.0 ∷ listed (list_reading extension.reading r)) (sym behind);
      known = subst (λ r. IsOk (list_reading extension.reading r)) (sym behind) left.1;
    }

-- an element stands where any are left
pub some_extension : (rest : List ℕ) → 1 ≤ length rest → IsOk (list_reading extension.reading rest) → (piece : Piece) × (piece_at rest ≡ Ok piece)
some_extension rest some ok = let front = first_of extension.reading rest some ok in piece_of_field extension.reading rest front.1 front.0 front.2

-- none is left where no element stands
pub none_left : (rest : List ℕ) (e : ErrorKind) → IsRefusal e (piece_at rest) → e ≡ Malformed → IsOk (list_reading extension.reading rest) → listed (list_reading extension.reading rest) ≡ []
none_left [] e h same ok = (is_list _ _ (none_read extension.reading [] refl)).1
none_left (b ∷ rest) e h same ok = absurd (let piece = some_extension (b ∷ rest) (omega arith) ok in not_refused (b ∷ rest) piece.0 e piece.1 h same)

module _ (test : Extension → Bool) (all : List Extension) (rest : List ℕ) where
  pub here : (piece : Piece) (h : IsFirstOf rest piece) → test h.first ≡ true → list_any test (listed (list_reading extension.reading rest)) ≡ list_any test all → true ≡ list_any test all
  here piece h is same =
      let one : list_any test (listed (list_reading extension.reading rest)) ≡ true = ap (list_any test) h.list ∙ rw is refl in
      sym one ∙ same

  pub behind : (piece : Piece) (h : IsFirstOf rest piece) → test h.first ≡ false → list_any test (listed (list_reading extension.reading rest)) ≡ list_any test all
      → list_any test (listed (list_reading extension.reading piece.rest)) ≡ list_any test all
  behind piece h other same =
      let one : list_any test (listed (list_reading extension.reading rest)) ≡ list_any test (listed (list_reading extension.reading piece.rest)) = ap (list_any test) h.list ∙ rw other refl in
      sym one ∙ same

  pub nowhere : length rest ≡ 0 → list_any test (listed (list_reading extension.reading rest)) ≡ list_any test all → false ≡ list_any test all
  nowhere none same = ap (list_any test) (sym (is_list _ _ (none_read extension.reading rest none)).1) ∙ same

-- ---- those with an OID

module _ (oid : List ℕ) (all before left others : List Extension) (e : Extension) (is : left ≡ e ∷ others) where
  pub goes_past : bytes_eq e.extn_id oid ≡ false → with_oid oid left ≡ with_oid oid all → with_oid oid others ≡ with_oid oid all
  goes_past other same = rw other at (rw is at same)

  pub one_further : all ≡ before ++ left → all ≡ (before ++ e ∷ []) ++ others
  one_further same = same ∙ ap (λ l. before ++ l) is ∙ sym (append_assoc before (e ∷ []) others)

  module _ (lent : Extension) (found : lent ≡ e) where
    pub is_found : bytes_eq e.extn_id oid ≡ true → with_oid oid left ≡ with_oid oid all → with_oid oid all ≡ lent ∷ with_oid oid others
    is_found has same =
        let first : with_oid oid left ≡ e ∷ with_oid oid others = ap (with_oid oid) is ∙ rw has refl in
        sym same ∙ first ∙ ap (λ x. x ∷ with_oid oid others) (sym found)

    pub stands_behind : all ≡ before ++ left → all ≡ before ++ lent ∷ others
    stands_behind same = same ∙ ap (λ l. before ++ l) is ∙ ap (λ x. before ++ x ∷ others) (sym found)
