-- A signed part without one of its extensions, by its elements.
use Rattle.std.proofs.Common.{◌≡◌, inl, inr, ℕ, ◌+◌, ◌≤◌, true, List, [], ◌∷◌, ◌++◌, length, bytes_eq, Option, Some, None, IfSome, Result, option_map, if◌then◌else◌, refl, sym, ap, ◌∙◌, subst, arith, append_assoc, length-append}
use Rattle.std.proofs.lemmas.Bool.{cases_Bool}
use Rattle.std.proofs.lemmas.Bool.Decides.{nat_tests}
use Rattle.x509_cert.proofs.CertificateSignedPart.{stands}
use Rattle.x509_cert.specs.Certificate.{certificate}
use Rattle.x509_cert.specs.Elements.{TbsElements, front_octets, tbs_elements}
use Rattle.x509_cert.specs.Spellings.{tbs_spellings}
use Rattle.x509_cert.specs.TbsCertificate.{tbs_certificate, tbs_certificate_fields}
use Rattle.x509_cert.specs.Version.{version, version_default, is_first}
use Rattle.x509_cert.specs.Without.{where_any, without_oid}
use Rattle.x509_cert.specs.declared.certificate.certificate.CertificateInner.{CertificateInner}
use Rattle.x509_cert.specs.declared.certificate.tbs_certificate.TbsCertificateInner.{TbsCertificateInner}
use Rattle.x509_cert.specs.declared.certificate.version.Version.{Version}
use Rattle.x509_cert.specs.declared.certificate.version.Version.TheVariants.{V1, V2, V3}
use Rattle.x509_der.specs.Element.{element, length_octets, limit}
use Rattle.x509_der.specs.Form.{Form, Spells, spelling}
use Rattle.x509_der.specs.Frames.{default_octets, explicit, fields_good, fields_octets, implicit, optional_octets}
use Rattle.x509_der.specs.List.{all_good, joined}
use Rattle.x509_der.specs.declared.error.ErrorKind.{ErrorKind}
use Rattle.x509_ext.specs.Extension.{extension, extensions}
use Rattle.x509_ext.specs.LookUp.{members, with_oid}
use Rattle.x509_ext.specs.declared.extension.Extension.{Extension}
use Rattle.x509_log.specs.Logged.{HasOne, list_of_members, member_octets, part_octets, tbs_octets, without}
use Rattle.x509_log.specs.declared.part.LoggedPart.{LoggedPart}
use Rattle.x509_prim.specs.BitString.{bit_string}

-- ---- which extensions are left

kept : (oid : List ℕ) (xs : List Extension) → with_oid oid xs ≡ [] → without_oid oid xs ≡ xs
kept oid [] none = refl
kept oid (e ∷ xs) none =
    elim (cases_Bool (bytes_eq e.extn_id oid)) [
      | inl is ↦ absurd (let k = rw is at none in cc)
      | inr other ↦ rw other (ap (λ (l : List Extension). e ∷ l) (kept oid xs (rw other at none)))
    ]

pub left : (oid : List ℕ) (before : List Extension) (e : Extension) (behind : List Extension) → with_oid oid before ≡ [] → bytes_eq e.extn_id oid ≡ true → with_oid oid behind ≡ []
    → without_oid oid (before ++ e ∷ behind) ≡ before ++ behind
left oid [] e behind none is alone = rw is (kept oid behind alone)
left oid (x ∷ before) e behind none is alone =
    elim (cases_Bool (bytes_eq x.extn_id oid)) [
      | inl same ↦ absurd (let k = rw same at none in cc)
      | inr other ↦ rw other (ap (λ (l : List Extension). x ∷ l) (left oid before e behind (rw other at none) is alone))
    ]

-- those with the OID are the one, and those behind it
pub found : (oid : List ℕ) (before : List Extension) (e : Extension) (behind : List Extension) → with_oid oid before ≡ [] → bytes_eq e.extn_id oid ≡ true
    → with_oid oid (before ++ e ∷ behind) ≡ e ∷ with_oid oid behind
found oid [] e behind none is = rw is refl
found oid (x ∷ before) e behind none is =
    elim (cases_Bool (bytes_eq x.extn_id oid)) [
      | inl same ↦ absurd (let k = rw same at none in cc)
      | inr other ↦ rw other (found oid before e behind (rw other at none) is)
    ]

pub joined_append : {X : Type 0} (text : X → List ℕ) (xs ys : List X) → joined text (xs ++ ys) ≡ joined text xs ++ joined text ys
unfolding joined
joined_append text [] ys = refl
joined_append text (x ∷ xs) ys = ap (λ (l : List ℕ). text x ++ l) (joined_append text xs ys) ∙ sym (append_assoc (text x) (joined text xs) (joined text ys))

good_left : {X : Type 0} (good : X → Type 0) (before : List X) (e : X) (behind : List X) → all_good good (before ++ e ∷ behind) → all_good good (before ++ behind)
unfolding all_good
good_left good [] e behind g = g.1
good_left good (x ∷ before) e behind g = (g.0, good_left good before e behind g.1)

pub good_where : (xs : List Extension) → all_good extension.good xs → IfSome (where_any xs) extensions.good
good_where [] g = tt
good_where (x ∷ xs) g = g

pub good_members : (list : Option (List Extension)) → IfSome list extensions.good → all_good extension.good (members list)
unfolding all_good
good_members None g = tt
good_members (Some xs) g = g

-- ---- their octets

pub list_is : (xs : List Extension) → option_map (spelling extensions) (where_any xs) ≡ list_of_members (joined (spelling extension) xs)
unfolding element joined
list_is [] = refl
list_is (x ∷ xs) = refl

-- an element is no longer than another where its content is no longer
shorter : (tag : ℕ) (c d : List ℕ) → length c ≤ length d → length (element tag c) ≤ length (element tag d)
unfolding element length_octets
shorter tag c d h = grind (arith, nat_tests, length-append)

field_shorter : (m : List ℕ) (list : List Extension) → length m ≤ length (joined (spelling extension) list) → length (optional_octets (element 0xA3) (list_of_members m)) ≤ length (element 0xA3 (spelling extensions list))
field_shorter [] list h = omega arith
field_shorter (b ∷ m) list h = shorter 0xA3 (element 0x30 (b ∷ m)) (spelling extensions list) (shorter 0x30 (b ∷ m) (joined (spelling extension) list) h)

behind_shorter : (a b c d x y : List ℕ) → length x ≤ length y → length (a ++ (b ++ (c ++ (d ++ x)))) ≤ length (a ++ (b ++ (c ++ (d ++ y))))
behind_shorter a b c d x y h = simp length-append (omega arith)

whole_shorter : (front behind other : List ℕ) → length behind ≤ length other → length (element 0x30 (front ++ behind)) ≤ length (element 0x30 (front ++ other))
whole_shorter front behind other h = shorter 0x30 (front ++ behind) (front ++ other) (simp length-append (omega arith))

less_by_one : (before : List Extension) (e : Extension) (behind : List Extension)
    → length (joined (spelling extension) before ++ joined (spelling extension) behind) ≤ length (joined (spelling extension) before ++ joined (spelling extension) (e ∷ behind))
unfolding joined
less_by_one before e behind = simp length-append (omega arith)

-- ---- the fields of a signed part

version_text : (v : Version) → default_octets version_default (spelling (explicit 0 version)) v ≡ optional_octets (element 0xA0) (if is_first v then None else Some (spelling version v))
unfolding default_octets
version_text V1 = refl
version_text V2 = refl
version_text V3 = refl

field_text : {X : Type 0} (form : Form X) (value : Option X) → optional_octets (spelling form) value ≡ optional_octets (λ bytes. bytes) (option_map (spelling form) value)
field_text form None = refl
field_text form (Some value) = refl

inside_text : {X : Type 0} (n : ℕ) (form : Form X) (value : Option X) → optional_octets (spelling (explicit n form)) value ≡ optional_octets (element (160 + n)) (option_map (spelling form) value)
inside_text n form None = refl
inside_text n form (Some value) = refl

some_list : (list : Option (List Extension)) (before : List Extension) (e : Extension) (behind : List Extension) → members list ≡ before ++ e ∷ behind → (xs : List Extension) × (list ≡ Some xs) × (xs ≡ before ++ e ∷ behind)
some_list None [] e behind h = absurd cc
some_list None (x ∷ before) e behind h = absurd cc
some_list (Some xs) before e behind h = (xs, refl, h)

module _ {P : Type 0} (check : List ℕ → Result Unit ErrorKind) where
  -- a signed part is the SEQUENCE of its fields' elements
  pub spelling_is : (value : TbsCertificateInner P) → spelling (tbs_certificate check) value ≡ tbs_octets (tbs_spellings value)
  unfolding tbs_certificate_fields fields_octets
  spelling_is value = rw (version_text value.version, field_text (implicit 1 bit_string) value.issuer_unique_id, field_text (implicit 2 bit_string) value.subject_unique_id, inside_text 3 extensions value.extensions) refl

  module _ (part : TbsCertificateInner P) (good : (tbs_certificate check).good part) (within : length (spelling (tbs_certificate check) part) ≤ limit)
      (oid : List ℕ) (before : List Extension) (e : Extension) (behind : List Extension) (split : members part.extensions ≡ before ++ e ∷ behind)
      (none : with_oid oid before ≡ []) (is : bytes_eq e.extn_id oid ≡ true) (alone : with_oid oid behind ≡ []) where
    left_is : without_oid oid (members part.extensions) ≡ before ++ behind
    left_is = ap (without_oid oid) split ∙ left oid before e behind none is alone

    good_is : (tbs_certificate check).good (without oid part)
    unfolding tbs_certificate_fields fields_good
    good_is =
        let all : all_good extension.good (members part.extensions) = good_members part.extensions good.1.1.1.1.1 in
        let rest : all_good extension.good (before ++ behind) = good_left extension.good before e behind (subst (all_good extension.good) split all) in
        let list : IfSome (where_any (without_oid oid (members part.extensions))) extensions.good = good_where _ (subst (all_good extension.good) (sym left_is) rest) in
        (good.0, (good.1.0, (good.1.1.0, (good.1.1.1.0, (good.1.1.1.1.0, list)))))

    octets_are : spelling (tbs_certificate check) (without oid part) ≡ tbs_octets (record (tbs_spellings part) { extensions = list_of_members (joined (spelling extension) (before ++ behind)) })
    octets_are =
        spelling_is (without oid part)
        ∙ ap (λ (o : Option (List ℕ)). tbs_octets (record (tbs_spellings part) { extensions = o }))
        (list_is (without_oid oid (members part.extensions)) ∙ ap (λ (xs : List Extension). list_of_members (joined (spelling extension) xs)) left_is)

    within_is : length (tbs_octets (record (tbs_spellings part) { extensions = list_of_members (joined (spelling extension) (before ++ behind)) })) ≤ limit
    within_is =
        let list = some_list part.extensions before e behind split in
        let less : length (joined (spelling extension) (before ++ behind)) ≤ length (joined (spelling extension) list.0) =
        rw (list.2, joined_append (spelling extension) before behind, joined_append (spelling extension) before (e ∷ behind)) (less_by_one before e behind) in
        let field = field_shorter (joined (spelling extension) (before ++ behind)) list.0 less in
        let t = tbs_spellings part in
        let tail = behind_shorter t.subject t.subject_public_key_info (optional_octets (λ x. x) t.issuer_unique_id) (optional_octets (λ x. x) t.subject_unique_id) _ _ field in
        let whole = whole_shorter (front_octets t) _ _ tail in
        let was : length (tbs_octets (record t { extensions = Some (spelling extensions list.0) })) ≤ limit =
        subst (λ (o : Option (List Extension)). length (tbs_octets (record t { extensions = option_map (spelling extensions) o })) ≤ limit) list.1 (subst (λ (o : List ℕ). length o ≤ limit) (spelling_is part) within) in
        omega (arith, whole, was)

    -- what was cut spells the value without the extension
    pub cut_spells : (p : LoggedPart) → tbs_elements p.fields ≡ tbs_spellings part → member_octets p.members ≡ joined (spelling extension) (before ++ behind)
        → Spells (tbs_certificate check) (without oid part) (part_octets p)
    cut_spells p fields pieces =
        let same : part_octets p ≡ tbs_octets (record (tbs_spellings part) { extensions = list_of_members (joined (spelling extension) (before ++ behind)) }) =
        ap (λ (t : TbsElements). tbs_octets (record t { extensions = list_of_members (member_octets p.members) })) fields
        ∙ ap (λ (m : List ℕ). tbs_octets (record (tbs_spellings part) { extensions = list_of_members m })) pieces in
        (good_is, same ∙ sym octets_are, rw same within_is)

-- the same of a certificate
pub cut_found : {P : Type 0} (check : List ℕ → Result Unit ErrorKind) (value : CertificateInner P) (bytes : List ℕ) → Spells (certificate check) value bytes
    → (oid : List ℕ) (before : List Extension) (e : Extension) (behind : List Extension) → members value.tbs_certificate.extensions ≡ before ++ e ∷ behind
    → with_oid oid before ≡ [] → bytes_eq e.extn_id oid ≡ true → with_oid oid behind ≡ []
    → (p : LoggedPart) → tbs_elements p.fields ≡ tbs_spellings value.tbs_certificate → member_octets p.members ≡ joined (spelling extension) (before ++ behind)
    → HasOne oid value.tbs_certificate × Spells (tbs_certificate check) (without oid value.tbs_certificate) (part_octets p)
cut_found check value bytes spells oid before e behind split none is alone p fields pieces =
    let s = (stands check value bytes spells).1 in (
      ap (λ (xs : List Extension). length (with_oid oid xs)) split ∙ ap length (found oid before e behind none is ∙ ap (λ (l : List Extension). e ∷ l) alone),
      cut_spells check value.tbs_certificate s.0 s.2 oid before e behind split none is alone p fields pieces,
    )
