-- What bytes end with.
use Rattle.std.proofs.Common.{◌≡◌, ℕ, ◌+◌, ◌-◌, List, [], ◌∷◌, ◌++◌, length, drop, Option, Some, None, is_some, false, option_map, Result, refl, sym, ap, subst, ◌∙◌, arith, append_assoc, length-append}
use Rattle.std.proofs.lemmas.List.{append-nil, drop_at}
use Rattle.std.specs.Prelude.{MatchOption}
use Rattle.x509_base.specs.AlgorithmIdentifier.{algorithm_identifier}
use Rattle.x509_base.specs.Serial.{serial_number}
use Rattle.x509_base.specs.SubjectPublicKeyInfo.{subject_public_key_info}
use Rattle.x509_base.specs.Validity.{validity}
use Rattle.x509_c_calls.proofs.Members.{content_is, critical_text, oid_text, value_text}
use Rattle.x509_c_calls.proofs.Parts.{behind_part, extensions_text, laid_out, part_text, version_text, whole}
use Rattle.x509_c_calls.specs.Place.{EndsWith, IsAt}
use Rattle.x509_c_calls.specs.View.{IsOptionAt, behind_algorithm, behind_issuer, behind_issuer_id, behind_key, behind_serial_number, behind_subject, behind_subject_id}
use Rattle.x509_c_calls.specs.declared.place.span.Span.{Span}
use Rattle.x509_cert.specs.Certificate.{certificate}
use Rattle.x509_cert.specs.declared.certificate.certificate.CertificateInner.{CertificateInner}
use Rattle.x509_der.specs.Element.{element, header, length_octets}
use Rattle.x509_der.specs.Form.{Spells, spelling}
use Rattle.x509_der.specs.Frames.{explicit, implicit, optional_octets}
use Rattle.x509_der.specs.List.{joined}
use Rattle.x509_der.specs.declared.error.ErrorKind.{ErrorKind}
use Rattle.x509_ext.specs.Extension.{extension, extensions}
use Rattle.x509_ext.specs.declared.extension.Extension.{Extension}
use Rattle.x509_name.specs.Names.{name}
use Rattle.x509_prim.specs.BitString.{bit_string}

-- ---- parts of what bytes end with

behind_header : (front octets content more : List ℕ) (tag : ℕ) → front ++ ((tag ∷ (octets ++ content)) ++ more) ≡ (front ++ (tag ∷ octets)) ++ (content ++ more)
behind_header front octets content more tag = simp append_assoc refl

-- the content of an element
pub content_end : (tag : ℕ) (content more bytes : List ℕ) → EndsWith (element tag content) more bytes → EndsWith content more bytes
unfolding element
content_end tag content more bytes h = (h.0 ++ (tag ∷ length_octets (length content)), h.1 ∙ behind_header h.0 (length_octets (length content)) content more tag)

regroup : (front first text more : List ℕ) → front ++ ((first ++ text) ++ more) ≡ (front ++ first) ++ (text ++ more)
regroup front first text more = simp append_assoc refl

-- what stands behind another part
pub last_end : (first text more bytes : List ℕ) → EndsWith (first ++ text) more bytes → EndsWith text more bytes
last_end first text more bytes h = (h.0 ++ first, h.1 ∙ regroup h.0 first text more)

-- what another part stands behind
pub first_end : (text others more bytes : List ℕ) → EndsWith (text ++ others) more bytes → EndsWith text (others ++ more) bytes
first_end text others more bytes h = (h.0, h.1 ∙ ap (λ x. h.0 ++ x) (append_assoc text others more))

-- what stands behind a part
pub next_end : (text others more bytes : List ℕ) → EndsWith text (others ++ more) bytes → EndsWith others more bytes
next_end text others more bytes h = (h.0 ++ text, h.1 ∙ sym (append_assoc h.0 text (others ++ more)))

-- where it stands, by its end
pub ends_at : (text more bytes : List ℕ) (end len : ℕ) → EndsWith text more bytes → len ≡ length text → end + length more ≡ length bytes → IsAt text more bytes (record { place = end - len; len = len })
ends_at text more bytes end len h is_len at =
    let total = ap length h.1 in
    let place : length h.0 ≡ end - len = omega (arith, total, length-append h.0 (text ++ more), length-append text more) in
    (ap (drop (end - len)) h.1 ∙ drop_at h.0 (text ++ more) (end - len) place, is_len, omega (arith, total, place, length-append h.0 (text ++ more)))

-- the end of what two parts stand behind
pub end_is : (text first second bytes : List ℕ) (a b end : ℕ) → EndsWith text (first ++ second) bytes → a ≡ length first → b ≡ length second → end ≡ length bytes - a - b → end + length (first ++ second) ≡ length bytes
end_is text first second bytes a b end h is_a is_b is =
    omega (arith, ap length h.1, length-append h.0 (text ++ (first ++ second)), length-append text (first ++ second), length-append first second)

-- the end of what stands in front of another part
pub end_before : (text others more bytes : List ℕ) (end len at : ℕ) → EndsWith text (others ++ more) bytes → end + length more ≡ length bytes → len ≡ length others → at ≡ end - len → at + length (others ++ more) ≡ length bytes
end_before text others more bytes end len at h whole same is =
    omega (arith, ap length h.1, length-append h.0 (text ++ (others ++ more)), length-append text (others ++ more), length-append others more)

-- ---- an element, by the end of its content

in_front : (tag : ℕ) (octets content more : List ℕ) → (tag ∷ (octets ++ content)) ++ more ≡ (tag ∷ octets) ++ (content ++ more)
in_front tag octets content more = simp append_assoc refl

header_end : (tag : ℕ) (content more bytes : List ℕ) → EndsWith (element tag content) more bytes → EndsWith (header tag (length content)) (content ++ more) bytes
unfolding element
header_end tag content more bytes h = (h.0, h.1 ∙ ap (λ x. h.0 ++ x) (in_front tag (length_octets (length content)) content more))

header_len_is : (tag : ℕ) (content more : List ℕ) → length (header tag (length content) ++ (content ++ more)) ≡ length (element tag content ++ more)
unfolding element
header_len_is tag content more = ap length (sym (in_front tag (length_octets (length content)) content more))

element_begin : (tag : ℕ) (content more : List ℕ) (begin all : ℕ) → begin + length (header tag (length content) ++ (content ++ more)) ≡ all → begin + length (element tag content ++ more) ≡ all
element_begin tag content more begin all at = ap (λ n. begin + n) (sym (header_len_is tag content more)) ∙ at

some_is : (xs ys : List ℕ) → Some xs ≡ Some ys → xs ≡ ys
some_is xs ys e = cc

-- a list of extensions in its tag, from the end of the list to the middle, where it begins, and to the begin of the tag
pub list_stands : (list : List ℕ) (value : Option (List Extension)) (more bytes : List ℕ) (middle begin : ℕ) (span : Span) → Some list ≡ option_map (spelling extensions) value
    → EndsWith (optional_octets (spelling (explicit 3 extensions)) value) more bytes
    → ((text : List ℕ) → EndsWith text more bytes → length list ≡ length text → IsAt text more bytes span × (middle + length (text ++ more) ≡ length bytes))
    → ((tag : ℕ) (text behind : List ℕ) → EndsWith (header tag (length text)) behind bytes → length text ≡ length list → middle + length behind ≡ length bytes → begin + length (header tag (length text) ++ behind) ≡ length bytes)
    → IsOptionAt extensions value more bytes span × (begin + length (optional_octets (spelling (explicit 3 extensions)) value ++ more) ≡ length bytes)
list_stands list None more bytes middle begin span e h inside outside = absurd cc
list_stands list (Some xs) more bytes middle begin span e h inside outside =
    let text = spelling extensions xs in
    let same : list ≡ text = some_is list text e in
    let found = inside text (content_end 163 text more bytes h) (ap length same) in
    (found.0, element_begin 163 text more begin (length bytes) (outside 163 text (text ++ more) (header_end 163 text more bytes h) (ap length (sym same)) found.1))

-- ---- extensions

joined_append : {X : Type 0} (text : X → List ℕ) (xs ys : List X) → joined text (xs ++ ys) ≡ joined text xs ++ joined text ys
unfolding joined
joined_append text [] ys = refl
joined_append text (x ∷ xs) ys = ap (λ t. text x ++ t) (joined_append text xs ys) ∙ sym (append_assoc (text x) (joined text xs) (joined text ys))

one_of : (before others : List Extension) (e : Extension) → joined (spelling extension) (before ++ e ∷ others) ≡ joined (spelling extension) before ++ (spelling extension e ++ joined (spelling extension) others)
unfolding joined
one_of before others e = joined_append (spelling extension) before (e ∷ others)

pub match_none : {A : Type 0} (o : Option A) (P : Type 0) (Q : A → Type 0) → MatchOption o P Q → is_some o ≡ false → P
match_none None P Q h none = h
match_none (Some x) P Q h none = absurd cc

-- the octets of one of the extensions
pub value_end : (all before others : List Extension) (e : Extension) (more bytes : List ℕ) → all ≡ before ++ e ∷ others → EndsWith (joined (spelling extension) all) more bytes → EndsWith e.extn_value (joined (spelling extension) others ++ more) bytes
value_end all before others e more bytes is h =
    let text = ap (joined (spelling extension)) is ∙ one_of before others e in
    let whole = subst (λ (t : List ℕ). EndsWith t more bytes) text h in
    let here = first_end (spelling extension e) (joined (spelling extension) others) more bytes (last_end (joined (spelling extension) before) (spelling extension e ++ joined (spelling extension) others) more bytes whole) in
    let inside = subst (λ (t : List ℕ). EndsWith t (joined (spelling extension) others ++ more) bytes) (content_is e) (content_end 48 (extension.content e) (joined (spelling extension) others ++ more) bytes here) in
    let octets = last_end (critical_text e) (value_text e) (joined (spelling extension) others ++ more) bytes (last_end (oid_text e) (critical_text e ++ value_text e) (joined (spelling extension) others ++ more) bytes inside) in
    content_end 4 e.extn_value (joined (spelling extension) others ++ more) bytes octets

-- those of a certificate
module _ {P : Type 0} (check : List ℕ → Result Unit ErrorKind) (value : CertificateInner P) (bytes : List ℕ) (spells : Spells (certificate check) value bytes) where
  part_end : EndsWith (part_text check value bytes spells) (behind_part check value bytes spells) bytes
  part_end =
      let part = part_text check value bytes spells in
      let behind = behind_part check value bytes spells in
      let all : EndsWith (element 48 (element 48 part ++ behind)) [] bytes = ([], whole check value bytes spells ∙ sym (append-nil (element 48 (element 48 part ++ behind)))) in
      let front = first_end (element 48 part) behind [] bytes (content_end 48 (element 48 part ++ behind) [] bytes all) in
      content_end 48 part behind bytes (subst (λ (t : List ℕ). EndsWith (element 48 part) t bytes) (append-nil behind) front)

  pub list_end : (xs : List Extension) → Some xs ≡ value.tbs_certificate.extensions → EndsWith (joined (spelling extension) xs) (behind_part check value bytes spells) bytes
  list_end xs is =
      let t = value.tbs_certificate in
      let behind = behind_part check value bytes spells in
      let others = optional_octets (spelling (explicit 3 extensions)) t.extensions in
      let subject_id = optional_octets (spelling (implicit 2 bit_string)) t.subject_unique_id in
      let issuer_id = optional_octets (spelling (implicit 1 bit_string)) t.issuer_unique_id in
      let key = spelling subject_public_key_info t.subject_public_key_info in
      let front = version_text check value bytes spells ++ (spelling (serial_number check) t.serial_number ++ (spelling algorithm_identifier t.signature ++ (spelling name t.issuer ++ spelling validity t.validity))) in
      let a = last_end front (spelling name t.subject ++ (key ++ (issuer_id ++ (subject_id ++ others)))) behind bytes part_end in
      let b = last_end (spelling name t.subject) (key ++ (issuer_id ++ (subject_id ++ others))) behind bytes a in
      let d = last_end key (issuer_id ++ (subject_id ++ others)) behind bytes b in
      let e = last_end subject_id others behind bytes (last_end issuer_id (subject_id ++ others) behind bytes d) in
      let text : optional_octets (spelling (explicit 3 extensions)) t.extensions ≡ element 163 (element 48 (joined (spelling extension) xs)) = sym (ap (optional_octets (spelling (explicit 3 extensions))) is) in
      let f = subst (λ (u : List ℕ). EndsWith u behind bytes) text e in
      content_end 48 (joined (spelling extension) xs) behind bytes (content_end 163 (element 48 (joined (spelling extension) xs)) behind bytes f)

  -- each field ends where the next one begins
  pub serial_number_end : EndsWith (spelling (serial_number check) value.tbs_certificate.serial_number) (behind_serial_number value) bytes
  serial_number_end =
      next_end (version_text check value bytes spells) (spelling (serial_number check) value.tbs_certificate.serial_number) (behind_serial_number value) bytes
      (part_end.0, part_end.1 ∙ ap (λ x. part_end.0 ++ x) (laid_out check value bytes spells (behind_part check value bytes spells)))

  pub algorithm_end : EndsWith (spelling algorithm_identifier value.tbs_certificate.signature) (behind_algorithm value) bytes
  algorithm_end = next_end (spelling (serial_number check) value.tbs_certificate.serial_number) (spelling algorithm_identifier value.tbs_certificate.signature) (behind_algorithm value) bytes serial_number_end

  pub issuer_end : EndsWith (spelling name value.tbs_certificate.issuer) (behind_issuer value) bytes
  issuer_end = next_end (spelling algorithm_identifier value.tbs_certificate.signature) (spelling name value.tbs_certificate.issuer) (behind_issuer value) bytes algorithm_end

  pub validity_end : EndsWith (spelling validity value.tbs_certificate.validity) (spelling name value.tbs_certificate.subject ++ behind_subject value) bytes
  validity_end = next_end (spelling name value.tbs_certificate.issuer) (spelling validity value.tbs_certificate.validity) (spelling name value.tbs_certificate.subject ++ behind_subject value) bytes issuer_end

  pub subject_end : EndsWith (spelling name value.tbs_certificate.subject) (behind_subject value) bytes
  subject_end = next_end (spelling validity value.tbs_certificate.validity) (spelling name value.tbs_certificate.subject) (behind_subject value) bytes validity_end

  pub key_end : EndsWith (spelling subject_public_key_info value.tbs_certificate.subject_public_key_info) (behind_key value) bytes
  key_end = next_end (spelling name value.tbs_certificate.subject) (spelling subject_public_key_info value.tbs_certificate.subject_public_key_info) (behind_key value) bytes subject_end

  pub issuer_id_end : EndsWith (optional_octets (spelling (implicit 1 bit_string)) value.tbs_certificate.issuer_unique_id) (behind_issuer_id value) bytes
  issuer_id_end = next_end (spelling subject_public_key_info value.tbs_certificate.subject_public_key_info) (optional_octets (spelling (implicit 1 bit_string)) value.tbs_certificate.issuer_unique_id) (behind_issuer_id value) bytes key_end

  pub subject_id_end : EndsWith (optional_octets (spelling (implicit 2 bit_string)) value.tbs_certificate.subject_unique_id) (behind_subject_id value) bytes
  subject_id_end = next_end (optional_octets (spelling (implicit 1 bit_string)) value.tbs_certificate.issuer_unique_id) (optional_octets (spelling (implicit 2 bit_string)) value.tbs_certificate.subject_unique_id) (behind_subject_id value) bytes issuer_id_end

  pub extensions_end : EndsWith (extensions_text check value bytes spells) (behind_part check value bytes spells) bytes
  extensions_end = next_end (optional_octets (spelling (implicit 2 bit_string)) value.tbs_certificate.subject_unique_id) (extensions_text check value bytes spells) (behind_part check value bytes spells) bytes subject_id_end
