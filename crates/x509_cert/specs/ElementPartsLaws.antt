-- What is read are the elements of a certificate, and bytes have one set of them at most.
use Rattle.std.proofs.Common.{◌≡◌, ℕ, ◌+◌, ◌≤◌, true, ltb, List, ◌++◌, length, Option, Some, None, IfSome, Result, Ok, Err, IfOk, IfErr, IsOkAnd, option_map, refl, sym, ap, subst, ◌∙◌, inl, inr, arith}
use Rattle.x509_der.specs.Element.{element, is_identifier, is_universal, limit}
use Rattle.x509_der.specs.Outcome.{◌>>=◌, GivesBy}
use Rattle.x509_der.specs.OutcomeLaws.{ok_is, bind_ok, bind_err, not_refused}
use Rattle.x509_der.specs.declared.error.Error.{Error}
use Rattle.x509_der.specs.declared.error.ErrorKind.{ErrorKind}
use Rattle.x509_der.specs.declared.error.ErrorKind.TheVariants.{Malformed}
use Rattle.x509_der.specs.Form.{IsForm, Contents, IsContents, whole_reading}
use Rattle.x509_der.specs.FormLaws.{under_lawful, whole_sound, whole_complete}
use Rattle.x509_der.specs.Frames.{Part, IsPart, BeginsIn, explicit, optional_octets, fields_octets, fields_good}
use Rattle.x509_der.specs.FrameLaws.{fields_lawful, pair_lawful, required_lawful, optional_lawful, explicit_lawful}
use Rattle.x509_cert.specs.declared.signed.certificate_slices.CertificateSlices.{CertificateSlices}
use Rattle.x509_cert.specs.declared.signed.certificate_slices.TbsCertificateSlices.{TbsCertificateSlices}
use Rattle.x509_cert.specs.Elements.{IsElement, TbsElements, front_octets, behind_octets, HasTbsElements, tbs_elements, CertificateElements, HasCertificateElements, certificate_elements}
use Rattle.x509_cert.specs.Signed.{IsSignedPart}
use Rattle.x509_cert.specs.SignedLaws.{content_shorter}
use Rattle.x509_cert.specs.ElementParts.{any_octets, any_element, seen_as, lent, lent_optional, lent_explicit, tbs_parts, tbs_contents, outer_parts, outer_contents, tbs_reading, certificate_reading}

-- no refusals besides Malformed
abbrev pub Never : ErrorKind → Type 0
Never e = ⊥

-- ---- a part whose values are seen as others

pub seen_lawful : {X Y : Type 0} (view : X → Y) (text : Y → List ℕ) (good : Y → Type 0) (part : Part X)
    → ((x : X) → text (view x) ≡ part.text x) → ((x : X) → part.good x → good (view x)) → ((y : Y) → good y → (x : X) × part.good x × (y ≡ view x))
    → IsPart Never part → IsPart Never (seen_as view text good part)
seen_lawful {X} {Y} view text good part texts seen from h = record {
  sound = λ bytes y rest e.
      let b = bind_ok (part.reading bytes) (λ x. Ok (view x.0, x.1)) (y, rest) e in
      let s = h.sound bytes b.0.0 b.0.1 b.1 in
      subst (λ (z : Y × List ℕ). good z.0 × (bytes ≡ text z.0 ++ z.1)) (ok_is (view b.0.0, b.0.1) (y, rest) b.2) (seen b.0.0 s.0, s.1 ∙ ap (λ (t : List ℕ). t ++ b.0.1) (sym (texts b.0.0)));
  complete = λ y rest g clear.
      let x = from y g in
      rw (x.2, texts x.0, h.complete x.0 rest x.1 clear) refl;
  refused = λ bytes e r.
      elim (bind_err (part.reading bytes) (λ x. Ok (view x.0, x.1)) e r) [
        | inl k ↦ h.refused bytes e k
        | inr k ↦ not_refused (view k.0.0, k.0.1) e k.2
      ];
  front = λ y g.
      let x = from y g in
      subst (λ (t : List ℕ). BeginsIn part.starts t) (sym (texts x.0) ∙ ap text (sym x.2)) (h.front x.0 x.1);
}

element_lawful : (tag : ℕ) → is_identifier tag ≡ true → IsForm Never (any_element tag)
element_lawful tag is = under_lawful tag any_octets is (record {
  sound = λ bytes value e. (tt, ok_is bytes value e);
  complete = λ value g. refl;
  refused = λ bytes e r. not_refused bytes e r;
})

-- the elements of an optional field
some_element : (tag : ℕ) (found : Option (List ℕ)) → IfSome found (IsElement tag) → (x : Option (List ℕ)) × IfSome x (λ content. Unit {0}) × (found ≡ option_map (element tag) x)
some_element tag None g = (None, tt, refl)
some_element tag (Some bytes) g = (Some g.0, tt, ap (λ (b : List ℕ). Some b) g.1)

is_element : (tag : ℕ) (x : Option (List ℕ)) → IfSome (option_map (element tag) x) (IsElement tag)
is_element tag None = tt
is_element tag (Some content) = (content, refl)

optional_joins : (tag : ℕ) (x : Option (List ℕ)) → optional_octets (λ bytes. bytes) (option_map (element tag) x) ≡ optional_octets (element tag) x
optional_joins tag None = refl
optional_joins tag (Some content) = refl

explicit_octets : (n tag : ℕ) (x : Option (List ℕ)) → optional_octets (element (160 + n)) (option_map (element tag) x) ≡ optional_octets (λ content. element (160 + n) (element tag content)) x
explicit_octets n tag None = refl
explicit_octets n tag (Some content) = refl

pub lent_lawful : (tag : ℕ) → is_identifier tag ≡ true → IsPart Never (lent tag)
unfolding lent
lent_lawful tag is = seen_lawful _ _ _ _ (λ x. refl) (λ x g. (x, refl)) (λ y g. (g.0, tt, g.1)) (required_lawful (any_element tag) (element_lawful tag is))

pub lent_optional_lawful : (tag : ℕ) → is_identifier tag ≡ true → IsPart Never (lent_optional tag)
unfolding lent_optional
lent_optional_lawful tag is = seen_lawful _ _ _ _ (optional_joins tag) (λ x g. is_element tag x) (some_element tag) (optional_lawful (any_element tag) (element_lawful tag is))

pub lent_explicit_lawful : (n tag : ℕ) → ltb n 31 ≡ true → is_identifier tag ≡ true → IsPart Never (lent_explicit n tag)
unfolding lent_explicit
lent_explicit_lawful n tag low is = seen_lawful _ _ _ _ (explicit_octets n tag) (λ x g. is_element tag x) (some_element tag) (optional_lawful (explicit n (any_element tag)) (explicit_lawful n (any_element tag) low (element_lawful tag is)))

-- ---- the parts of a certificate

integer_identifier : is_identifier 0x02 ≡ true
unfolding is_identifier is_universal
integer_identifier = refl

bit_string_identifier : is_identifier 0x03 ≡ true
unfolding is_identifier is_universal
bit_string_identifier = refl

sequence_identifier : is_identifier 0x30 ≡ true
unfolding is_identifier is_universal
sequence_identifier = refl

issuer_identifier : is_identifier 0x81 ≡ true
unfolding is_identifier is_universal
issuer_identifier = refl

subject_identifier : is_identifier 0x82 ≡ true
unfolding is_identifier is_universal
subject_identifier = refl

sequence_lent : IsPart Never (lent 0x30)
sequence_lent = lent_lawful 0x30 sequence_identifier

tbs_parts_lawful : IsPart Never tbs_parts
unfolding tbs_parts lent lent_optional lent_explicit
tbs_parts_lawful =
    pair_lawful _ _
    (pair_lawful _ _ (lent_explicit_lawful 0 0x02 refl integer_identifier) (pair_lawful _ _ (lent_lawful 0x02 integer_identifier) (pair_lawful _ _ sequence_lent (pair_lawful _ _ sequence_lent sequence_lent refl) refl) refl) refl)
    (pair_lawful _ _ sequence_lent (pair_lawful _ _ sequence_lent (pair_lawful _ _ (lent_optional_lawful 0x81 issuer_identifier) (pair_lawful _ _ (lent_optional_lawful 0x82 subject_identifier) (lent_explicit_lawful 3 0x30 refl sequence_identifier) refl) refl) refl) refl)
    refl

tbs_contents_lawful : IsContents Never tbs_contents
tbs_contents_lawful = fields_lawful _ _ tbs_parts (λ e. refl) (λ x. refl) tbs_parts_lawful

outer_contents_lawful : IsContents Never outer_contents
unfolding outer_parts lent
outer_contents_lawful = fields_lawful _ _ outer_parts (λ x. refl) (λ x. refl) (pair_lawful _ _ sequence_lent (pair_lawful _ _ sequence_lent (lent_lawful 0x03 bit_string_identifier) refl) refl)

-- ---- a SEQUENCE, and what is read of its content

sequence_sound : {X : Type 0} (contents : Contents X) → IsContents Never contents → (bytes : List ℕ) (x : X) → (whole_reading (any_element 0x30).reading bytes >>= contents.reading) ≡ Ok x → contents.good x × (bytes ≡ element 0x30 (contents.octets x))
sequence_sound contents h bytes x e =
    let b = bind_ok (whole_reading (any_element 0x30).reading bytes) contents.reading x e in
    let w = whole_sound (any_element 0x30) (element_lawful 0x30 sequence_identifier) bytes b.0 b.1 in
    let s = h.sound b.0 x b.2 in
    (s.0, w.1 ∙ ap (element 0x30) s.1)

sequence_complete : {X : Type 0} (contents : Contents X) → IsContents Never contents → (bytes : List ℕ) (x : X) → contents.good x → bytes ≡ element 0x30 (contents.octets x) → (whole_reading (any_element 0x30).reading bytes >>= contents.reading) ≡ Ok x
sequence_complete contents h bytes x g is =
    let w : whole_reading (any_element 0x30).reading (element 0x30 (contents.octets x)) ≡ Ok (contents.octets x) = whole_complete (any_element 0x30) (element_lawful 0x30 sequence_identifier) (contents.octets x) tt in
    rw (is, w) (h.complete x g)

-- ---- the signed part

pub tbs_sound : (bytes : List ℕ) (e : TbsElements) → length bytes ≤ limit → tbs_reading bytes ≡ Ok e → HasTbsElements bytes e
unfolding tbs_parts lent lent_optional lent_explicit fields_octets fields_good
tbs_sound bytes e within reads =
    let s = sequence_sound tbs_contents tbs_contents_lawful bytes e reads in
    let g = s.0 in
    record {
      whole = s.1;
      within = within;
      version = g.0.0;
      serial_number = g.0.1.0;
      signature = g.0.1.1.0;
      issuer = g.0.1.1.1.0;
      validity = g.0.1.1.1.1;
      subject = g.1.0;
      subject_public_key_info = g.1.1.0;
      issuer_unique_id = g.1.1.1.0;
      subject_unique_id = g.1.1.1.1.0;
      extensions = g.1.1.1.1.1;
    }

pub tbs_complete : (bytes : List ℕ) (e : TbsElements) → HasTbsElements bytes e → tbs_reading bytes ≡ Ok e
unfolding tbs_parts lent lent_optional lent_explicit fields_octets fields_good
tbs_complete bytes e h =
    let good : tbs_contents.good e = ((h.version, (h.serial_number, (h.signature, (h.issuer, h.validity)))), (h.subject, (h.subject_public_key_info, (h.issuer_unique_id, (h.subject_unique_id, h.extensions))))) in
    sequence_complete tbs_contents tbs_contents_lawful bytes e good h.whole

-- ---- the whole

outer_sound : (bytes : List ℕ) (x : List ℕ × (List ℕ × List ℕ)) → (whole_reading (any_element 0x30).reading bytes >>= outer_contents.reading) ≡ Ok x → (IsElement 0x30 x.1.0 × IsElement 0x03 x.1.1) × (bytes ≡ element 0x30 (x.0 ++ (x.1.0 ++ x.1.1)))
unfolding outer_parts lent fields_octets fields_good
outer_sound bytes x reads = let s = sequence_sound outer_contents outer_contents_lawful bytes x reads in ((s.0.1.0, s.0.1.1), s.1)

outer_complete : (bytes : List ℕ) (x : List ℕ × (List ℕ × List ℕ)) → IsElement 0x30 x.0 → IsElement 0x30 x.1.0 → IsElement 0x03 x.1.1 → bytes ≡ element 0x30 (x.0 ++ (x.1.0 ++ x.1.1)) → (whole_reading (any_element 0x30).reading bytes >>= outer_contents.reading) ≡ Ok x
unfolding outer_parts lent fields_octets fields_good
outer_complete bytes x a b c is = sequence_complete outer_contents outer_contents_lawful bytes x (a, (b, c)) is

abbrev with_fields : List ℕ × (List ℕ × List ℕ) → TbsElements → Result CertificateElements ErrorKind
with_fields x fields = Ok (record { tbs_certificate = x.0; fields = fields; signature_algorithm = x.1.0; signature = x.1.1 })

pub certificate_sound : (bytes : List ℕ) (e : CertificateElements) → length bytes ≤ limit → certificate_reading bytes ≡ Ok e → HasCertificateElements bytes e
certificate_sound bytes e within reads =
    let a = bind_ok (whole_reading (any_element 0x30).reading bytes >>= outer_contents.reading) (λ x. tbs_reading x.0 >>= with_fields x) e reads in
    let x = a.0 in
    let o = outer_sound bytes x a.1 in
    let b = bind_ok (tbs_reading x.0) (with_fields x) e a.2 in
    let fits : length x.0 ≤ limit = omega (arith, content_shorter 0x30 x.0 (x.1.0 ++ x.1.1), ap length o.1, within) in
    let t = tbs_sound x.0 b.0 fits b.1 in
    subst (λ (e : CertificateElements). HasCertificateElements bytes e) (ok_is (record { tbs_certificate = x.0; fields = b.0; signature_algorithm = x.1.0; signature = x.1.1 }) e b.2) (record { whole = o.1; within = within; tbs_certificate = t; signature_algorithm = o.0.0; signature = o.0.1 })

pub certificate_complete : (bytes : List ℕ) (e : CertificateElements) → HasCertificateElements bytes e → certificate_reading bytes ≡ Ok e
certificate_complete bytes e h =
    let o = outer_complete bytes (e.tbs_certificate, (e.signature_algorithm, e.signature)) (front_octets e.fields ++ behind_octets e.fields, h.tbs_certificate.whole) h.signature_algorithm h.signature h.whole in
    rw (o, tbs_complete e.tbs_certificate e.fields h.tbs_certificate) refl

-- ---- bytes have one set of elements at most

pub one_tbs : (bytes : List ℕ) (d e : TbsElements) → HasTbsElements bytes d → HasTbsElements bytes e → d ≡ e
one_tbs bytes d e p q = ok_is d e (sym (tbs_complete bytes d p) ∙ tbs_complete bytes e q)

pub one_certificate : (bytes : List ℕ) (d e : CertificateElements) → HasCertificateElements bytes d → HasCertificateElements bytes e → d ≡ e
one_certificate bytes d e p q = ok_is d e (sym (certificate_complete bytes d p) ∙ certificate_complete bytes e q)

-- the signed part among them is that of the bytes
pub is_signed : (bytes : List ℕ) (e : CertificateElements) → HasCertificateElements bytes e → IsSignedPart bytes e.tbs_certificate
is_signed bytes e h = record { content = front_octets e.fields ++ behind_octets e.fields; behind = e.signature_algorithm ++ e.signature; part = h.tbs_certificate.whole; whole = h.whole; within = h.within }

-- ---- what a call answers

found_by : {S E : Type 0} (view : S → E) (Q : E → Type 0) (reading : Result E ErrorKind) → ((e : E) → reading ≡ Ok e → Q e) → (r : Result S Error) → GivesBy view r reading → IfOk r (λ s. Q (view s))
found_by view Q reading sound (Ok s) g = sound (view s) g
found_by view Q reading sound (Err k) g = tt

refused_by : {S E : Type 0} (view : S → E) (Q : E → Type 0) (reading : Result E ErrorKind) → ((e : E) → Q e → reading ≡ Ok e) → (r : Result S Error) → GivesBy view r reading → IfErr r (λ k. k.kind ≡ Malformed) → IfErr r (λ k. (k.kind ≡ Malformed) × ((e : E) → ¬ (Q e)))
refused_by view Q reading complete (Ok s) g m = tt
refused_by view Q reading complete (Err k) g m =
    let is : reading ≡ Err Malformed = rw m at g in
    (m, λ e q. not_refused e Malformed (sym (complete e q) ∙ is))

one_by : {S E : Type 0} (view : S → E) (Q : E → Type 0) (reading : Result E ErrorKind) → ((e : E) → Q e → reading ≡ Ok e) → (r : Result S Error) → GivesBy view r reading → IfErr r (λ k. k.kind ≡ Malformed) → (e : E) → Q e → IsOkAnd r (λ s. view s ≡ e)
one_by view Q reading complete (Ok s) g m e q = ok_is (view s) e (sym g ∙ complete e q)
one_by view Q reading complete (Err k) g m e q =
    let is : reading ≡ Err Malformed = rw m at g in
    absurd (not_refused e Malformed (sym (complete e q) ∙ is))

-- of the signed part, and of the whole, within the limit
module _ (bytes : List ℕ) (within : length bytes ≤ limit) where
  pub tbs_answer : (r : Result TbsCertificateSlices Error) → GivesBy tbs_elements r (tbs_reading bytes) → IfErr r (λ k. k.kind ≡ Malformed)
      → IfOk r (λ s. HasTbsElements bytes (tbs_elements s)) × IfErr r (λ k. (k.kind ≡ Malformed) × ((e : TbsElements) → ¬ (HasTbsElements bytes e))) × ((e : TbsElements) → HasTbsElements bytes e → IsOkAnd r (λ s. tbs_elements s ≡ e))
  tbs_answer r g m = (
    found_by tbs_elements (HasTbsElements bytes) (tbs_reading bytes) (λ e. tbs_sound bytes e within) r g,
    refused_by tbs_elements (HasTbsElements bytes) (tbs_reading bytes) (tbs_complete bytes) r g m,
    one_by tbs_elements (HasTbsElements bytes) (tbs_reading bytes) (tbs_complete bytes) r g m,
  )

  pub certificate_answer : (r : Result CertificateSlices Error) → GivesBy certificate_elements r (certificate_reading bytes) → IfErr r (λ k. k.kind ≡ Malformed)
      → IfOk r (λ s. HasCertificateElements bytes (certificate_elements s)) × IfErr r (λ k. (k.kind ≡ Malformed) × ((e : CertificateElements) → ¬ (HasCertificateElements bytes e))) × ((e : CertificateElements) → HasCertificateElements bytes e → IsOkAnd r (λ s. certificate_elements s ≡ e))
  certificate_answer r g m = (
    found_by certificate_elements (HasCertificateElements bytes) (certificate_reading bytes) (λ e. certificate_sound bytes e within) r g,
    refused_by certificate_elements (HasCertificateElements bytes) (certificate_reading bytes) (certificate_complete bytes) r g m,
    one_by certificate_elements (HasCertificateElements bytes) (certificate_reading bytes) (certificate_complete bytes) r g m,
  )
