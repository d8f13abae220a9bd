-- The texts of character strings.
use Rattle.std.proofs.Common.{◌≡◌, ◌⊎◌, ◌<◌, ◌≤◌, ℕ, length, List, encode_utf8_all, Some, Result, Ok, Err, refl, sym, ap, inl, inr, ◌∙◌}
use Rattle.std.proofs.lemmas.Bool.{cases_Bool, cases_lt}
use Rattle.x509_c_calls.specs.Status.{Fills}
use Rattle.x509_c_calls.specs.StringTexts.{IsStringText, IsText, bmp_text, plain_text, text_in}
use Rattle.x509_c_calls.specs.declared.status.status.Status.{Status}
use Rattle.x509_c_calls.specs.declared.status.status.Status.TheVariants.{Refused}
use Rattle.x509_der.specs.Outcome.{IsRefusal}
use Rattle.x509_der.specs.OutcomeLaws.{ok_is, test_ok}
use Rattle.x509_der.specs.Tested.{tested_reading}
use Rattle.x509_der.specs.Any.{any}
use Rattle.x509_der.specs.Element.{limit}
use Rattle.x509_der.specs.Form.{Spells}
use Rattle.x509_der.specs.declared.any.Any.{Any}
use Rattle.x509_der.specs.declared.error.ErrorKind.{ErrorKind}
use Rattle.x509_der.specs.declared.error.ErrorKind.TheVariants.{Memory, Overlength, Malformed, Failed, SetDuplicate, Value}
use Rattle.x509_der.specs.declared.tag.Tag.{Tag}
use Rattle.x509_der.specs.declared.tag.Tag.TheVariants.{UniversalString, BmpString}
use Rattle.x509_prim.specs.Bmp.{is_bmp, bmp_chars}

-- a refusal fills in nothing
pub refused_fill : (answers : Result (List ℕ) ErrorKind → Type 0) (room : List ℕ) (was : ℕ) (e : ErrorKind) (status : Status) → status ≡ Refused e → (e ≡ Memory) ⊎ answers (Err e) → Fills answers room room was was status
unfolding Fills
refused_fill answers room was e status is why = rw is (why, refl)

-- ---- characters of two octets each

pub bmp_is : (octets string text : List ℕ) → tested_reading is_bmp octets ≡ Ok string → text ≡ encode_utf8_all (bmp_chars string) → bmp_text octets ≡ Some text
unfolding bmp_text tested_reading
bmp_is octets string text h e =
    let t = test_ok (is_bmp octets) Malformed (Ok octets) string h in
    rw t.0 (ap Some (ap (λ x. encode_utf8_all (bmp_chars x)) (ok_is octets string t.1) ∙ sym e))

no_bmp : (octets : List ℕ) (e : ErrorKind) → tested_reading is_bmp octets ≡ Err e → IsText (bmp_text octets) (Err e)
unfolding bmp_text tested_reading
no_bmp octets e h = elim (cases_Bool (is_bmp octets)) [
  | inl is ↦ absurd (let k = rw is at h in cc)
  | inr other ↦ (let k = rw other at h in cc, rw other refl)
]

pub bmp_refused : (octets : List ℕ) (e : ErrorKind) → IsRefusal e (tested_reading is_bmp octets) → (e ≡ Memory) ⊎ IsText (bmp_text octets) (Err e)
bmp_refused octets Memory h = inl refl
bmp_refused octets Overlength h = inr (no_bmp octets Overlength h)
bmp_refused octets Malformed h = inr (no_bmp octets Malformed h)
bmp_refused octets Failed h = inr (no_bmp octets Failed h)
bmp_refused octets SetDuplicate h = inr (no_bmp octets SetDuplicate h)
bmp_refused octets Value h = inr (no_bmp octets Value h)

-- ---- characters of other strings

pub other_text : (tag : Tag) (octets : List ℕ) → (tag ≡ BmpString → ⊥) → (tag ≡ UniversalString → ⊥) → text_in tag octets ≡ plain_text tag octets
other_text UniversalString octets bmp universal = absurd (universal refl)
other_text BmpString octets bmp universal = absurd (bmp refl)
other_text _ octets bmp universal = refl

-- ---- the string that bytes are

pub string_is : (bytes : List ℕ) (it : Any) → Spells any it bytes → ((value : Any) → Spells any value bytes → it ≡ value) → (answer : Result (List ℕ) ErrorKind) → IsText (text_in it.tag it.value) answer → IsStringText bytes answer
string_is bytes it spells only (Ok text) found = (it, spells, found)
string_is bytes it spells only (Err e) refused = inr (spells.2, refused.0, λ value other. ap (λ (a : Any). text_in a.tag a.value) (sym (only value other)) ∙ refused.1)

malformed_is_other : {Q : Type 0} → Malformed ≡ Memory → Q
malformed_is_other e = absurd cc

-- and why there is none
pub no_string : {W : Type 0} (bytes : List ℕ) (e : ErrorKind) → (limit < length bytes → e ≡ Overlength) → (length bytes ≤ limit → ((e ≡ Memory) × W) ⊎ ((e ≡ Malformed) ⊎ ⊥))
    → (length bytes ≤ limit → (value : Any) → Spells any value bytes → (e ≡ Memory) × W) → (e ≡ Memory) ⊎ IsStringText bytes (Err e)
no_string bytes e long refused only = elim (cases_lt limit (length bytes)) [
  | inl over ↦ inr (inl (over, long over))
  | inr fits ↦ elim (refused fits) [
    | inl memory ↦ inl memory.0
    | inr other ↦ elim other [
      | inl bad ↦ inr (inr (fits, bad, λ it spells. malformed_is_other (sym bad ∙ (only fits it spells).0)))
      | inr never ↦ absurd never
    ]
  ]
]
