-- Contents that are the octets which pass a test: a value is seen as its content octets.
use Rattle.std.specs.Prelude.{◌≡◌, ℕ, Bool, true, List, Result, Ok, Err, if◌then◌else◌, refl}
use Rattle.std.proofs.Common.{inl, inr, sym, subst}
use Rattle.x509_der.specs.declared.error.ErrorKind.{ErrorKind}
use Rattle.x509_der.specs.declared.error.ErrorKind.TheVariants.{Malformed}
use Rattle.x509_der.specs.declared.tag.Tag.{Tag}
use Rattle.x509_der.specs.OutcomeLaws.{ok_is, test_ok, test_err}
use Rattle.x509_der.specs.Form.{Form, IsForm, Contents, IsContents, universal}
use Rattle.x509_der.specs.FormLaws.{universal_lawful}

unfoldable pub tested_reading : (List ℕ → Bool) → List ℕ → Result (List ℕ) ErrorKind
tested_reading is_good bytes = if is_good bytes then Ok bytes else Err Malformed

-- the octets that pass the test
abbrev pub tested_contents : (List ℕ → Bool) → Contents (List ℕ)
tested_contents is_good = record { octets = λ octets. octets; good = λ octets. is_good octets ≡ true; reading = tested_reading is_good }

abbrev pub tested : Tag → (List ℕ → Bool) → Form (List ℕ)
tested tag is_good = universal tag (tested_contents is_good)

tested_sound : (is_good : List ℕ → Bool) (bytes octets : List ℕ) → tested_reading is_good bytes ≡ Ok octets → (is_good octets ≡ true) × (bytes ≡ octets)
unfolding tested_reading
tested_sound is_good bytes octets e =
    let t = test_ok (is_good bytes) Malformed (Ok bytes) octets e in
    subst (λ (x : List ℕ). (is_good x ≡ true) × (bytes ≡ x)) (ok_is bytes octets t.1) (t.0, refl)

tested_complete : (is_good : List ℕ → Bool) (octets : List ℕ) → is_good octets ≡ true → tested_reading is_good octets ≡ Ok octets
unfolding tested_reading
tested_complete is_good octets good = rw good refl

tested_refused : (is_good : List ℕ → Bool) (bytes : List ℕ) (e : ErrorKind) → tested_reading is_good bytes ≡ Err e → e ≡ Malformed
unfolding tested_reading
tested_refused is_good bytes e h = elim (test_err (is_good bytes) Malformed (Ok bytes) e h) [ inl j ↦ absurd (let k = j in cc) | inr j ↦ sym j ]

pub tested_contents_lawful : {R : ErrorKind → Type 0} (is_good : List ℕ → Bool) → IsContents R (tested_contents is_good)
tested_contents_lawful is_good = record { sound = tested_sound is_good; complete = tested_complete is_good; refused = λ bytes e r. inl (tested_refused is_good bytes e r) }

pub tested_lawful : {R : ErrorKind → Type 0} (tag : Tag) (is_good : List ℕ → Bool) → IsForm R (tested tag is_good)
tested_lawful tag is_good = universal_lawful tag (tested_contents is_good) (tested_contents_lawful is_good)
