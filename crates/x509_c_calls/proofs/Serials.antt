-- Reading the content octets of an INTEGER as a serial number.
use Rattle.std.proofs.Common.{◌≡◌, ◌⊎◌, ℕ, true, false, List, Ok, Err, refl, sym, ◌∙◌, subst, inl, inr}
use Rattle.std.proofs.lemmas.Bool.{cases_Bool}
use Rattle.x509_base.specs.Serial.{serial_number, serial_number_lawful}
use Rattle.x509_der.specs.Outcome.{IsRefusal}
use Rattle.x509_der.specs.OutcomeLaws.{not_refused}
use Rattle.x509_der.specs.declared.error.ErrorKind.{ErrorKind}
use Rattle.x509_der.specs.declared.error.ErrorKind.TheVariants as errors
use Rattle.x509_der.specs.Form.{Form}
use Rattle.x509_prim.specs.Integer.{is_integer}

abbrev pub any_serial : Form (List ℕ)
any_serial = serial_number (λ content. Ok tt)

pub found : (content serial : List ℕ) → any_serial.reading 2 content ≡ Ok serial → (is_integer content ≡ true) × (content ≡ serial)
found content serial e =
    let sound = (serial_number_lawful (λ octets. Ok tt)).sound 2 content serial e in
    (subst (λ (x : List ℕ). is_integer x ≡ true) (sym sound.2) sound.0.0, sound.2)

none : (content : List ℕ) (e : ErrorKind) → any_serial.reading 2 content ≡ Err e → (e ≡ errors.Malformed) × (is_integer content ≡ false)
none content e r = (
  elim ((serial_number_lawful (λ octets. Ok tt)).refused 2 content e r) [ inl k ↦ k | inr k ↦ not_refused tt e k.1 ],
  elim (cases_Bool (is_integer content)) [
    | inl is ↦ not_refused content e (sym ((serial_number_lawful (λ octets. Ok tt)).complete content (is, refl)) ∙ r)
    | inr fails ↦ fails
  ],
)

pub refused : (content : List ℕ) (e : ErrorKind) → IsRefusal e (any_serial.reading 2 content) → (e ≡ errors.Memory) ⊎ ((e ≡ errors.Malformed) × (is_integer content ≡ false))
refused content errors.Memory r = inl refl
refused content errors.Overlength r = inr (none content errors.Overlength r)
refused content errors.Malformed r = inr (none content errors.Malformed r)
refused content errors.Failed r = inr (none content errors.Failed r)
refused content errors.SetDuplicate r = inr (none content errors.SetDuplicate r)
refused content errors.Value r = inr (none content errors.Value r)
