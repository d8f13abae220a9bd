-- Encodings one after the other are read as what they spell.
use Rattle.std.proofs.Common.{◌≡◌, ◌⊎◌, ℕ, List, Ok, Err, refl, sym, ap, ◌∙◌, inl, inr}
use Rattle.x509_c_calls.specs.Input.{RefusesEach, SpellEach}
use Rattle.x509_der.specs.Outcome.{IsRefusal}
use Rattle.x509_der.specs.declared.error.ErrorKind.{ErrorKind}
use Rattle.x509_der.specs.declared.error.ErrorKind.TheVariants.{Memory, Overlength, Malformed, Failed, SetDuplicate, Value}
use Rattle.x509_der.specs.List.{list_reading}
use Rattle.x509_der.specs.ListLaws.{list_lawful}
use Rattle.x509_der.specs.Form.{Form, IsForm}

module _ {X : Type 0} {R : ErrorKind → Type 0} (form : Form X) (lawful : IsForm R form) (bytes : List ℕ) where
  pub spelled : (values : List X) → list_reading form.reading bytes ≡ Ok values → SpellEach form values bytes
  spelled values is = (list_lawful form lawful).sound bytes values is

  no_values : (e : ErrorKind) → list_reading form.reading bytes ≡ Err e → (values : List X) → SpellEach form values bytes → ⊥
  no_values e is values s =
      let read : list_reading form.reading bytes ≡ Ok values = ap (list_reading form.reading) s.1 ∙ (list_lawful form lawful).complete values s.0 in
      absurd (let same : Err e ≡ Ok values = sym is ∙ read in cc)

  because : (e : ErrorKind) → list_reading form.reading bytes ≡ Err e → IsRefusal e (list_reading form.reading bytes) → (e ≡ Memory) ⊎ RefusesEach form R bytes e
  because e is r = inr ((list_lawful form lawful).refused bytes e is, no_values e is, r)

  pub refused : (e : ErrorKind) → IsRefusal e (list_reading form.reading bytes) → (e ≡ Memory) ⊎ RefusesEach form R bytes e
  refused Memory r = inl refl
  refused Overlength r = because Overlength r r
  refused Malformed r = because Malformed r r
  refused Failed r = because Failed r r
  refused SetDuplicate r = because SetDuplicate r r
  refused Value r = because Value r r
