-- What a look-up of an extension says of the values that it may have.
use Rattle.std.proofs.Common.{◌≡◌, ◌↔◌, Bool, true, false, List, [], ◌∷◌, Some, None, Ok, Err, refl, sym, ◌∙◌, ap}
use Rattle.std.proofs.lemmas.Bool.{true≢false}
use Rattle.std.specs.Bool.{IsTrue}
use Rattle.x509_der.specs.Form.{Form, Spells}
use Rattle.x509_der.specs.declared.error.Error.{Error}
use Rattle.x509_der.specs.declared.error.ErrorKind.{ErrorKind}
use Rattle.x509_der.specs.declared.error.ErrorKind.TheVariants.{Memory}
use Rattle.x509_ext.specs.LookUp.{Finds}
use Rattle.x509_ext.specs.declared.extension.Extension.{Extension}

-- the one extension of these has octets that spell the value
abbrev pub Holds : {T : Type 0} → Form T → List Extension → T → Type 0
Holds form extensions value = (e : Extension) × (extensions ≡ e ∷ []) × Spells form value e.extn_value

module _ {T : Type 0} (form : Form T) (refuses : ErrorKind → Type 0) (wants : Type 0) where
  pub finds_none : (extensions : List Extension) → Finds form refuses wants extensions (Ok None) → extensions ≡ []
  finds_none [] h = refl
  finds_none (e ∷ []) h = absurd h
  finds_none (e ∷ f ∷ others) h = absurd h

  pub finds_some : (extensions : List Extension) (found : Bool × T) → Finds form refuses wants extensions (Ok (Some found)) → Holds form extensions found.1
  finds_some [] found h = absurd cc
  finds_some (e ∷ []) found h = (e, refl, h.1.found)
  finds_some (e ∷ f ∷ others) found h = absurd h

  pub finds_one : (extensions : List Extension) (found : Bool × T) (value : T) → Finds form refuses wants extensions (Ok (Some found)) → Holds form extensions value → found.1 ≡ value
  finds_one [] found value h holds = absurd cc
  finds_one (e ∷ []) found value h (f, is, spells) = let same : e ≡ f = cc in h.1.value value (rw same spells)
  finds_one (e ∷ f ∷ others) found value h holds = absurd h

  pub finds_err : (extensions : List Extension) (err : Error) (value : T) → Finds form refuses wants extensions (Err err) → Holds form extensions value → (err.kind ≡ Memory) × wants
  finds_err [] err value h holds = absurd cc
  finds_err (e ∷ []) err value h (f, is, spells) = let same : e ≡ f = cc in let so : Spells form value e.extn_value = rw same spells in h.only so.2 value so
  finds_err (e ∷ f ∷ others) err value h (g, is, spells) = absurd cc

  pub finds_any : (extensions : List Extension) (err : Error) → Finds form refuses wants extensions (Err err) → extensions ≡ [] → ⊥
  finds_any [] err h none = cc
  finds_any (e ∷ []) err h none = cc
  finds_any (e ∷ f ∷ others) err h none = cc

-- what holds of the value that is known is a question to it
pub told : {T : Type 0} (Has : T → Type 0) (v : T) → Has v → ((w : T) → Has w → v ≡ w) → (test : T → Bool) → IsTrue (test v) ↔ ((w : T) × Has w × (test w ≡ true))
told Has v has one test = ((λ so. (v, has, so)), (λ (w, other, so). ap test (one w other) ∙ so))

pub untold : {T : Type 0} (Has : T → Type 0) → ((w : T) → Has w → ⊥) → (test : T → Bool) → IsTrue false ↔ ((w : T) × Has w × (test w ≡ true))
untold Has none test = ((λ never. absurd (true≢false (sym never))), (λ (w, has, so). absurd (none w has)))
