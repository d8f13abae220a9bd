-- What a look-up of the value of one extension says.
use Rattle.std.proofs.Common.{◌≡◌, ◌≤◌, Bool, List, [], ◌∷◌, length, Option, Some, None, Ok, Err, ap, arith, refl, sym, subst}
use Rattle.x509_check.specs.ExtensionRefs.{FindsLent, lent_extension}
use Rattle.x509_check.specs.declared.lent.extension.ExtensionRef.{ExtensionRef}
use Rattle.x509_der.specs.Form.{Form, Spells}
use Rattle.x509_der.specs.declared.error.Error.{Error}
use Rattle.x509_der.specs.declared.error.ErrorKind.{ErrorKind}
use Rattle.x509_der.specs.declared.error.ErrorKind.TheVariants.{Failed}
use Rattle.x509_ext.specs.LookUp.{Finds}
use Rattle.x509_ext.specs.declared.extension.Extension.{Extension}

module _ {T : Type 0} (form : Form T) (refuses : ErrorKind → Type 0) (wants : Type 0) where
  pub no_value : (es : List Extension) → Finds form refuses wants es (Ok None) → es ≡ []
  no_value [] h = refl
  no_value (e ∷ []) h = absurd h
  no_value (e ∷ f ∷ es) h = absurd h

  one_value : (es : List Extension) (found : Bool × T) → Finds form refuses wants es (Ok (Some found)) → (e : Extension) × (es ≡ e ∷ []) × Spells form found.1 e.extn_value
  one_value [] found h = absurd (let e : Ok (Some found) ≡ Ok None = h in cc)
  one_value (e ∷ []) found h = (e, refl, h.1.found)
  one_value (e ∷ f ∷ es) found h = absurd h

  pub value_of : (es : List Extension) (answer : Option (Bool × T)) (found : Bool × T) → answer ≡ Some found → Finds form refuses wants es (Ok answer) → (e : Extension) × (es ≡ e ∷ []) × Spells form found.1 e.extn_value
  value_of es answer found is h = one_value es found (subst (λ a. Finds form refuses wants es (Ok a)) is h)

  only_value : (es : List Extension) (found : Bool × T) (value : T) → Finds form refuses wants es (Ok (Some found)) → (e : Extension) → es ≡ e ∷ [] → Spells form value e.extn_value → found.1 ≡ value
  only_value [] found value h e is spells = absurd (cc)
  only_value (x ∷ []) found value h e is spells = let same : x ≡ e = cc in h.1.value value (subst (λ y. Spells form value y.extn_value) (sym same) spells)
  only_value (x ∷ y ∷ es) found value h e is spells = absurd h

  -- the value that is found is the one that is there
  pub same_value : (es : List Extension) (answer : Option (Bool × T)) (found : Bool × T) (value : T) → answer ≡ Some found → Finds form refuses wants es (Ok answer) → (e : Extension) → es ≡ e ∷ [] → Spells form value e.extn_value → found.1 ≡ value
  same_value es answer found value is h = only_value es found value (subst (λ a. Finds form refuses wants es (Ok a)) is h)

-- ---- extensions that are lent

pub found_one : (es : List Extension) (found : ExtensionRef) → FindsLent es (Ok (Some found)) → es ≡ lent_extension found ∷ []
found_one [] found h = absurd (let e : Ok (Some found) ≡ Ok None = h in cc)
found_one (e ∷ []) found h = ap (λ x. x ∷ []) (sym h)
found_one (e ∷ f ∷ es) found h = absurd h

pub found_none : (es : List Extension) → FindsLent es (Ok None) → es ≡ []
found_none [] h = refl
found_none (e ∷ []) h = absurd h
found_none (e ∷ f ∷ es) h = absurd h

pub found_many : (es : List Extension) (e : Error) → FindsLent es (Err e) → (2 ≤ length es) × (e.kind ≡ Failed)
found_many [] e h = absurd (let k : Err e ≡ Ok None = h in cc)
found_many (x ∷ []) e h = absurd h
found_many (x ∷ y ∷ es) e h = (omega arith, h)
