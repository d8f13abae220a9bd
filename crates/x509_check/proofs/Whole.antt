-- What a check of a whole encoding says of the values that bytes spell.
use Rattle.std.proofs.Common.{◌≡◌, ◌⊎◌, ◌≤◌, List, ℕ, length, Ok, Err, refl, sym, ap, ◌∙◌}
use Rattle.std.specs.Prelude.{Result, IsOk, OnOk, IfErr}
use Rattle.x509_check.specs.Checking.{Finds}
use Rattle.x509_der.specs.Element.{limit}
use Rattle.x509_der.specs.declared.error.Error.{Error}
use Rattle.x509_der.specs.declared.error.ErrorKind.{ErrorKind}
use Rattle.x509_der.specs.declared.error.ErrorKind.TheVariants as errors
use Rattle.x509_der.specs.Form.{Form, IsForm, Spells, whole_reading}
use Rattle.x509_der.specs.FormLaws.{whole_sound, whole_complete, whole_refused}

module _ {X : Type 0} {R : ErrorKind → Type 0} (f : Form X) (h : IsForm R f) (bytes : List ℕ) where
  pub found_whole : (result : Result Unit Error) → length bytes ≤ limit → Finds result (whole_reading f.reading bytes) → OnOk result ((value : X) × Spells f value bytes)
  found_whole (Ok done) within p = let s = whole_sound f h bytes p.0 p.1 in (p.0, (s.0, s.1, within))
  found_whole (Err e) within p = tt

  pub every_whole : (result : Result Unit Error) → Finds result (whole_reading f.reading bytes) → (value : X) → Spells f value bytes → IsOk result
  every_whole (Ok done) p value s = refl
  every_whole (Err e) p value s = absurd (let k = sym p ∙ ap (whole_reading f.reading) s.1 ∙ whole_complete f h value s.0 in cc)

  pub refused_whole : (result : Result Unit Error) → Finds result (whole_reading f.reading bytes) → IfErr result (λ e. (e.kind ≡ errors.Malformed) ⊎ R e.kind)
  refused_whole (Ok done) p = tt
  refused_whole (Err e) p = whole_refused f h bytes e.kind p
