-- Fields that may be left out: where they stand, and what stands behind them.
use Rattle.std.proofs.Common.{◌≡◌, ℕ, Bool, true, false, List, ◌++◌, drop, Option, Some, None, is_some, refl, ap, ◌∙◌}
use Rattle.x509_c_calls.specs.Optional.{IsNowhere, IsPerhapsAt}
use Rattle.x509_c_calls.specs.Place.{IsAt, IsField}
use Rattle.x509_c_calls.specs.declared.place.span.Span.{Span}
use Rattle.x509_der.specs.Element.{element, is_identifier}
use Rattle.x509_der.specs.Frames.{optional_octets}
use Rattle.x509_der.specs.Form.{Form, spelling}

-- a field that is an element of this form
module _ {X : Type 0} (form : Form X) (is_tag : (v : X) → is_identifier (form.tag v) ≡ true) where
  field_is : (o : Option X) → IsField (is_some o) (optional_octets (spelling form) o)
  field_is None = refl
  field_is (Some v) = (form.tag v, form.content v, is_tag v, refl)

  pub is_field : (o : Option X) (b : Bool) → b ≡ is_some o → IsField b (optional_octets (spelling form) o)
  is_field o b is = rw is (field_is o)

  -- a step over the whole element
  pub element_at : (o : Option X) (bytes more : List ℕ) (was after : ℕ) (span : Span) (is_there : Bool) → is_there ≡ is_some o → drop was bytes ≡ optional_octets (spelling form) o ++ more
      → (is_there ≡ true → (t : ℕ) (c m : List ℕ) → is_identifier t ≡ true → drop was bytes ≡ element t c ++ m → IsAt (element t c) m bytes span × (drop after bytes ≡ m))
      → (is_there ≡ false → IsNowhere span × (after ≡ was))
      → IsPerhapsAt (spelling form) o more bytes span × (drop after bytes ≡ more)
  element_at None bytes more was after span is_there is e there absent = ((absent is).0, ap (λ n. drop n bytes) (absent is).1 ∙ e)
  element_at (Some v) bytes more was after span is_there is e there absent = there is (form.tag v) (form.content v) more (is_tag v) e

  -- a step over it, of its content
  pub content_at : (o : Option X) (bytes more : List ℕ) (was after : ℕ) (span : Span) (is_there : Bool) → is_there ≡ is_some o → drop was bytes ≡ optional_octets (spelling form) o ++ more
      → (is_there ≡ true → (t : ℕ) (c m : List ℕ) → is_identifier t ≡ true → drop was bytes ≡ element t c ++ m → IsAt c m bytes span × (drop after bytes ≡ m))
      → (is_there ≡ false → IsNowhere span × (after ≡ was))
      → IsPerhapsAt form.content o more bytes span × (drop after bytes ≡ more)
  content_at None bytes more was after span is_there is e there absent = ((absent is).0, ap (λ n. drop n bytes) (absent is).1 ∙ e)
  content_at (Some v) bytes more was after span is_there is e there absent = there is (form.tag v) (form.content v) more (is_tag v) e
