-- The member at the front of what is left, or why there is none.
use Rattle.std.proofs.Common.{◌≡◌, ℕ, ◌-◌, ◌≤◌, List, [], ◌++◌, length, Ok, Err, refl, sym, ap, ◌∙◌, inl, inr, arith, length-append}
use Rattle.x509_c_calls.proofs.Walks.{left_fits, stands}
use Rattle.x509_c_calls.specs.Cursor.{IsLeft, IsNext, IsNoMember, Stops}
use Rattle.x509_der.specs.Outcome.{IsRefusal}
use Rattle.x509_der.specs.OutcomeLaws.{not_refused}
use Rattle.x509_der.specs.declared.error.ErrorKind.{ErrorKind}
use Rattle.x509_der.specs.declared.error.ErrorKind.TheVariants as errors
use Rattle.x509_der.specs.Frames.{field_at}
use Rattle.x509_der.specs.FrameLaws.{field_sound, field_complete, field_refused}
use Rattle.x509_der.specs.Form.{Form, IsForm, spelling}

module _ {X : Type 0} {R : ErrorKind → Type 0} (form : Form X) (lawful : IsForm R form) (tag : ℕ) (bytes left : List ℕ) (at : ℕ) (l : IsLeft tag bytes at left) where
  -- ---- a member

  module _ (value : X) (more : List ℕ) (found : field_at form.reading left ≡ Ok (value, more)) where
    front : left ≡ spelling form value ++ more
    front = (field_sound form lawful left value more found).1

    pub shorter : length more ≤ length left
    shorter = omega (arith, ap length front, length-append (spelling form value) more)

    pub fits : length more ≤ length bytes
    fits = omega (arith, shorter, left_fits bytes left tag at l)

    pub goes_on : length bytes - length left ≤ length bytes - length more
    goes_on = omega (arith, shorter)

    pub is_next : IsNext form tag bytes at (length bytes - length more) value more (record { place = length bytes - length left; len = length bytes - length more - (length bytes - length left) })
    is_next = record {
      good = (field_sound form lawful left value more found).0;
      left = rw (sym front) l;
      stands = (stands bytes left tag at l ∙ front, omega (arith, left_fits bytes left tag at l, ap length front, length-append (spelling form value) more), omega arith);
      behind = omega (arith, shorter, left_fits bytes left tag at l);
    }

  -- ---- none

  no_member : (e : ErrorKind) → (left ≡ [] → ⊥) → field_at form.reading left ≡ Err e → IsRefusal e (field_at form.reading left) → IsNoMember form R tag bytes at e
  no_member e some refused which = record {
    left = left;
    is_left = l;
    some = some;
    none = λ value more good is. not_refused (value, more) e (sym (field_complete form lawful value more good) ∙ ap (field_at form.reading) (sym is) ∙ refused);
    kind = field_refused form lawful left e refused;
    which = which;
  }

  pub stops : (wants : Type 0) (e : ErrorKind) → (left ≡ [] → ⊥) → IsRefusal e (field_at form.reading left) → (e ≡ errors.Memory → wants) → Stops form R wants tag bytes at e
  stops wants errors.Memory some which memory = inl (refl, memory refl)
  stops wants errors.Overlength some which memory = inr (inr (no_member errors.Overlength some which which))
  stops wants errors.Malformed some which memory = inr (inr (no_member errors.Malformed some which which))
  stops wants errors.Failed some which memory = inr (inr (no_member errors.Failed some which which))
  stops wants errors.SetDuplicate some which memory = inr (inr (no_member errors.SetDuplicate some which which))
  stops wants errors.Value some which memory = inr (inr (no_member errors.Value some which which))
