-- One path that is tried.
use Rattle.std.proofs.Common.{◌≡◌, ◌↔◌, ◌∙◌, ◌⊎◌, inl, inr, ℕ, zero, suc, ◌+◌, ◌<◌, ◌≤◌, Bor, List, [], ◌∷◌, ◌++◌, length, map, Option, Some, None, Ok, Err, refl, sym, ap, subst, arith}
use Rattle.std.specs.List.{All, Contains}
use Rattle.std.specs.Prelude.{IsSome}
use Rattle.x509_base.specs.SubjectPublicKeyInfo.{subject_public_key_info}
use Rattle.x509_base.specs.declared.subject_public_key_info.SubjectPublicKeyInfo.{SubjectPublicKeyInfo}
use Rattle.x509_cert.specs.Certificate.{rfc5280_certificate}
use Rattle.x509_cert.specs.Signed.{IsSignedPart}
use Rattle.x509_der.specs.Form.{Spells}
use Rattle.x509_path.specs.Certificates.{Accepting, Certificate, accept_all}
use Rattle.x509_path_steps.specs.Inputs.{AreUnreadable, Inputs, LendsInputs}
use Rattle.x509_path_steps.specs.Validation.{Answers, AnswersUnreadable, Gives, HasFault, PathIsValid}
use Rattle.x509_path_steps.specs.declared.settings.PathSettings.{PathSettings}
use Rattle.x509_path_steps.specs.declared.trusted.Trusted.{Trusted}
use Rattle.x509_path_steps.specs.declared.validated.Validated.{Validated}
use Rattle.x509_path_steps.specs.declared.validation_fault.ValidationFault.{ValidationFault}
use Rattle.x509_path_steps.specs.declared.validation_fault.ValidationFault.TheVariants.{Memory, Empty, Initial, At}
use Rattle.x509_path_steps.specs.declared.validation_fault.ValidationReason.TheVariants.{Signature}
use Rattle.x509_verify.proofs.Signing.{no_unsigned, refused, refuses, unsigned_fault}
use Rattle.x509_verify.specs.Found.{AreDistinct, AreLinked, IsAbove, IsFound, IsRefusal, IsValidUnder, LeadsTo, Refuses, Wanted, octets}
use Rattle.x509_verify.specs.Named.{Name}
use Rattle.x509_verify.specs.Progress.{AreSigned, IsAnswer, IsOnPath, IsRight, IsTriedUnder, IsUnsignedAt}
use Rattle.x509_verify.specs.declared.found.Found.{Found}
use Rattle.x509_verify.specs.declared.progress.Asked.{Asked}
use Rattle.x509_verify.specs.declared.progress.Progress.{Progress}
use Rattle.x509_verify.specs.declared.refusal.Refusal.{Refusal}

-- what stands above the certificate on the path
pub standing : (wanted : Wanted) (path : List (List ℕ)) (left : ℕ) (on : IsOnPath wanted path left) → IsAbove wanted on.above
standing wanted path left on = record {
  known = on.known;
  once = subst AreDistinct on.whole on.once;
  short = omega (arith, on.short);
}

some_path : (wanted : Wanted) (path : List (List ℕ)) (left : ℕ) → IsOnPath wanted path left → path ≡ [] → ⊥
some_path wanted path left on none = not_empty on.above (sym on.whole ∙ none) where
  not_empty : (above : List (List ℕ)) → above ++ wanted.leaf ∷ [] ≡ [] → ⊥
  not_empty [] is = cc
  not_empty (x ∷ above) is = cc

module _ (accepts : Accepting) (wanted : Wanted) (trusted : Trusted) (path : List (List ℕ)) (is_trusted : Contains wanted.trusted trusted) (on : IsOnPath wanted path 0) where
  -- what is noted of the path is a refusal of it
  pub told : (refusal : Refusal) → refusal.trusted ≡ trusted → octets refusal.path.items ≡ path
      → ((inputs : Inputs) → LendsInputs trusted wanted.settings inputs → Refuses accepts inputs path refusal.fault) → IsRefusal accepts wanted refusal
  told refusal under same why = record {
    above = on.above;
    path = same ∙ on.whole;
    is_trusted = subst (λ t. Contains wanted.trusted t) (sym under) is_trusted;
    stand = standing wanted path 0 on;
    fault = λ inputs lent. subst (λ p. Refuses accepts inputs p refusal.fault) (sym same) (why inputs (subst (λ t. LendsInputs t wanted.settings inputs) under lent));
  }

  pub right_after : (before after : Progress) (fault : ValidationFault) → IsRight accepts wanted before → All (IsAnswer accepts) after.asked.items
      → ((refusal : Refusal) → after.refusal ≡ Some refusal → (before.refusal ≡ Some refusal) ⊎ ((refusal.trusted ≡ trusted) × (octets refusal.path.items ≡ path) × (refusal.fault ≡ fault)))
      → ((inputs : Inputs) → LendsInputs trusted wanted.settings inputs → Refuses accepts inputs path fault) → IsRight accepts wanted after
  right_after before after fault right asked which why = record {
    asked = asked;
    refusal = λ refusal is. elim (which refusal is) [
      | inl was ↦ right.refusal refusal was
      | inr (under, same, so) ↦ told refusal under same (λ inputs lent. subst (λ e. Refuses accepts inputs path e) (sym so) (why inputs lent))
    ];
  }

  -- a path that is refused is tried
  pub tried : (fault : ValidationFault) (after : Option Refusal) → IsSome after → ((inputs : Inputs) → LendsInputs trusted wanted.settings inputs → Refuses accepts inputs path fault)
      → IsTriedUnder accepts wanted trusted path after
  tried fault after some why = record {
    none = λ valid. valid.readable (λ inputs lent. refused accepts inputs path fault (why inputs lent) (valid.valid inputs lent));
    noted = λ x spells linked. some;
  }

  module _ (signed : (c : Certificate) (bytes : List ℕ) → Spells rfc5280_certificate c bytes → (part : List ℕ) × IsSignedPart bytes part) where
    pub why_refused : (fault : ValidationFault) → (fault ≡ Memory → ⊥) → ((inputs : Inputs) → LendsInputs trusted wanted.settings inputs → Answers accept_all inputs path (Err fault))
        → (inputs : Inputs) → LendsInputs trusted wanted.settings inputs → Refuses accepts inputs path fault
    why_refused fault other answers inputs lent = refuses accepts inputs signed path fault (some_path wanted path 0 on) other (answers inputs lent)

  pub why_unsigned : (place : ℕ) → ((key : SubjectPublicKeyInfo) → Spells subject_public_key_info key trusted.anchor.key.now → IsUnsignedAt accepts key path place)
      → (inputs : Inputs) → LendsInputs trusted wanted.settings inputs → Refuses accepts inputs path (At place Signature)
  why_unsigned place unsigned inputs lent =
      unsigned_fault accepts inputs inputs.trust.anchor [] inputs.trust.anchor.key path place refl (unsigned inputs.trust.anchor.key lent.trust.anchor.1)

  unreadable : (p : List (List ℕ)) (v : Validated) → AnswersUnreadable p (Ok v) → ⊥
  unreadable [] v is = cc
  unreadable (x ∷ p) v is = cc

  -- one that is valid but for signatures, of which each is accepted, is found
  pub found : (it : Found) → it.trusted ≡ trusted → octets it.path.items ≡ path
      → ((inputs : Inputs) → LendsInputs trusted wanted.settings inputs → Answers accept_all inputs path (Ok it.validated))
      → (AreUnreadable trusted wanted.settings → AnswersUnreadable path (Ok it.validated))
      → ((key : SubjectPublicKeyInfo) → Spells subject_public_key_info key trusted.anchor.key.now → AreSigned accepts key path)
      → ((inputs : Inputs) → PathIsValid accepts inputs path ↔ (PathIsValid accept_all inputs path × ((place : ℕ) → HasFault accepts inputs path place Signature → ⊥)))
      → IsFound accepts wanted it
  found it under same answers none signed apart =
      let whole = same ∙ on.whole in record {
        above = on.above;
        path = whole;
        leads = record {
          is_trusted = subst (λ t. Contains wanted.trusted t) (sym under) is_trusted;
          stand = standing wanted path 0 on;
          valid = subst (λ t. IsValidUnder accepts wanted.settings t (on.above ++ wanted.leaf ∷ [])) (sym under) (subst (λ p. IsValidUnder accepts wanted.settings trusted p) on.whole (record {
            readable = λ nothing. unreadable path it.validated (none nothing);
            valid = λ inputs lent. (apart inputs).1 (
              (answers inputs lent).0,
              λ place. no_unsigned accepts inputs inputs.trust.anchor [] inputs.trust.anchor.key path place refl (signed inputs.trust.anchor.key lent.trust.anchor.1),
            );
          }));
        };
        gives = λ inputs lent. subst (λ p. Gives inputs p it.validated) (sym same) (answers inputs (subst (λ t. LendsInputs t wanted.settings inputs) under lent)).1;
      }
