-- Faults of a certificate's own, among all that it is asked for.
use Rattle.std.proofs.Common.{◌≡◌, ◌↔◌, ℕ, Bool, List, Option, Some, None, is_some, refl}
use Rattle.std.specs.Bool.{IsTrue}
use Rattle.std.specs.Option.{option_map}
use Rattle.x509_path.specs.Certificates.{Accepting, Certificate}
use Rattle.x509_path.specs.declared.anchor.Anchor.{Anchor}
use Rattle.x509_path_steps.specs.Inputs.{Inputs, purposes_of}
use Rattle.x509_path_steps.specs.Validation.{Breaks, asks_purpose}
use Rattle.x509_path_steps.specs.declared.settings.PathSettings.{PathSettings}
use Rattle.x509_path_steps.specs.declared.validation_fault.ValidationReason.{ValidationReason}
use Rattle.x509_path_steps.specs.declared.validation_fault.ValidationReason.TheVariants.{Decode, Algorithm, Issuer, Moment, Signature, Repeated, Critical, Extension, NotCa, KeyUsage, PathLen, Names, Constraints, RepeatedPolicy, Policy, PolicyMapping, Version, Usage, Purpose}
use Rattle.x509_policy.specs.Views.{octets_of}
use Rattle.x509_validation.specs.Judging.{IsOwn, standing}
use Rattle.x509_validation.specs.Last.{AskedAlone, BreaksAlone, HasOwnFault}

-- it isn't a reason that is asked for beside those
pub record IsLeft (reason : ValidationReason) : Type 0 where
  pub issuer : reason ≡ Issuer → ⊥
  pub signature : reason ≡ Signature → ⊥
  pub not_ca : reason ≡ NotCa → ⊥
  pub key_usage : reason ≡ KeyUsage → ⊥
  pub path_len : reason ≡ PathLen → ⊥
  pub usage : reason ≡ Usage → ⊥
  pub purpose : reason ≡ Purpose → ⊥
  pub names : reason ≡ Names → ⊥
  pub constraints : reason ≡ Constraints → ⊥

module _ (accepts : Accepting) (inputs : Inputs) (above : Anchor) (before : List Certificate) (is_last : Bool) (n : ℕ) (bytes : List ℕ) (c : Certificate) (b : Bool) where
  pub of_path : (reason : ValidationReason) → IsLeft reason → IsOwn reason → IsTrue b ↔ HasOwnFault inputs.moment (asks_purpose inputs.purposes) c reason
      → IsTrue b ↔ Breaks accepts inputs (standing above before is_last n) bytes c reason
  of_path Decode left own h = h
  of_path Algorithm left own h = h
  of_path Issuer left own h = absurd (left.issuer refl)
  of_path Moment left own h = h
  of_path Signature left own h = absurd (left.signature refl)
  of_path Repeated left own h = h
  of_path Critical left own h = h
  of_path Extension left own h = h
  of_path NotCa left own h = absurd (left.not_ca refl)
  of_path KeyUsage left own h = absurd (left.key_usage refl)
  of_path PathLen left own h = absurd (left.path_len refl)
  of_path Names left own h = absurd (left.names refl)
  of_path Constraints left own h = absurd (left.constraints refl)
  of_path RepeatedPolicy left own h = absurd own
  of_path Policy left own h = absurd own
  of_path PolicyMapping left own h = absurd own
  of_path Version left own h = h
  of_path Usage left own h = absurd (left.usage refl)
  of_path Purpose left own h = absurd (left.purpose refl)

module _ (asked : AskedAlone) (c : Certificate) (b : Bool) where
  pub of_last : (reason : ValidationReason) → (reason ≡ Usage → ⊥) → (reason ≡ Purpose → ⊥) → IsTrue b ↔ HasOwnFault asked.moment (asks_purpose asked.purposes) c reason
      → IsTrue b ↔ BreaksAlone asked c reason
  of_last Decode usage purpose h = h
  of_last Algorithm usage purpose h = h
  of_last Issuer usage purpose h = h
  of_last Moment usage purpose h = h
  of_last Signature usage purpose h = h
  of_last Repeated usage purpose h = h
  of_last Critical usage purpose h = h
  of_last Extension usage purpose h = h
  of_last NotCa usage purpose h = h
  of_last KeyUsage usage purpose h = h
  of_last PathLen usage purpose h = h
  of_last Names usage purpose h = h
  of_last Constraints usage purpose h = h
  of_last RepeatedPolicy usage purpose h = h
  of_last Policy usage purpose h = h
  of_last PolicyMapping usage purpose h = h
  of_last Version usage purpose h = h
  of_last Usage usage purpose h = absurd (usage refl)
  of_last Purpose usage purpose h = absurd (purpose refl)

-- a purpose is asked for where some are given
asks_some : {X : Type 0} (view : X → List (List ℕ)) (given : Option X) → asks_purpose (option_map view given) ≡ is_some given
asks_some view None = refl
asks_some view (Some some) = refl

pub asks_given : (settings : PathSettings) → asks_purpose (purposes_of settings) ≡ is_some settings.purposes
asks_given settings = asks_some (λ purposes. octets_of purposes.now) settings.purposes
