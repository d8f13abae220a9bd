-- What the policies of a certificate say of it, with which nothing else is wrong.
use Rattle.std.proofs.Common.{◌≡◌, ◌↔◌, ◌+◌, ◌<◌, ℕ, List, [], ◌∷◌, ◌++◌, length, Ok, Err}
use Rattle.std.specs.List.{All}
use Rattle.x509_cert.specs.Certificate.{rfc5280_certificate}
use Rattle.x509_der.specs.Form.{Spells}
use Rattle.x509_path.proofs.Firsts.{first_wrong}
use Rattle.x509_path.specs.Certificates.{Accepting, Certificate}
use Rattle.x509_path_steps.specs.Inputs.{Inputs}
use Rattle.x509_path_steps.specs.Policies.{AreRefused, AreSettings}
use Rattle.x509_path_steps.specs.Says.{Say, Says}
use Rattle.x509_path_steps.specs.Steps.{StopsAt, reason_for}
use Rattle.x509_path_steps.specs.Validation.{Breaks, Standing, own_reasons, reasons}
use Rattle.x509_path_steps.specs.declared.validation_fault.ValidationFault.{ValidationFault}
use Rattle.x509_path_steps.specs.declared.validation_fault.ValidationFault.TheVariants.{Memory, Empty, Initial, At}
use Rattle.x509_path_steps.specs.declared.validation_fault.ValidationReason.TheVariants.{Decode}
use Rattle.x509_policy.specs.Follows.{Follows, IsOutcome}
use Rattle.x509_policy.specs.Path as refusals
use Rattle.x509_policy.specs.Path.{Reason, Valid}
use Rattle.x509_policy.specs.Values as policies
use Rattle.x509_policy.specs.Values.{Policy, Settings}
use Rattle.x509_policy.specs.declared.state.PolicyState.{PolicyState}
use Rattle.x509_validation.proofs.FirstReasons.{first_policy, none}
use Rattle.x509_validation.proofs.OneSaid.{not_on, not_valid, only, refused_so}
use Rattle.x509_validation.specs.Judging.{Judges}

-- what is wrong with policies is what they are refused for
as_refused : (accepts : Accepting) (inputs : Inputs) (standing : Standing) (bytes : List ℕ) (c : Certificate) (q : Reason) → Breaks accepts inputs standing bytes c (reason_for q) ↔ AreRefused inputs standing.n standing.before c q
as_refused accepts inputs standing bytes c refusals.RepeatedPolicy = ((λ w. w), (λ w. w))
as_refused accepts inputs standing bytes c refusals.NoPolicy = ((λ w. w), (λ w. w))
as_refused accepts inputs standing bytes c refusals.MapsAnyPolicy = ((λ w. w), (λ w. w))

module _ (accepts : Accepting) (inputs : Inputs) (standing : Standing) (bytes : List ℕ) (c : Certificate) (spells : Spells rfc5280_certificate c bytes)
    (free : All (λ r. Breaks accepts inputs standing bytes c r → ⊥) own_reasons) (settings : Settings) (said : List policies.Certificate) (own : policies.Certificate)
    (at_start : AreSettings inputs settings) (say : Say standing.before said) (says : Says c own) (within : length said < standing.n) (place : ℕ) where
  pub stopped : (e : ValidationFault) → StopsAt settings standing.n said own place e → Judges accepts inputs standing bytes place (Err e)
  stopped Memory h = h
  stopped Empty h = h
  stopped Initial h = h
  stopped (At p reason) h =
      let here = (as_refused accepts inputs standing bytes c h.why).1 (refused_so inputs standing.n standing.before c settings said own at_start say says h.why h.refused) in
      let first = first_policy (Breaks accepts inputs standing bytes c) (λ h. h) free h.why here
      (λ o w. only inputs standing.n standing.before c settings said own at_start say says o ((as_refused accepts inputs standing bytes c o).0 w) within h.why h.refused) in
      (h.here, rw h.told (first_wrong Decode (Breaks accepts inputs standing bytes) bytes c spells (Decode ∷ reasons) (reason_for h.why) first))

  pub passed : length said + 1 < standing.n → (state : PolicyState) → Follows settings standing.n (said ++ own ∷ []) state → Judges accepts inputs standing bytes place (Ok c)
  passed more state follows = (
    spells,
    none (Breaks accepts inputs standing bytes c) (λ h. h) free (λ q w. not_on inputs standing.n standing.before c settings said own at_start say says q ((as_refused accepts inputs standing bytes c q).0 w) within more state follows),
  )

  pub ended : length said + 1 ≡ standing.n → (found : List Policy) → IsOutcome settings (said ++ own ∷ []) (Valid found) → Judges accepts inputs standing bytes place (Ok c)
  ended all found outcome = (
    spells,
    none (Breaks accepts inputs standing bytes c) (λ h. h) free (λ q w. not_valid inputs standing.n standing.before c settings said own at_start say says q ((as_refused accepts inputs standing bytes c q).0 w) within all found outcome),
  )
