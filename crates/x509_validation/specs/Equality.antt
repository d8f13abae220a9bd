-- Equality of the faults of validation and of the flags of anchors is exact.
use Rattle.std.specs.Prelude.{refl}
use Rattle.x509_der.specs.Exact.{IsExact, exact_bare, exact_bool, exact_both, exact_by, exact_cases, exact_last, exact_number, exact_unit}
use Rattle.x509_path_steps.specs.contracts.validation_fault.ValidationFault.{enum as faults}
use Rattle.x509_path_steps.specs.contracts.validation_fault.ValidationFaultPartialEq.TheImpl as fault_eq
use Rattle.x509_path_steps.specs.contracts.validation_fault.ValidationReason.{enum as reasons}
use Rattle.x509_path_steps.specs.contracts.validation_fault.ValidationReasonPartialEq.TheImpl as reason_eq
use Rattle.x509_policy.specs.contracts.anchor.AnchorFlagsPartialEq.TheImpl as flags_eq
use Rattle.x509_policy.specs.declared.anchor.AnchorFlags.{AnchorFlags}

pub exact_reason : IsExact reason_eq.ghosts.eq
exact_reason = exact_bare reasons tt

pub exact_fault : IsExact fault_eq.ghosts.eq
exact_fault = exact_cases faults _ (exact_unit, (exact_unit, (exact_unit, (exact_both exact_number (exact_last exact_reason), tt))))

pub exact_flags : IsExact flags_eq.ghosts.eq
exact_flags =
    exact_by (λ (f : AnchorFlags). (f.inhibit_policy_mapping, (f.require_explicit_policy, f.inhibit_any_policy)))
    (λ (mapping, (explicit, any)). record { inhibit_policy_mapping = mapping; require_explicit_policy = explicit; inhibit_any_policy = any })
    (λ f. refl) (exact_both exact_bool (exact_both exact_bool exact_bool))
