-- Equality of trust anchors and of the faults of paths is exact.
use Rattle.std.specs.Prelude.{refl}
use Rattle.x509_base.specs.Equality.{exact_subject_public_key_info}
use Rattle.x509_der.specs.Exact.{IsExact, exact_number, exact_unit, exact_both, exact_last, exact_by, exact_bare, exact_cases}
use Rattle.x509_name.specs.Names.{rdn_sequence_decides}
use Rattle.x509_path.specs.contracts.anchor.AnchorPartialEq.TheImpl as anchor_eq
use Rattle.x509_path.specs.contracts.fault.PathFault.{enum as faults}
use Rattle.x509_path.specs.contracts.fault.PathFaultPartialEq.TheImpl as fault_eq
use Rattle.x509_path.specs.contracts.fault.PathReason.{enum as reasons}
use Rattle.x509_path.specs.contracts.fault.PathReasonPartialEq.TheImpl as reason_eq
use Rattle.x509_path.specs.declared.anchor.Anchor.{Anchor}

pub exact_anchor : IsExact anchor_eq.ghosts.eq
exact_anchor = exact_by (λ (a : Anchor). (a.name, a.key)) (λ (name, key). record { name = name; key = key }) (λ a. refl) (exact_both rdn_sequence_decides exact_subject_public_key_info)

pub exact_reason : IsExact reason_eq.ghosts.eq
exact_reason = exact_bare reasons tt

pub exact_fault : IsExact fault_eq.ghosts.eq
exact_fault = exact_cases faults _ (exact_unit, (exact_unit, (exact_both exact_number (exact_last exact_reason), tt)))
