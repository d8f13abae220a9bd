-- Equality of statuses and of faults is exact.
use Rattle.x509_base.specs.TimeEquality.{exact_time}
use Rattle.x509_der.specs.Exact.{IsExact, exact_bare, exact_number, exact_unit, exact_both, exact_last, exact_cases}
use Rattle.x509_ext.specs.RevocationEquality.{exact_crl_reason, exact_reasons}
use Rattle.x509_revocation.specs.contracts.fault.CrlFault.{enum as crl_faults}
use Rattle.x509_revocation.specs.contracts.fault.CrlFaultPartialEq.TheImpl as fault_eq
use Rattle.x509_revocation.specs.contracts.status.RevocationStatus.{enum as statuses}
use Rattle.x509_revocation.specs.contracts.status.RevocationStatusPartialEq.TheImpl as status_eq

pub exact_status : IsExact status_eq.ghosts.eq
exact_status = exact_cases statuses _ (exact_unit, (exact_both exact_number (exact_both exact_time (exact_last exact_crl_reason)), (exact_last exact_reasons, tt)))

pub exact_fault : IsExact fault_eq.ghosts.eq
exact_fault = exact_bare crl_faults tt
