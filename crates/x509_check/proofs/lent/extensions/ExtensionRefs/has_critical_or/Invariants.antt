use Rattle.std.proofs.Common.{◌≡◌, ◌||◌, bytes_eq, length}
use Rattle.std.specs.List.{list_any}
use Rattle.std.specs.Prelude.{IsOk}
use Rattle.x509_check.specs.ExtensionRefs.{extensions_left}
use Rattle.x509_check.specs.Lending.{listed}
use Rattle.x509_der.specs.List.{list_reading}
use Rattle.x509_ext.specs.Extension.{extension}
use Rattle.x509_check.proofs.lent.extensions.ExtensionRefs.has_critical_or.Given as goal

-- what was passed is neither critical nor has the OID
abbrev pub invariant-loop-rest : goal.invariant-loop-rest
invariant-loop-rest l = record {
  known : IsOk (list_reading extension.reading l.rest);
  same : list_any (λ e. e.critical || bytes_eq e.extn_id l.oid) (listed (list_reading extension.reading l.rest)) ≡ list_any (λ e. e.critical || bytes_eq e.extn_id l.oid) (extensions_left l.self);
}

abbrev pub decreases-loop-rest : goal.decreases-loop-rest
decreases-loop-rest l = length l.rest
