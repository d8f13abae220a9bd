use Rattle.x509_log.proofs.Refusals.{err_by, of_answer}
use Rattle.x509_log.proofs.embedded.timestamps_of.Goals as goal

pub returns-in_err-parse_timestamps-clause-refused : goal.returns-in_err-parse_timestamps-clause-refused
returns-in_err-parse_timestamps-clause-refused c =
    err_by c.from_residual.result _ _ c.from_residual.ensures.1
    (λ e is. of_answer _ c.in_err-parse_timestamps.field-0.0 e is c.in_err-parse_timestamps.ensures.fault)
