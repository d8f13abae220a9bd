use Rattle.std.proofs.lemmas.Result.{err_from_is_err_and}
use Rattle.x509_sct.specs.declared.error.Error.TheVariants as errors
use Rattle.x509_sct.specs.AnswerLaws.{hands_on, hands_on_fault}
use Rattle.x509_sct.proofs.list.SignedCertificateTimestampList.parse_timestamps.Goals as goal

pub returns-in_err-read_list : goal.returns-in_err-read_list
returns-in_err-read_list c =
    let p = err_from_is_err_and c.from_residual.result c.from_residual.ensures.1 in
    rw (p.1, p.2) (hands_on_fault (λ v. v.items) errors.Tls _ _ _ c.in_err-read_list.field-0.0 (rw c.as_bytes.ensures at c.in_err-read_list.ensures))

pub returns : goal.returns
returns c = hands_on (λ v. v.items) errors.Tls _ _ _ c.in_ok-read_list.field-0 (rw c.as_bytes.ensures at c.in_ok-read_list.ensures)
