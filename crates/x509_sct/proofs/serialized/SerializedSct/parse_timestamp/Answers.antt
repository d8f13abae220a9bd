use Rattle.std.proofs.lemmas.Result.{err_from_is_err_and}
use Rattle.x509_sct.specs.declared.error.Error.TheVariants as errors
use Rattle.x509_sct.specs.AnswerLaws.{hands_on, hands_on_fault}
use Rattle.x509_sct.proofs.serialized.SerializedSct.parse_timestamp.Goals as goal

pub returns-in_err-read_whole : goal.returns-in_err-read_whole
returns-in_err-read_whole c =
    let p = err_from_is_err_and c.from_residual.result c.from_residual.ensures.1 in
    rw (p.1, p.2) (hands_on_fault (λ x. x) errors.Tls _ _ _ c.in_err-read_whole.field-0.0 (rw c.as_slice.ensures.value at c.in_err-read_whole.ensures))

pub returns : goal.returns
returns c = hands_on (λ x. x) errors.Tls _ _ _ c.in_ok-read_whole.field-0 (rw c.as_slice.ensures.value at c.in_ok-read_whole.ensures)
