use Rattle.std.proofs.Common.{string_bytes}
use Rattle.x509_test_rows_run.proofs.Answering.{kept_answers}
use Rattle.x509_test_rows_run.proofs.lines.answer_of.Goals as goal

pub returns-in-None : goal.returns-in-None
returns-in-None g c rest keeps =
    kept_answers string_bytes g.C.Codec.reencodes _ rest _ c.answer_row.result c.in-None.is (rw c.as_slice.ensures.value at c.answer_row.ensures) keeps
