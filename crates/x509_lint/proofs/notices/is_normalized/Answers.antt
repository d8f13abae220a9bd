use Rattle.std.specs.Bool.{one_answer}
use Rattle.std.proofs.lemmas.Result.{IfOk-weaker}
use Rattle.std.proofs.lemmas.Slice.Eq.{bytes_eq-Decides}
use Rattle.x509_lint.proofs.notices.is_normalized.Goals as goal

pub returns : goal.returns
returns c = IfOk-weaker c.is_nfc.result _ _ (λ b same. one_answer _ _ same (bytes_eq-Decides _ _)) c.is_nfc.ensures.answer
