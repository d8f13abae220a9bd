use Rattle.x509_c_calls.proofs.NameTexts.{is_text, is_none}
use Rattle.x509_c_calls.proofs.named.text.text_of.Goals as goal

pub returns-in-Ok : goal.returns-in-Ok
returns-in-Ok c = (c.in-Ok.ensures.cases.0, is_text _ c.in-Ok.ensures.cases.1)

pub returns-in-Err : goal.returns-in-Err
returns-in-Err c = is_none _ c.in-Err.ensures.cases.0
