use Rattle.x509_check.proofs.LentCertificates.{content_is, no_content}
use Rattle.x509_check.proofs.element.content_of.Goals as goal

pub returns-in-Ok : goal.returns-in-Ok
returns-in-Ok c = λ tag content id e. content_is tag content _ _ id e c.in-Ok.ensures.exact

pub returns-in-Err : goal.returns-in-Err
returns-in-Err c = λ tag content id e. absurd (no_content tag content _ _ id e c.in-Err.ensures.exact c.in-Err.ensures.err)
