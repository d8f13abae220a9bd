use Rattle.std.proofs.Common.{ap, bytes_eq, ◌∙◌}
use Rattle.x509_c_calls.proofs.FoundEntries.{content_front, no_content_front}
use Rattle.x509_c_calls.proofs.crl.find.begins_with.Goals as goal

pub returns-in-Ok : goal.returns-in-Ok
returns-in-Ok c = λ tag front more id e. c.eq.ensures ∙ ap (λ x. bytes_eq x c.args.content.now) (content_front tag front more _ _ id e c.in-Ok.ensures.exact)

pub returns-in-Err : goal.returns-in-Err
returns-in-Err c = λ tag front more id e. absurd (no_content_front tag front more _ _ id e (rw c.in-Err.ensures.err at c.in-Err.ensures.exact))
