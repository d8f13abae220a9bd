use Rattle.std.proofs.Common.{sym, ◌∙◌}
use Rattle.std.proofs.lemmas.List.{append-nil}
use Rattle.x509_c_calls.proofs.request.view.request_view.Goals as goal
use Rattle.x509_c_calls.specs.Calls.{Reads}

pub returns-in-Ok-clause-read : goal.returns-in-Ok-clause-read
unfolding Reads
returns-in-Ok-clause-read c =
    let found = c.in-Ok.ensures.found in
    (found.0, found.1, c.request_at.ensures found.0 _ (found.1.1 ∙ sym (append-nil _)))
