use Rattle.std.proofs.Common.{[], sym, ◌∙◌}
use Rattle.std.proofs.lemmas.List.{append-nil}
use Rattle.x509_c_calls.proofs.Refusals.{memory_is}
use Rattle.x509_c_calls.proofs.payloads.calls.content.Goals as goal
use Rattle.x509_c_calls.specs.Calls.{Reads}

pub returns-in-Ok-clause-read : goal.returns-in-Ok-clause-read
unfolding Reads
returns-in-Ok-clause-read g c =
    let value = c.in-Ok._value in
    let spells = c.in-Ok.ensures.found in
    let form = g.T.Grammar.form in
    (value, spells, c.content_at.ensures.stands (form.tag value) (form.content value) [] (g.met.T.Grammar.lawful.tagged value spells.0).1 (spells.1 ∙ sym (append-nil _)))

pub returns-in-Err-clause-memory : goal.returns-in-Err-clause-memory
returns-in-Err-clause-memory g c = memory_is g.T.Grammar.refuses _ _ _ c.into.ensures c.in-Err.ensures.overlength c.in-Err.ensures.refused
