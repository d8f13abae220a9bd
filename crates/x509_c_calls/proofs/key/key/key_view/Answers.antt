use Rattle.std.proofs.Common.{[], sym, ap, ◌∙◌}
use Rattle.std.proofs.lemmas.List.{append-nil}
use Rattle.x509_c_calls.proofs.key.key.key_view.Goals as goal
use Rattle.x509_c_calls.specs.Calls.{Reads}
use Rattle.x509_c_calls.specs.Keys.{size_told}

pub returns-in-Ok-key_size : goal.returns-in-Ok-key_size
unfolding Reads
returns-in-Ok-key_size c =
    let spells = c.in-Ok.ensures.found in
    let size = c.size_told.ensures ∙ ap size_told c.in-Ok-key_size.ensures in
    (c.in-Ok.key, spells, c.view_of.ensures [] (spells.1 ∙ sym (append-nil _)) size)
