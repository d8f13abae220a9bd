use Rattle.std.proofs.Common.{◌≡◌, ◌+◌, ◌∷◌, ◌∙◌, [], ap, drop, subst, sym}
use Rattle.std.proofs.Math.ListN.{drop_of_length-le}
use Rattle.std.proofs.lemmas.List.{drop_more}
use Rattle.x509_lint.proofs.EntryWalks.{Walk, ends, goes_on}
use Rattle.x509_lint.proofs.entries.facts_of_entries.Goals as goal

pub loop-entry-preserved : goal.loop-entry-preserved
loop-entry-preserved c =
    let entries = c.args.entries.now in
    let i = c.loop-entry.entry-index in
    let entry = c.entry-item.result in
    let left : drop i entries ≡ entry ∷ drop (i + 1) entries = drop_more entries i entry c.loop-entry-test.true ∙ ap (λ e. e ∷ drop (i + 1) entries) (sym c.entry-item.is) in
    goes_on c.loop-entry.found c.with-found.result c.loop-entry.are_distinct c.in_ok-are_distinct.are_distinct entry (drop (i + 1) entries) entries c.with-found.ensures c.in_ok-are_distinct.ensures.ok
    (subst (λ rest. Walk c.loop-entry.found c.loop-entry.are_distinct rest entries) left c.loop-entry.invariant)

pub returns-clause-ok : goal.returns-clause-ok
returns-clause-ok c =
    let entries = c.args.entries.now in
    let none : drop c.loop-entry.entry-index entries ≡ [] = drop_of_length-le entries {i = c.loop-entry.entry-index} c.loop-entry-test.false in
    let noted = ends c.loop-entry.found c.loop-entry.are_distinct entries (subst (λ rest. Walk c.loop-entry.found c.loop-entry.are_distinct rest entries) none c.loop-entry.invariant) in
    (noted.0, noted.1, c.in_ok-are_serials_distinct.ensures.ok)
