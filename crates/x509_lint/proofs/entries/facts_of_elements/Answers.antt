use Rattle.std.proofs.Common.{◌≡◌, length, arith}
use Rattle.std.proofs.lemmas.Bool.Decides.{nat_tests}
use Rattle.x509_crl_index.specs.Split.{read_entry}
use Rattle.x509_der.specs.ListLaws.{field_shorter}
use Rattle.x509_lint.proofs.EntryWalks.{read_ends, read_goes_on}
use Rattle.x509_lint.proofs.entries.facts_of_elements.Goals as goal

pub loop-rest-smaller : goal.loop-rest-smaller
loop-rest-smaller c = field_shorter read_entry _ _ _ c.in-Ok.ensures.exact

pub loop-rest-preserved : goal.loop-rest-preserved
loop-rest-preserved c =
    read_goes_on c.loop-rest.found c.with-found.result c.loop-rest.are_distinct c.in_ok-are_distinct-in-Ok.are_distinct c.in-Ok.entry c.loop-rest.rest.now c.read_field.new.rest.now c.args.octets.now
    c.in-Ok.ensures.exact c.with-found.ensures c.in_ok-are_distinct-in-Ok.ensures.ok c.loop-rest.invariant

pub returns-clause-ok : goal.returns-clause-ok
returns-clause-ok c = λ entries read.
    let none : length c.loop-rest.rest.now ≡ 0 = grind (arith, nat_tests) in
    let noted = read_ends c.loop-rest.found c.loop-rest.are_distinct c.loop-rest.rest.now c.args.octets.now entries none read c.loop-rest.invariant in
    (noted.0, noted.1, c.in_ok-are_serials_distinct.ensures entries read)
