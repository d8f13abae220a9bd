use Rattle.std.proofs.Common.{◌≡◌, ◌<◌, ◌∙◌, inl, length, refl, sym, subst, arith}
use Rattle.std.proofs.lemmas.Bool.{true≢false}
use Rattle.std.proofs.lemmas.Bool.Decides.{nat_tests}
use Rattle.std.specs.Option.{option_copied}
use Rattle.x509_revocation.specs.Names.{HasDirectoryName}
use Rattle.x509_revocation.proofs.NextNames.{names_cases, names_end, none_directory, pass_other, same_some, some_directory}
use Rattle.x509_revocation.proofs.issuers.has_directory_name.Goals as goal

pub returns-then-is_some : goal.returns-then-is_some
returns-then-is_some c = λ value spells.
    let more : 0 < length c.loop-rest.rest.now = grind (arith, nat_tests) in
    let k = c.loop-rest.invariant value spells in
    let s = names_cases _ k.0 k.1 more in
    let f = c.next_name.ensures.front s.0 s.1 s.3 in
    let some = same_some c.next_name.result.0 ∙ sym c.is_some.ensures ∙ c.if-is_some.true in
    ((λ is. k.2.0 (subst HasDirectoryName (sym s.2) (inl (some_directory s.0 (option_copied c.next_name.result.0) some f.0)))), (λ has. refl))

pub loop-rest-preserved : goal.loop-rest-preserved
loop-rest-preserved c = λ value spells.
    let more : 0 < length c.loop-rest.rest.now = grind (arith, nat_tests) in
    let k = c.loop-rest.invariant value spells in
    let s = names_cases _ k.0 k.1 more in
    let f = c.next_name.ensures.front s.0 s.1 s.3 in
    let none = same_some c.next_name.result.0 ∙ sym c.is_some.ensures ∙ c.if-is_some.false in
    (s.1, f.1, pass_other s.0 s.1 value.0 (none_directory s.0 (option_copied c.next_name.result.0) none f.0) (rw s.2 at k.2))

pub returns : goal.returns
returns c = λ value spells.
    let none : length c.loop-rest.rest.now ≡ 0 = grind (arith, nat_tests) in
    let k = c.loop-rest.invariant value spells in
    let e = names_end _ k.0 k.1 none in
    ((λ never. absurd (true≢false (sym never))), (λ has. absurd (rw e at (k.2.1 has))))
