use Rattle.std.proofs.Common.{◌≡◌, ◌<◌, ◌∙◌, inl, length, refl, sym, subst, arith}
use Rattle.std.proofs.lemmas.Bool.{true≢false}
use Rattle.std.proofs.lemmas.Bool.Decides.{nat_tests}
use Rattle.x509_ext.specs.declared.pkix.name.general_name.GeneralName.TheVariants.{DirectoryName}
use Rattle.x509_revocation.specs.Names.{HasMatch}
use Rattle.x509_revocation.proofs.NextNames.{names_cases, names_end, pass_match}
use Rattle.x509_revocation.proofs.issuers.has_name.Goals as goal

pub returns-then-is_first : goal.returns-then-is_first
returns-then-is_first c = λ value x spells name.
    let more : 0 < length c.loop-rest.rest.now = grind (arith, nat_tests) in
    let k = c.loop-rest.invariant value x spells name in
    let s = names_cases _ k.0 k.1 more in
    let f = c.next_name.ensures.front s.0 s.1 s.3 in
    let same = (c.in_ok-is_first.ensures s.0 x f.0 name).0 c.if-is_first.true in
    ((λ is. k.2.0 (subst (HasMatch (DirectoryName x)) (sym s.2) (inl same))), (λ has. refl))

pub loop-rest-preserved : goal.loop-rest-preserved
loop-rest-preserved c = λ value x spells name.
    let more : 0 < length c.loop-rest.rest.now = grind (arith, nat_tests) in
    let k = c.loop-rest.invariant value x spells name in
    let s = names_cases _ k.0 k.1 more in
    let f = c.next_name.ensures.front s.0 s.1 s.3 in
    (s.1, f.1, pass_match (DirectoryName x) s.0 s.1 value.0 (λ same. true≢false (sym ((c.in_ok-is_first.ensures s.0 x f.0 name).1 same) ∙ c.if-is_first.false)) (rw s.2 at k.2))

pub returns : goal.returns
returns c = λ value x spells name.
    let none : length c.loop-rest.rest.now ≡ 0 = grind (arith, nat_tests) in
    let k = c.loop-rest.invariant value x spells name in
    let e = names_end _ k.0 k.1 none in
    ((λ never. absurd (true≢false (sym never))), (λ has. absurd (rw e at (k.2.1 has))))
