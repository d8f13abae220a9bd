use Rattle.std.proofs.Common.{◌≡◌, ◌∙◌, false, ap, not, refl, rules, subst, sym}
use Rattle.std.proofs.lemmas.Bool.{not-true, true≢false}
use Rattle.x509_path_steps.specs.Validation.{has_all}
use Rattle.x509_validation.proofs.processed.lacks_usage.Goals as goal

pub returns-in-Some : goal.returns-in-Some
returns-in-Some c =
    let found = c.in-Some.usage in
    let said : c.contains.result ≡ has_all found c.args.asked = search rules in (
      (λ is. (found, (c.in-Some.ensures found).1 refl, sym said ∙ not-true _ is)),
      (λ (usage, has, lacks).
          let e = (c.in-Some.ensures usage).0 has in
          let same : usage ≡ found = cc in
          ap not (said ∙ subst (λ u. has_all u c.args.asked ≡ false) same lacks)),
    )

pub returns-in-None : goal.returns-in-None
returns-in-None c = (
  (λ never. absurd (true≢false (sym never))),
  (λ (usage, has, lacks). let e = (c.in-None.ensures usage).0 has in absurd (cc)),
)
