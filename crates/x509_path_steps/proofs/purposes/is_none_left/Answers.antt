use Rattle.std.proofs.Common.{◌≡◌, ◌∙◌, Bor, ℕ, List, Some, None, ap, eq-eqb, length, subst, sym, arith}
use Rattle.std.proofs.lemmas.Bool.{eqb-true, true≢false}
use Rattle.std.proofs.lemmas.List.{length-map, nil_from_length}
use Rattle.std.specs.Option.{option_map}
use Rattle.x509_path_steps.proofs.LeftPurposes.{none_asked, none_left}
use Rattle.x509_path_steps.proofs.purposes.is_none_left.Goals as goal
use Rattle.x509_path_steps.specs.Steps.{AreLeft}
use Rattle.x509_policy.specs.Views.{octets_of}

pub returns-in-Some : goal.returns-in-Some
returns-in-Some c = λ purposes asked are.
    let items = c.in-Some.left.items in
    let there : AreLeft purposes asked (Some (octets_of items)) = subst (λ o. AreLeft purposes asked (option_map (λ v. octets_of v.items) o)) c.in-Some.is are in
    let lacks = none_left purposes asked (octets_of items) there in (
      (λ is. lacks.0 (ap octets_of (nil_from_length items (sym c.in-Some.left.ok.0 ∙ eqb-true _ _ (sym c.is_empty.ensures ∙ is))))),
      (λ lack. let none : length items ≡ 0 = omega (arith, length-map items (λ (p : Bor (List ℕ)). p.now), ap length (lacks.1 lack)) in c.is_empty.ensures ∙ eq-eqb _ _ (c.in-Some.left.ok.0 ∙ none)),
    )

pub returns-in-None : goal.returns-in-None
returns-in-None c = λ purposes asked are.
    let none : AreLeft purposes asked None = subst (λ o. AreLeft purposes asked (option_map (λ v. octets_of v.items) o)) c.in-None.is are in
    ((λ never. absurd (true≢false (sym never))), (λ lack. absurd (none_asked purposes asked none lack)))
