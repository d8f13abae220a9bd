use Rattle.std.proofs.Common.{◌↔◌, [], ◌∷◌, Some, refl, subst, sym}
use Rattle.std.proofs.lemmas.List.Elements.{All-nil}
use Rattle.std.specs.Bool.{IsTrue}
use Rattle.std.specs.Option.{option_map}
use Rattle.x509_path_steps.proofs.LeftPurposes.{narrowed}
use Rattle.x509_path_steps.proofs.purposes.lacks_purposes.Goals as goal
use Rattle.x509_path_steps.specs.Steps.{AreLeft}
use Rattle.x509_path_steps.specs.Validation.{AllowsPurpose, LackPurpose}
use Rattle.x509_policy.specs.Views.{octets_of}

pub returns : goal.returns
returns c = λ certificate same.
    let wanted = octets_of c.in-Some.purposes.now in
    let found = octets_of c.in_ok-allowed.field-0.items in
    let left : AreLeft (Some wanted) (certificate ∷ []) (Some found) =
    narrowed (Some wanted) [] certificate wanted found (wanted, refl, (λ p. ((λ within. (within, All-nil (λ d. AllowsPurpose p d))), (λ h. h.0)))) (c.in_ok-allowed.ensures certificate same) in
    subst (λ o. IsTrue c.is_none_left.result ↔ LackPurpose (option_map (λ ps. octets_of ps.now) o) (certificate ∷ [])) (sym c.in-Some.is)
    (c.is_none_left.ensures (Some wanted) (certificate ∷ []) left)
