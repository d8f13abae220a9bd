use Rattle.std.proofs.Common.{◌≡◌, ◌∙◌, inl, inr, Bor, List, [], ℕ, length, Some, ap, subst, sym}
use Rattle.std.proofs.lemmas.Bool.{eqb-false, eqb-true}
use Rattle.std.proofs.lemmas.List.{nil_from_length}
use Rattle.x509_der.specs.Any.{any}
use Rattle.x509_path_steps.proofs.WorkingKeys.{none_given, some_given}
use Rattle.x509_path_steps.proofs.above.given.Goals as goal
use Rattle.x509_path_steps.specs.Inputs.{SpellsOption}

pub returns-then-is_empty : goal.returns-then-is_empty
returns-then-is_empty c = λ parameters within is.
    none_given parameters c.args.octets.now is (inl (nil_from_length c.args.octets.now (eqb-true _ _ (sym c.is_empty.ensures ∙ c.if-is_empty.true))))

pub returns-then-is_null : goal.returns-then-is_null
returns-then-is_null c = λ parameters within is. none_given parameters c.args.octets.now is (inr (sym c.is_null.ensures ∙ c.if-is_null.true))

pub returns : goal.returns
returns c = λ parameters within is.
    let some : c.args.octets.now ≡ [] → ⊥ = λ empty. eqb-false _ _ (sym c.is_empty.ensures ∙ c.if-is_empty.false) (ap length empty) in
    let found = some_given parameters c.args.octets.now within is some (sym c.is_null.ensures ∙ c.if-is_null.false) in
    subst (λ g. SpellsOption (λ (lent : Bor (List ℕ)). lent.now) any (Some c.args.octets) g) (sym found.1) found.2
