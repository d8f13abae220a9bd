use Rattle.std.proofs.Common.{refl, inl, None, sym, subst}
use Rattle.x509_c_calls.proofs.path.validate.path_validate_under_key.Goals as goal
use Rattle.x509_c_calls.specs.PathValidation.{ValidatesUnderKey, trust_in}
use Rattle.x509_path.specs.Lent.{LendsAnchor}
use Rattle.x509_path.specs.declared.anchor.Anchor.{Anchor}
use Rattle.x509_path_steps.specs.Inputs.{LendsConstraints, LendsPolicies, LendsTrust}

pub returns : goal.returns
unfolding ValidatesUnderKey
returns c =
    let name = c.in_default.ensures.found in
    let key = c.in_default-check.ensures.found in
    let made = c.new-trusted.ensures in
    let anchor : Anchor = record { name = name.0; key = key.0 } in
    let lent : LendsAnchor c.new-trusted.result.anchor anchor = subst (λ a. LendsAnchor a anchor) (sym made.anchor) (name.1, key.1) in
    let none : LendsConstraints c.new-trusted.result.name_constraints None = subst (λ n. LendsConstraints n None) (sym made.constraints) refl in
    let unsaid : LendsPolicies c.new-trusted.result.policies None = subst (λ n. LendsPolicies n None) (sym made.policies) refl in
    let lends : LendsTrust c.new-trusted.result (trust_in anchor) = record { anchor = lent; constraints = none; max_path_length = sym made.length; policies = unsaid; flags = sym made.flags } in
    inl (anchor, name.1, key.1, c.validate_under.ensures (trust_in anchor) lends)
