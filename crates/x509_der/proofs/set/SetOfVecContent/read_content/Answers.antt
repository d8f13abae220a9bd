use Rattle.std.proofs.Common.{◌≡◌, true, false, sym, ◌∙◌, refl}
use Rattle.x509_der.specs.Set.{is_rising, set_reading}
use Rattle.x509_der.specs.Writing.{writes}
use Rattle.x509_der.specs.Order.{der_order}
use Rattle.x509_der.specs.SetLaws.{sorted_from_rising}
use Rattle.x509_der.proofs.SetOrders.{as_named}
use Rattle.x509_der.proofs.set.SetOfVecContent.read_content.Goals as goal

pub invariant_of-result : goal.invariant_of-result
invariant_of-result g c = as_named _ _ g.met.T.SetMember.in_der_order c.in_ok-members.members (sorted_from_rising _ c.in_ok-members.members (rw (← c.as_slice.ensures) (sym c.is_rising.ensures ∙ c.if-not-is_rising.false)))

pub returns-then-not-is_rising-clause-exact : goal.returns-then-not-is_rising-clause-exact
unfolding set_reading
returns-then-not-is_rising-clause-exact g c =
    let falls : is_rising (der_order g.T.Grammar.form (writes g.T.Encode.writing) g.T.ValueOrd.order) c.in_ok-members.members ≡ false = rw (← c.as_slice.ensures) (sym c.is_rising.ensures ∙ c.if-not-is_rising.true) in
    rw (c.into.ensures, c.in_ok-members.ensures.exact, falls) refl

pub returns-clause-exact : goal.returns-clause-exact
unfolding set_reading
returns-clause-exact g c =
    let rises : is_rising (der_order g.T.Grammar.form (writes g.T.Encode.writing) g.T.ValueOrd.order) c.in_ok-members.members ≡ true = rw (← c.as_slice.ensures) (sym c.is_rising.ensures ∙ c.if-not-is_rising.false) in
    rw (c.in_ok-members.ensures.exact, rises) refl
