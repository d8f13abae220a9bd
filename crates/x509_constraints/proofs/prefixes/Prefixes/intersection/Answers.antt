use Rattle.std.proofs.lemmas.Result.{IfOk-weaker}
use Rattle.x509_constraints.proofs.Meets.{apart_filter, intersection_answers}
use Rattle.x509_constraints.proofs.prefixes.Prefixes.intersection.Goals as goal

pub invariant_of-outside : goal.invariant_of-outside
invariant_of-outside c = apart_filter _ _ _ c.in_ok-within.ensures.1 c.self.invariant

pub swept-requires-clause-left : goal.swept-requires-clause-left
swept-requires-clause-left c = apart_filter _ _ _ c.in_ok-within.ensures.0 c.self.invariant

pub swept-requires-clause-right : goal.swept-requires-clause-right
swept-requires-clause-right c = apart_filter _ _ _ c.in_ok-under.ensures.0 c.other.invariant

pub returns : goal.returns
returns c =
    IfOk-weaker _ _ _
    (λ set answers. intersection_answers _ _ _ _ _ _ _ set c.self.view_is c.other.view_is c.in_ok-within.ensures.0 c.in_ok-within.ensures.1 c.in_ok-under.ensures.0 answers)
    c.swept.ensures
