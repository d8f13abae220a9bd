use Rattle.std.proofs.Common.{◌∙◌}
use Rattle.x509_constraints.proofs.Merges.{first_is, merge-left, merge-right}
use Rattle.x509_constraints.proofs.merging.pop_lesser.Goals as goal

pub returns-then-is_first : goal.returns-then-is_first
returns-then-is_first c =
    merge-left _ _ _ c.pop_front.result (first_is _ _ _ _ _ c.front.ensures.item c.front-2.ensures.item c.is_first.ensures ∙ c.if-is_first.true)
    c.pop_front.ensures.items c.pop_front.ensures.rest

pub returns-else-is_first : goal.returns-else-is_first
returns-else-is_first c =
    merge-right _ _ _ c.pop_front-else-is_first.result (first_is _ _ _ _ _ c.front.ensures.item c.front-2.ensures.item c.is_first.ensures ∙ c.if-is_first.false)
    c.pop_front-else-is_first.ensures.items c.pop_front-else-is_first.ensures.rest
