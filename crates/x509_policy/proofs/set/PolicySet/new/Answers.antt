use Rattle.std.proofs.Common.{sym, subst}
use Rattle.std.specs.Cmp.Lexicographic.{texts_ties}
use Rattle.std.specs.List.Sorted.{IsStrictlySortedBy}
use Rattle.std.proofs.lemmas.List.Filters.{dedup_is}
use Rattle.x509_policy.proofs.Sets.{Order, repeats, sorted_set, strictly}
use Rattle.x509_policy.proofs.set.PolicySet.new.Goals as goal

pub returns-clause-same : goal.returns-clause-same
returns-clause-same c = sorted_set _ (λ x y. texts_ties x.now y.now) _ _ _ c.sort_unstable.ensures.permutation (dedup_is _ _ _ c.dedup.ensures.filtered)

pub returns-clause-once : goal.returns-clause-once
returns-clause-once c = repeats _ (λ x y. texts_ties x.now y.now) _ _ _ c.sort_unstable.ensures.permutation c.sort_unstable.ensures.sorted (dedup_is _ _ _ c.dedup.ensures.filtered)

pub invariant_of-result : goal.invariant_of-result
invariant_of-result c = subst (IsStrictlySortedBy Order) (sym (dedup_is _ _ _ c.dedup.ensures.filtered)) (strictly _ (λ x y. texts_ties x.now y.now) _ c.sort_unstable.ensures.sorted)
