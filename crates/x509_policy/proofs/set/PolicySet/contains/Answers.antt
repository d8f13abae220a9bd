use Rattle.std.proofs.Common.{◌∙◌, rules, sym, ap, subst}
use Rattle.std.specs.Cmp.Lexicographic.{slice_cmp}
use Rattle.std.specs.List.Sorted.{IsSorted}
use Rattle.std.specs.Ordering.{nat_cmp}
use Rattle.std.proofs.lemmas.Fn.{always_returns_same}
use Rattle.x509_policy.specs.Values.{has}
use Rattle.x509_policy.specs.Views.{octets_of}
use Rattle.x509_policy.proofs.Sets.{Order, found, in_order}
use Rattle.x509_policy.proofs.set.PolicySet.contains.Goals as goal

pub returns : goal.returns
returns c =
    let set = c.deref.result.now in
    let policy = c.args.policy.now in
    let sorted : IsSorted Order set = subst (IsSorted Order) (sym c.deref.ensures.value) (in_order _ c.self.invariant) in
    let position = c.binary_search_by.ensures.position (λ q. slice_cmp nat_cmp q.now policy) (always_returns_same _ _ _ (λ a r f' k. search rules)) in
    found set sorted policy c.binary_search_by.result c.binary_search_by.ensures.bound position c.is_ok.result c.is_ok.ensures.value
    ∙ ap (λ l. has l policy) (ap octets_of c.deref.ensures.value ∙ c.self.view_is)
