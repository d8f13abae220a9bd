use Rattle.std.proofs.Common.{◌≡◌, ◌∙◌, ap, subst, sym}
use Rattle.std.proofs.lemmas.List.{take_all}
use Rattle.std.specs.List.Sorted.{IsPermutation}
use Rattle.x509_lint.proofs.SortedOids.{octets_of, same}
use Rattle.x509_lint.specs.Values.{policy_identifiers}
use Rattle.x509_lint.proofs.asserted.is_one_unasserted.Goals as goal

pub returns : goal.returns
returns c =
    let policies = c.args.policies.now in
    let items = c.loop-policy.identifiers.items in
    let listed : octets_of items ≡ policy_identifiers policies = c.loop-policy.invariant ∙ ap policy_identifiers (take_all c.loop-policy.policy-index policies c.loop-policy-test.false) in
    let moved : IsPermutation items c.as_slice.result.now = subst (IsPermutation items) (sym c.as_slice.ensures.value) c.sort_unstable.ensures.permutation in
    c.lack_one.ensures ∙ same items c.as_slice.result.now policies c.args.mappings.now listed moved
