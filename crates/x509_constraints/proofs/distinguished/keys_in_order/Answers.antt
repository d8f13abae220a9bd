use Rattle.std.proofs.lemmas.List.Sorted.{IsPermutation-map}
use Rattle.x509_constraints.proofs.InOrder.{sorted_is}
use Rattle.x509_constraints.proofs.distinguished.keys_in_order.Goals as goal

pub returns : goal.returns
returns c =
    let moved = IsPermutation-map (λ v. v.items) _ _ c.sort.ensures.permutation in
    let from = rw (c.in_ok-keys.ensures, c.as_slice.ensures.members) at moved in
    sorted_is (λ v. v.items) _ _ c.in_ok-sort.ensures.sorted from
