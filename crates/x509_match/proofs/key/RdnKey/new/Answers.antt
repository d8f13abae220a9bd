use Rattle.std.proofs.lemmas.List.Sorted.{IsPermutation-map}
use Rattle.x509_match.proofs.key.RdnKey.new.Goals as goal

pub returns : goal.returns
returns c =
    let moved = IsPermutation-map (λ v. v.items) _ _ c.sort.ensures.permutation in
    let from = rw (c.in_ok-attributes.ensures, c.as_slice.ensures.members) at moved in
    record { same = from; sorted = c.in_ok-sort.ensures.sorted }
