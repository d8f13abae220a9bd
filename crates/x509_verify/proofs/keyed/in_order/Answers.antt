use Rattle.std.proofs.Common.{◌≡◌, ap, is_lt, rules}
use Rattle.std.proofs.lemmas.Fn.{always_returns_same}
use Rattle.std.proofs.lemmas.List.Sorted.{ranks_by}
use Rattle.x509_verify.proofs.keyed.in_order.Goals as goal

pub returns-clause-order : goal.returns-clause-order
returns-clause-order g c = c.in_ok-sort_by.ensures.sorted (λ x y. is_lt (g.K.Ord.cmp x.key y.key)) (ranks_by g.met.K.Ord.total (λ entry. entry.key))
    (always_returns_same _ (λ a r. is_lt r ≡ is_lt (g.K.Ord.cmp a.0.now.key a.1.0.now.key)) _ (λ a r f h. search rules))
