use Rattle.std.proofs.Common.{◌≡◌, is_lt, rules}
use Rattle.std.proofs.lemmas.Fn.{always_returns_same}
use Rattle.std.proofs.lemmas.List.Sorted.{ranks_by}
use Rattle.x509_crl_index.proofs.Order.{key_total}
use Rattle.x509_crl_index.specs.Places.{key_at, key_cmp}
use Rattle.x509_crl_index.proofs.places.sort_places.Goals as goal

pub returns-clause-order : goal.returns-clause-order
returns-clause-order c =
    let octets = c.args.octets.now in
    c.sort_unstable_by.ensures.sorted (λ a b. is_lt (key_cmp (key_at octets a) (key_at octets b))) (ranks_by key_total (key_at octets))
    (always_returns_same _ (λ a r. is_lt r ≡ is_lt (key_cmp (key_at octets a.0.now) (key_at octets a.1.0.now))) _ (λ a r f h. search rules))
