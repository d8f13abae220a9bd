use Rattle.std.proofs.Common.{◌↔◌, IsTrue, rules, subst}
use Rattle.std.proofs.lemmas.Fn.{always_returns_same}
use Rattle.std.specs.Ordering.{is_lt}
use Rattle.x509_crl_index.proofs.Distinct.{by_order}
use Rattle.x509_der.specs.Order.{bytes_cmp}
use Rattle.x509_der.specs.Set.{AreDistinct}
use Rattle.x509_crl_index.proofs.serials.are_serials_distinct.Goals as goal

pub returns : goal.returns
returns c = λ entries read.
    let answer = c.is_sorted_by.ensures.cases (λ a b. is_lt (bytes_cmp a.now b.now)) (always_returns_same _ _ _ (λ a r f' k. search rules)) in
    subst (λ found. IsTrue c.is_sorted_by.result ↔ AreDistinct found) (c.in_ok-numbers.ensures entries read)
    (by_order c.in_ok-numbers.numbers.items c.sort_unstable.new.self.items c.is_sorted_by.result c.sort_unstable.ensures.permutation c.sort_unstable.ensures.sorted (rw (← c.deref.ensures.value) answer))
