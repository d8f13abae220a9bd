use Rattle.std.proofs.Common.{rules, sym, ◌∙◌}
use Rattle.std.proofs.lemmas.Fn.{always_returns_same}
use Rattle.std.proofs.lemmas.List.Sorted.{IsPermutation-trans, ranks_by}
use Rattle.std.specs.Ordering.{is_lt}
use Rattle.x509_der.specs.Order.{der_order}
use Rattle.x509_der.specs.Ordered.{der_lawful}
use Rattle.x509_der.specs.SetLaws.{not_sorted, sorted_from_rising}
use Rattle.x509_der.specs.Writing.{writes}
use Rattle.x509_der.proofs.RisingLists.{rising_from_distinct}
use Rattle.x509_der.proofs.set.sorting.sort.Goals.{else-items-gt-MAX_COMPARED-via-then-items-gt-MAX_COMPARED+else-rise, else-items-gt-MAX_COMPARED-via-else-items-gt-MAX_COMPARED}
use Rattle.x509_der.proofs.set.sorting.sort.Goals as goal

pub returns-then-rise-clause-distinct : goal.returns-then-rise-clause-distinct
returns-then-rise-clause-distinct g c = λ _. sorted_from_rising _ c.rise.new.items (sym c.rise.ensures.rising ∙ c.if-rise.true)

pub returns-clause-permutation : goal.returns-clause-permutation
returns-clause-permutation g c = elim c.else-items-gt-MAX_COMPARED.branch [
  | else-items-gt-MAX_COMPARED-via-then-items-gt-MAX_COMPARED+else-rise w ↦ IsPermutation-trans _ _ _ w.rise.ensures.permutation (rw (← w.items-is) c.sort_unstable_by.ensures.permutation)
  | else-items-gt-MAX_COMPARED-via-else-items-gt-MAX_COMPARED w ↦ rw (← w.items-is) c.sort_unstable_by.ensures.permutation
]

pub returns-clause-distinct : goal.returns-clause-distinct
returns-clause-distinct g c = λ is. sorted_from_rising _ c.sort_unstable_by.new.self (sym c.is_rising.ensures ∙ is)

pub returns-clause-equal : goal.returns-clause-equal
returns-clause-equal g c = λ is distinct.
    let lawful = der_lawful g.T.Grammar.form (writes g.T.Encode.writing) g.T.ValueOrd.order g.met.T.ValueOrd.ordered in
    let sorted = c.sort_unstable_by.ensures.sorted (λ a b. is_lt (der_order g.T.Grammar.form (writes g.T.Encode.writing) g.T.ValueOrd.order a b)) (ranks_by lawful.total (λ x. x)) (always_returns_same _ _ _ (λ a r f' k. search rules)) in
    not_sorted _ c.sort_unstable_by.new.self (sym c.is_rising.ensures ∙ is) (rising_from_distinct lawful.total lawful.exact c.args.items.now c.sort_unstable_by.new.self (returns-clause-permutation g c) sorted distinct)
