use Rattle.std.proofs.Common.{◌≡◌, ◌∙◌, ℕ, List, ◌++◌, length, take, drop}
use Rattle.std.proofs.Math.Seq.{take-append_seam}
use Rattle.std.proofs.lemmas.List.Sorted.{length_permutation}
use Rattle.x509_der.specs.Order.{der_order}
use Rattle.x509_der.specs.Ordered.{der_lawful}
use Rattle.x509_der.specs.Writing.{writes}
use Rattle.x509_der.proofs.RisingLists.{distinct_from_rising}
use Rattle.x509_der.proofs.SetOrders.{as_named}
use Rattle.x509_der.proofs.set.SetOfVec.try_from_vec.Goals as goal

-- all items of a vector are put back
put_back : {X : Type 0} (n : ℕ) (xs ys : List X) → length ys ≡ n → take n (ys ++ drop (length ys) xs) ≡ ys
put_back n xs ys is = rw (← is) (take-append_seam ys (drop (length ys) xs))

pub invariant_of-result : goal.invariant_of-result
invariant_of-result g c =
    let back = put_back c.args.items.len c.args.items.items c.sort.new.items (length_permutation _ _ c.sort.ensures.permutation ∙ c.as_mut_slice.ensures.len) in
    rw (c.from_vec.ensures, back) (as_named _ _ g.met.T.SetMember.in_der_order c.sort.new.items (c.sort.ensures.distinct c.if-not-sort.false))

pub returns-clause-ok : goal.returns-clause-ok
returns-clause-ok g c =
    let back = put_back c.args.items.len c.args.items.items c.sort.new.items (length_permutation _ _ c.sort.ensures.permutation ∙ c.as_mut_slice.ensures.len) in
    rw (c.from_vec.ensures, back) (rw (← c.as_mut_slice.ensures.value) c.sort.ensures.permutation, c.sort.ensures.distinct c.if-not-sort.false)

pub returns-clause-distinct : goal.returns-clause-distinct
returns-clause-distinct g c =
    let lawful = der_lawful g.T.Grammar.form (writes g.T.Encode.writing) g.T.ValueOrd.order g.met.T.ValueOrd.ordered in
    distinct_from_rising lawful.total c.args.items.items c.sort.new.items (rw (← c.as_mut_slice.ensures.value) c.sort.ensures.permutation) (c.sort.ensures.distinct c.if-not-sort.false)
