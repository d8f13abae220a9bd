use Rattle.std.proofs.lemmas.List.Sorted.{IsPermutation-insert}
use Rattle.x509_der.specs.Ordered.{der_lawful}
use Rattle.x509_der.specs.Writing.{writes}
use Rattle.x509_der.proofs.RisingLists.{searched, put_sorted, absent}
use Rattle.x509_der.proofs.set.put.Goals as goal

pub returns-in_ok-insert-in-Err-clause-put : goal.returns-in_ok-insert-in-Err-clause-put
returns-in_ok-insert-in-Err-clause-put g c = rw c.in_ok-insert-in-Err.ensures.ok (IsPermutation-insert c.args.members.now c.in-Err.at c.args.item)

pub returns-in_ok-insert-in-Err-clause-sorted : goal.returns-in_ok-insert-in-Err-clause-sorted
returns-in_ok-insert-in-Err-clause-sorted g c =
    let o = (der_lawful g.T.Grammar.form (writes g.T.Encode.writing) g.T.ValueOrd.order g.met.T.ValueOrd.ordered).total in
    let s = c.requires in
    rw c.in_ok-insert-in-Err.ensures.ok (put_sorted o c.args.members.now c.args.item c.in-Err.at (rw (← c.as_slice.ensures) c.in-Err.ensures.bound) s (searched o c.args.members.now c.args.item c.in-Err.at s (rw (← c.as_slice.ensures) c.in-Err.ensures.found)))

pub returns-in_ok-insert-in-Err-clause-duplicate :
    goal.returns-in_ok-insert-in-Err-clause-duplicate
returns-in_ok-insert-in-Err-clause-duplicate g c =
    let o = (der_lawful g.T.Grammar.form (writes g.T.Encode.writing) g.T.ValueOrd.order g.met.T.ValueOrd.ordered).total in
    let p = searched o c.args.members.now c.args.item c.in-Err.at c.requires (rw (← c.as_slice.ensures) c.in-Err.ensures.found) in
    λ there. absurd (absent o c.args.members.now c.args.item c.in-Err.at p there)

pub returns-in_err-insert-in-Err-clause-duplicate :
    goal.returns-in_err-insert-in-Err-clause-duplicate
returns-in_err-insert-in-Err-clause-duplicate g c =
    let o = (der_lawful g.T.Grammar.form (writes g.T.Encode.writing) g.T.ValueOrd.order g.met.T.ValueOrd.ordered).total in
    let p = searched o c.args.members.now c.args.item c.in-Err.at c.requires (rw (← c.as_slice.ensures) c.in-Err.ensures.found) in
    λ there. absurd (absent o c.args.members.now c.args.item c.in-Err.at p there)
