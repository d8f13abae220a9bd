use Rattle.std.proofs.Common.{arith, sym, true, false}
use Rattle.x509_der.specs.Ordered.{der_lawful}
use Rattle.x509_der.specs.SetLaws.{rising_from_sorted, not_rising}
use Rattle.x509_der.specs.Writing.{writes}
use Rattle.x509_der.proofs.RisingLists.{answered, rising_from_next, rises_more, falls}
use Rattle.x509_der.proofs.set.places.is_rising.Goals as goal

pub loop-i-preserved : goal.loop-i-preserved
loop-i-preserved g c =
    let o = (der_lawful g.T.Grammar.form (writes g.T.Encode.writing) g.T.ValueOrd.order g.met.T.ValueOrd.ordered).total in (
      omega arith,
      rises_more o c.args.members.now c.loop-i.i c.index-members-i.result c.index-members-i-in-loop-i.result c.loop-i.invariant.0 c.loop-i-test.true c.index-members-i.is c.index-members-i-in-loop-i.is
          (answered c.der_cmp.result _ c.is_lt.result true c.der_cmp.ensures c.is_lt.ensures c.if-not-is_lt.false) c.loop-i.invariant.1,
    )

pub returns-then-not-is_lt : goal.returns-then-not-is_lt
returns-then-not-is_lt g c =
    let o = (der_lawful g.T.Grammar.form (writes g.T.Encode.writing) g.T.ValueOrd.order g.met.T.ValueOrd.ordered).total in
    not_rising _ c.args.members.now
    (falls o c.args.members.now c.loop-i.i c.index-members-i.result c.index-members-i-in-loop-i.result
    c.loop-i.invariant.0 c.loop-i-test.true c.index-members-i.is c.index-members-i-in-loop-i.is
    (answered c.der_cmp.result _ c.is_lt.result false c.der_cmp.ensures c.is_lt.ensures c.if-not-is_lt.true))

pub returns : goal.returns
returns g c =
    let o = (der_lawful g.T.Grammar.form (writes g.T.Encode.writing) g.T.ValueOrd.order g.met.T.ValueOrd.ordered).total in
    sym (rising_from_sorted _ c.args.members.now (rising_from_next o c.args.members.now c.loop-i.i c.loop-i-test.false c.loop-i.invariant.1))
