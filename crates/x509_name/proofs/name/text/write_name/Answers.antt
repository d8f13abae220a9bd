use Rattle.std.proofs.Common.{◌<◌, length, reverse, arith, refl, true}
use Rattle.std.proofs.lemmas.List.{length-reverse}
use Rattle.x509_name.proofs.Joins.{written_first, written_next}
use Rattle.x509_name.specs.NameText.{rdn_text}
use Rattle.x509_name.proofs.NameWriting.{at_reverse}
use Rattle.x509_name.proofs.name.text.write_name.Goals as goal
use Rattle.x509_name.proofs.name.text.write_name.Goals.{then-i-gt0+in_ok-write_str, else-i-gt0}

pub loop-i-preserved : goal.loop-i-preserved
loop-i-preserved g c = λ plain.
    let now = c.loop-i.invariant plain in
    let member = c.as_slice.ensures.members in
    let lt : c.loop-i.i < length (reverse c.args.rdns.now) = omega (arith, length-reverse c.args.rdns.now) in
    let at = at_reverse c.args.rdns.now c.loop-i.i _ c.index-rdns-rdns.result (omega arith) refl c.index-rdns-rdns.is in
    elim c.if-i-gt0.branch [
      | then-i-gt0+in_ok-write_str w ↦
          let mark = w.in_ok-write_str.ensures.writes now.plain (refl {a = true}) in
          written_next _ 44 rdn_text (reverse c.args.rdns.now) c.loop-i.i c.index-rdns-rdns.result lt at _ _ _ now w.if-i-gt0.true _ mark (rw (w.f-is, member) at c.in_ok-write_rdn.ensures mark.plain (refl {a = true}))
      | else-i-gt0 w ↦
          written_first _ 44 rdn_text (reverse c.args.rdns.now) c.loop-i.i c.index-rdns-rdns.result lt at _ _ _ now (omega arith) (rw (w.f-is, member) at c.in_ok-write_rdn.ensures now.plain (refl {a = true}))
    ]
