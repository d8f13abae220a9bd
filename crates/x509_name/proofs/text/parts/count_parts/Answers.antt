use Rattle.std.proofs.Common.{List, ℕ, length, ap, arith}
use Rattle.x509_name.proofs.CutLoops.{count_escaped, count_separator, count_other, count_none}
use Rattle.x509_name.proofs.Cuts.{joined_is_cut}
use Rattle.x509_name.proofs.text.parts.count_parts.Goals as goal
use Rattle.x509_name.proofs.text.parts.count_parts.Goals.{then-escaped, else-escaped+then-byte-separator, else-escaped+else-byte-separator}

pub loop-byte-preserved : goal.loop-byte-preserved
loop-byte-preserved c =
    elim c.if-escaped.branch [
      | then-escaped w ↦
          let so_far = rw w.if-escaped.true at c.loop-byte.invariant.so_far in
          let step = count_escaped c.args.separator c.args.text.now c.loop-byte.byte-index (omega arith) in
          rw (w.count-is, w.escaped-is) (record { bounded = omega (arith, c.loop-byte.invariant.bounded); so_far = omega (arith, step, so_far) })
      | else-escaped+then-byte-separator w ↦
          let so_far = rw w.if-escaped.false at c.loop-byte.invariant.so_far in
          let step = count_separator c.args.separator c.args.text.now c.loop-byte.byte-index (omega arith) w.if-byte-separator.true in
          rw (w.count-is, w.escaped-is, w.if-escaped.false) (record { bounded = omega (arith, c.loop-byte.invariant.bounded); so_far = omega (arith, step, so_far) })
      | else-escaped+else-byte-separator w ↦
          let so_far = rw w.if-escaped.false at c.loop-byte.invariant.so_far in
          let step = count_other c.args.separator c.args.text.now c.loop-byte.byte-index (omega arith) w.if-byte-separator.false in
          rw (w.count-is, w.escaped-is) (record { bounded = omega (arith, c.loop-byte.invariant.bounded); so_far = omega (arith, step, so_far) })
    ]

pub returns-clause-count : goal.returns-clause-count
returns-clause-count c =
    let none = count_none c.args.separator c.args.text.now c.loop-byte.byte-index c.loop-byte.escaped (omega arith) in
    omega (arith, none, c.loop-byte.invariant.so_far)

pub returns-clause-joined : goal.returns-clause-joined
returns-clause-joined c = λ parts joined.
    let none = count_none c.args.separator c.args.text.now c.loop-byte.byte-index c.loop-byte.escaped (omega arith) in
    let same = ap (λ (t : List (List ℕ)). length t) (joined_is_cut c.args.separator parts c.args.text.now joined) in
    omega (arith, none, c.loop-byte.invariant.so_far, same)
