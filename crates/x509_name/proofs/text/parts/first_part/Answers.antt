use Rattle.std.proofs.Common.{arith}
use Rattle.x509_name.proofs.CutLoops.{passes_escaped, passes_other, cut_here, cut_none}
use Rattle.x509_name.proofs.text.parts.first_part.Goals as goal
use Rattle.x509_name.proofs.text.parts.first_part.Goals.{then-escaped, else-escaped+else-byte-separator}

pub returns-then-byte-separator : goal.returns-then-byte-separator
returns-then-byte-separator c =
    cut_here c.args.separator c.args.text.now c.loop-i.i (omega arith) (rw c.if-escaped.false at c.loop-i.invariant) c.if-byte-separator.true

pub loop-i-preserved : goal.loop-i-preserved
loop-i-preserved c =
    elim c.if-escaped.branch [
      | then-escaped w ↦
          rw w.escaped-is (passes_escaped c.args.separator c.args.text.now c.loop-i.i (omega arith) (rw w.if-escaped.true at c.loop-i.invariant))
      | else-escaped+else-byte-separator w ↦
          rw w.escaped-is (passes_other c.args.separator c.args.text.now c.loop-i.i (omega arith) (rw w.if-escaped.false at c.loop-i.invariant) w.if-byte-separator.false)
    ]

pub returns : goal.returns
returns c = cut_none c.args.separator c.args.text.now c.loop-i.i c.loop-i.escaped (omega arith) c.loop-i.invariant
