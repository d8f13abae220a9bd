use Rattle.std.proofs.Common.{arith}
use Rattle.x509_text.proofs.Runs.{char_written, char_shorter}
use Rattle.x509_text.proofs.line.write_few.Goals as goal

pub loop-left-preserved : goal.loop-left-preserved
loop-left-preserved c =
    let steps = c.in-Some.ensures.steps in
    let is = rw (c.chars-chars.ensures.rest, ← c.as_str-rest.ensures) at steps.0 in
    record {
      utf8 = c.as_str-rest.utf8;
      so_far = char_written c.args.style c.in-Some.c _ _ c.loop-left.rest.now _ _ c.loop-left.invariant.utf8 is c.loop-left.invariant.so_far c.in_ok-write_char-in-Some.ensures;
      within = omega (arith, char_shorter c.in-Some.c c.loop-left.rest.now c.as_str-rest.result.now is);
    }
