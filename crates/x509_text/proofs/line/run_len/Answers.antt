use Rattle.std.proofs.Common.{◌-◌, ℕ, List, length, take, drop, arith}
use Rattle.x509_text.proofs.Blocks.{rest_len, run_bound, run_behind, run_to_end}
use Rattle.x509_text.proofs.line.run_len.Goals as goal

pub returns-then-len-lt-BLOCK : goal.returns-then-len-lt-BLOCK
returns-then-len-lt-BLOCK c = omega (arith, run_behind c.args.style c.loop-at.at c.args.bytes.now c.loop-at.invariant.1)

pub loop-at-preserved : goal.loop-at-preserved
loop-at-preserved c = (omega arith, omega (arith, run_behind c.args.style c.loop-at.at c.args.bytes.now c.loop-at.invariant.1))

pub is_plain_block-requires : goal.is_plain_block-requires
is_plain_block-requires c = omega (arith, rest_len (length c.args.bytes.now - 16) c.args.bytes.now (omega arith))

pub returns-then-is_plain_block : goal.returns-then-is_plain_block
returns-then-is_plain_block c = run_to_end c.args.style c.loop-at.at c.args.bytes.now (omega arith) c.loop-at.invariant.1 (omega arith) c.if-is_plain_block.ensures

pub returns : goal.returns
returns c =
    let bytes : List ℕ = c.args.bytes.now in
    let at : ℕ = c.loop-at.at in
    omega (arith, run_behind c.args.style at bytes c.loop-at.invariant.1, run_bound c.args.style (take (length bytes - at) (drop at bytes)), rest_len at bytes c.loop-at.invariant.0)
