use Rattle.std.proofs.Common.{◌+◌, arith}
use Rattle.x509_tool_run.proofs.Transfers.{Moves-counted, Moves-length}
use Rattle.x509_tool_run.proofs.Inputs.{ends_unkept}
use Rattle.x509_tool_run.proofs.input.read_input.Goals as goal

pub returns-in_err-extend_from_slice-in-Ok : goal.returns-in_err-extend_from_slice-in-Ok
returns-in_err-extend_from_slice-in-Ok g c =
    let taken = Moves-counted g.R.Source.gives _ _ _ _ _ _ _ c.loop-reads.invariant.came c.in-Ok.ensures.gives c.in-Ok.count-test.1 c.in-Ok.ensures.fits in
    ends_unkept (λ x. x.items) g.R.Source.gives _ _ _ c.from_residual.ensures.1 (_, _, taken, omega (arith, c.loop-reads-test.true))

pub returns-then-len-gt-INPUT_LIMIT : goal.returns-then-len-gt-INPUT_LIMIT
returns-then-len-gt-INPUT_LIMIT g c =
    let taken = Moves-counted g.R.Source.gives _ _ _ _ _ _ _ c.loop-reads.invariant.came c.in-Ok.ensures.gives c.in-Ok.count-test.1 c.in-Ok.ensures.fits in
    (c.extend_from_slice.new.self.items, c.loop-reads._reads + 1, rw c.in_ok-extend_from_slice-in-Ok.ensures.items taken, omega (arith, c.if-len-gt-INPUT_LIMIT.true, c.len.ensures, c.extend_from_slice.new.self.ok), omega (arith, c.loop-reads-test.true))

pub loop-reads-preserved : goal.loop-reads-preserved
loop-reads-preserved g c =
    let taken = Moves-counted g.R.Source.gives _ _ _ _ _ _ _ c.loop-reads.invariant.came c.in-Ok.ensures.gives c.in-Ok.count-test.1 c.in-Ok.ensures.fits in
    record {
      came = rw c.in_ok-extend_from_slice-in-Ok.ensures.items taken;
      short = omega (arith, c.if-len-gt-INPUT_LIMIT.false, c.len.ensures, c.extend_from_slice.new.self.ok);
    }

pub returns : goal.returns
returns g c =
    let most = Moves-length g.R.Source.gives _ _ _ _ c.loop-reads.invariant.came in
    (_, _, c.loop-reads.invariant.came, omega (arith, most, c.loop-reads-test.false), c.loop-reads.auto._reads-end)
