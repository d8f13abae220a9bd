use Rattle.std.proofs.Common.{◌≡◌, [], inl, inr, refl, arith}
use Rattle.x509_tool_run.proofs.Transfers.{Moves-counted}
use Rattle.x509_test_rows_run.proofs.Running.{whole_ok, whole_err, part_ok, part_err, front_err}
use Rattle.x509_test_rows_run.proofs.program.read_and_answer.Goals as goal

pub returns-in-Ok-eq0-clause-ok : goal.returns-in-Ok-eq0-clause-ok
returns-in-Ok-eq0-clause-ok g c =
    whole_ok g.C.Codec.reencodes g.R.Source.gives g.W.Sink.takes _ _ _ _ _ _ _ _ _ _ (c.args.held.now.items ≡ []) _ c.end_input.result c.loop-reads.invariant (rw c.in-Ok-eq0.field-0-test at c.in-Ok-eq0.ensures.gives) c.end_input.ensures.status c.end_input.ensures.ok

pub returns-in-Ok-eq0-clause-err : goal.returns-in-Ok-eq0-clause-err
returns-in-Ok-eq0-clause-err g c =
    whole_err g.C.Codec.reencodes g.R.Source.gives g.W.Sink.takes _ _ _ _ _ _ _ _ _ (c.args.held.now.items ≡ []) _ c.end_input.result c.loop-reads.invariant (rw c.in-Ok-eq0.field-0-test at c.in-Ok-eq0.ensures.gives) c.end_input.ensures.err

pub returns-in-Err-clause-ok : goal.returns-in-Err-clause-ok
returns-in-Err-clause-ok g c =
    let h = c.loop-reads.invariant in
    part_ok g.C.Codec.reencodes g.R.Source.gives g.W.Sink.takes _ _ _ _ _ _ _ _ _ (c.args.held.now.items ≡ []) h.0 _ c.refuse.result (inl (refl, (_, (_, h.1), c.in-Err.ensures.gives))) h.2 c.refuse.ensures.status c.refuse.ensures.ok

pub returns-in-Err-clause-err : goal.returns-in-Err-clause-err
returns-in-Err-clause-err g c =
    let h = c.loop-reads.invariant in
    part_err g.C.Codec.reencodes g.R.Source.gives g.W.Sink.takes _ _ _ _ _ _ _ _ (c.args.held.now.items ≡ []) h.0 _ c.refuse.result (inl (refl, (_, (_, h.1), c.in-Err.ensures.gives))) h.2 c.refuse.ensures.err

pub loop-reads-preserved : goal.loop-reads-preserved
loop-reads-preserved g c =
    let h = c.loop-reads.invariant in
    let moved = Moves-counted g.R.Source.gives _ _ _ _ _ _ _ h.1 c.in-Ok.ensures.gives c.in-Ok.count-test.1 c.in-Ok.ensures.fits in
    (_, moved, λ clean. c.in-Ok-take_piece.ensures.ok _ h.0 (h.2 clean))

pub returns-clause-ok : goal.returns-clause-ok
returns-clause-ok g c =
    let h = c.loop-reads.invariant in
    let most : c.loop-reads._reads ≡ 18446744073709551615 = omega (arith, c.loop-reads-test.false, c.loop-reads.auto._reads-end) in
    part_ok g.C.Codec.reencodes g.R.Source.gives g.W.Sink.takes _ _ _ _ _ _ _ _ _ (c.args.held.now.items ≡ []) h.0 _ c.refuse-2.result (inr (refl, (_, most, h.1))) h.2 c.refuse-2.ensures.status c.refuse-2.ensures.ok

pub returns-clause-err : goal.returns-clause-err
returns-clause-err g c =
    let h = c.loop-reads.invariant in
    let most : c.loop-reads._reads ≡ 18446744073709551615 = omega (arith, c.loop-reads-test.false, c.loop-reads.auto._reads-end) in
    part_err g.C.Codec.reencodes g.R.Source.gives g.W.Sink.takes _ _ _ _ _ _ _ _ (c.args.held.now.items ≡ []) h.0 _ c.refuse-2.result (inr (refl, (_, most, h.1))) h.2 c.refuse-2.ensures.err

pub returns-in-Err-take_piece-clause-err : goal.returns-in-Err-take_piece-clause-err
returns-in-Err-take_piece-clause-err g c clean =
    let h = c.loop-reads.invariant in
    let moved = Moves-counted g.R.Source.gives _ _ _ _ _ _ _ h.1 c.in-Ok.ensures.gives c.in-Ok.count-test.1 c.in-Ok.ensures.fits in
    front_err g.C.Codec.reencodes g.R.Source.gives g.W.Sink.takes _ _ _ _ _ _ moved (c.in-Err-take_piece.ensures.err _ h.0 (h.2 clean))
