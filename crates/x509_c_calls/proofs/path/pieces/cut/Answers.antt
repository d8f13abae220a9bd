use Rattle.std.proofs.Common.{◌<◌, length, map, arith}
use Rattle.x509_c_calls.proofs.Cuts.{too_few, too_many}
use Rattle.x509_c_calls.proofs.path.pieces.cut.Goals as goal

pub returns-then-rest-len : goal.returns-then-rest-len
returns-then-rest-len c = too_few c.args.bytes.now c.args.lens.now c.loop-len.len-index (map (λ piece. piece.now) c.loop-len.pieces.items) c.loop-len.rest.now c.loop-len.invariant 0 c.loop-len-test.true c.if-rest-len.true

pub returns : goal.returns
returns c =
    let some : 0 < length c.loop-len.rest.now = grind (arith, c.if-is_empty.ensures) in
    too_many c.args.bytes.now c.args.lens.now c.loop-len.len-index (map (λ piece. piece.now) c.loop-len.pieces.items) c.loop-len.rest.now c.loop-len.invariant c.loop-len-test.false some
