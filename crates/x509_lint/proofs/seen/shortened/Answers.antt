use Rattle.std.proofs.Common.{arith, sym}
use Rattle.std.proofs.lemmas.List.{length-take-le}
use Rattle.x509_lint.proofs.seen.shortened.Goals as goal

pub slice_bounds-encode-end : goal.slice_bounds-encode-end
slice_bounds-encode-end c =
    let enough = c.if-octets-gt-SEEN.true in
    sym (length-take-le 32 c.args.octets.now (omega arith))
