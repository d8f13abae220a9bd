use Rattle.std.proofs.Common.{◌+◌, ◌-◌, arith, length}
use Rattle.x509_crl_index.proofs.Counting.{count_more, count_none}
use Rattle.x509_crl_index.proofs.Putting.{rest_shorter}
use Rattle.x509_crl_index.specs.Places.{places_in}
use Rattle.x509_crl_index.proofs.places.place_count.Goals as goal

pub loop-piece-smaller : goal.loop-piece-smaller
loop-piece-smaller c = rest_shorter c.loop-piece.rest.now _ c.in-Ok.ensures.exact

pub loop-piece-preserved : goal.loop-piece-preserved
loop-piece-preserved c =
    let octets = c.args.octets.now in
    let rest = c.loop-piece.rest.now in
    let count = c.loop-piece.count in
    let shorter = rest_shorter rest _ c.in-Ok.ensures.exact in record {
      within = omega (arith, shorter, c.loop-piece.invariant.within);
      same = count_more (length octets) count (length (places_in octets)) rest _ (length octets - count) (length octets - (count + 1)) (omega arith) (omega (arith, c.loop-piece.invariant.within)) c.loop-piece.invariant.same c.in-Ok.ensures.exact;
    }

pub returns : goal.returns
returns c =
    let octets = c.args.octets.now in
    let none = count_none (length octets) c.loop-piece.rest.now _ (length octets - c.loop-piece.count) (rw c.in_default.ensures.err at c.in_default.ensures.exact) in
    omega (arith, c.loop-piece.invariant.same, none)
