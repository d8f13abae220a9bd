use Rattle.std.proofs.Common.{◌≡◌, Err}
use Rattle.x509_der.specs.ElementReading.{piece_at}
use Rattle.x509_der.specs.declared.error.ErrorKind.TheVariants.{Malformed}
use Rattle.x509_crl_index.proofs.Putting.{rest_shorter}
use Rattle.x509_crl_index.proofs.SerialWalks.{ends, goes_on}
use Rattle.x509_crl_index.proofs.serials.serials_of.Goals as goal

pub loop-piece-smaller : goal.loop-piece-smaller
loop-piece-smaller c = rest_shorter c.loop-piece.rest.now _ c.in-Ok.ensures.exact

pub loop-piece-preserved : goal.loop-piece-preserved
loop-piece-preserved c =
    goes_on c.loop-piece.numbers.items c.push.new.self.items c.front_content.result c.loop-piece.rest.now c.args.octets.now
    (record { tag = c.in-Ok.piece.tag; content = c.in-Ok.piece.content.now; rest = c.in-Ok.piece.rest.now })
    c.in_ok-push.ensures.items c.front_content.ensures c.in-Ok.ensures.exact c.loop-piece.invariant

pub returns : goal.returns
returns c =
    let at : piece_at c.loop-piece.rest.now ≡ Err Malformed = rw c.in_default.ensures.err at c.in_default.ensures.exact in
    ends c.loop-piece.numbers.items c.loop-piece.rest.now c.args.octets.now Malformed at c.loop-piece.invariant
