use Rattle.std.proofs.Common.{◌≡◌, ◌+◌, ◌-◌, ◌<◌, Err, arith, length}
use Rattle.x509_crl_index.proofs.Putting.{all_put, not_none, one_more, rest_shorter}
use Rattle.x509_crl_index.specs.Places.{places_in}
use Rattle.x509_der.specs.ElementReading.{Piece, piece_at}
use Rattle.x509_der.specs.declared.error.ErrorKind.TheVariants.{Malformed}
use Rattle.x509_crl_index.proofs.places.put_places.Goals.{in-Ok, in_default}
use Rattle.x509_crl_index.proofs.places.put_places.Goals as goal

pub loop-place-preserved : goal.loop-place-preserved
loop-place-preserved c =
    let all = places_in c.args.octets.now in
    let total = length c.args.octets.now in
    let places = c.loop-place.places in
    let rest = c.loop-place.rest.now in
    let i = c.loop-place.place-index in
    let less : i < length places = omega arith in
    let long : length places ≡ length all = omega arith in
    elim c.match-split_usual.branch [
      | in-Ok w ↦
          let piece : Piece = record { tag = w.in-Ok.piece.tag; content = w.in-Ok.piece.content.now; rest = w.in-Ok.piece.rest.now } in
          let shorter = rest_shorter rest piece w.in-Ok.ensures.exact in
          let one = one_more total i all places rest less long (total - i) (total - (i + 1)) piece (omega arith) c.loop-place.invariant.same w.in-Ok.ensures.exact in
          rw w.rest-is (record { within = omega (arith, shorter, c.loop-place.invariant.within); same = one })
      | in_default w ↦
          let none : piece_at rest ≡ Err Malformed = rw w.in_default.ensures.err at w.in_default.ensures.exact in
          absurd (not_none total i all places rest less long (total - i) Malformed c.loop-place.invariant.same none)
    ]

pub returns : goal.returns
returns c = all_put (places_in c.args.octets.now) c.loop-place.places _ c.loop-place.place-index c.loop-place.invariant.same (omega arith) (omega arith)
