use Rattle.std.proofs.Common.{◌∷◌, [], None}
use Rattle.x509_der.specs.WritingLaws.{puts_after}
use Rattle.x509_prim.proofs.bit_string.BitStringContent.write_content.Goals as goal

pub returns : goal.returns
returns g c =
    let first = c.in_ok-put.ensures.put in
    let second = c.put-2.ensures.put in
    rw (← c.unused_bits.ensures.unused, ← c.raw_bytes.ensures.octets) (puts_after g.R.Room.kind g.met.R.Room.lawful (c.unused_bits.result ∷ []) c.raw_bytes.result.now None None c.in_ok-put.field-0 c.put-2.result c.args.room.now c.put.new.self c.put-2.new.self first second)
