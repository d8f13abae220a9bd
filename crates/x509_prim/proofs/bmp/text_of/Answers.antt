use Rattle.std.proofs.lemmas.Bool.{false≢true}
use Rattle.x509_prim.proofs.Plane.{scalar_front, one_char_more}
use Rattle.x509_prim.proofs.bmp.text_of.Goals as goal

pub unreachable-requires : goal.unreachable-requires
unreachable-requires c =
    let some = c.from_u32.ensures.succeeds (scalar_front c.loop-rest.rest.now c.in-len2-up.len_at_least c.loop-rest.invariant.plane) in
    false≢true (rw c.in_default-from_u32.is at some)

pub loop-rest-preserved : goal.loop-rest-preserved
loop-rest-preserved c =
    let k = one_char_more c.loop-rest.rest.now _ _ _ c.in-Some.c c.in-len2-up.len_at_least c.loop-rest.invariant.plane c.in-Some.ensures.value.1 c.in_ok-push.ensures.bytes c.loop-rest.invariant.text in
    record { text = k.0; plane = k.1 }
