use Rattle.std.proofs.Common.{refl, ap, ◌∙◌, arith, inr}
use Rattle.x509_der.specs.declared.error.Error.{Error}
use Rattle.x509_name.proofs.Unescaping.{on_position, keep_on, keep_gives, fails, at_the_end, ends_between, ends_within}
use Rattle.x509_name.proofs.text.escapes.unescape.Goals as goal
use Rattle.x509_name.proofs.text.escapes.unescape.Goals.{in-On, in-Gives}

pub returns-in-Fails-clause-err : goal.returns-in-Fails-clause-err
returns-in-Fails-clause-err c =
    inr (
      ap (λ (e : Error). e.kind) c.into.ensures,
      fails c.args.text.now c.loop-byte.bytes.items c.loop-byte.byte-index _ c.loop-byte.position (omega arith) refl c.in-Fails.ensures c.loop-byte.invariant.so_far,
    )

pub loop-byte-preserved : goal.loop-byte-preserved
loop-byte-preserved c =
    elim c.match-step.branch [
      | in-On w ↦ rw (w.position-is, w.bytes-is) (record {
        at = on_position c.loop-byte.position w.in-On.next _ c.loop-byte.invariant.at w.in-On.ensures;
        so_far = keep_on c.args.text.now c.loop-byte.bytes.items c.loop-byte.byte-index _ c.loop-byte.position w.in-On.next (omega arith) refl w.in-On.ensures c.loop-byte.invariant.so_far;
        within = omega (arith, c.loop-byte.invariant.within);
        room = c.loop-byte.invariant.room;
      })
      | in-Gives w ↦ rw (w.position-is, w.bytes-is, w.push_reserved.ensures.items) (record {
        at = tt;
        so_far = keep_gives c.args.text.now c.loop-byte.bytes.items c.loop-byte.byte-index _ c.loop-byte.position w.in-Gives.byte (omega arith) refl w.in-Gives.ensures c.loop-byte.invariant.so_far;
        within = omega (arith, c.loop-byte.invariant.within, w.push_reserved.ensures.len);
        room = w.push_reserved.ensures.capacity ∙ c.loop-byte.invariant.room;
      })
    ]

pub returns-in-Between-clause-ok : goal.returns-in-Between-clause-ok
returns-in-Between-clause-ok c =
    ends_between c.args.text.now c.loop-byte.bytes.items
    (rw c.in-Between.is at (at_the_end c.args.text.now c.loop-byte.bytes.items c.loop-byte.byte-index c.loop-byte.position (omega arith) (omega arith) c.loop-byte.invariant.so_far))

pub returns-in_default : goal.returns-in_default
returns-in_default c = record {
  ok = tt;
  err = inr (
    ap (λ (e : Error). e.kind) c.into-in_default.ensures,
    ends_within c.args.text.now c.loop-byte.bytes.items c.loop-byte.position c.in_default.not-Between
        (at_the_end c.args.text.now c.loop-byte.bytes.items c.loop-byte.byte-index c.loop-byte.position (omega arith) (omega arith) c.loop-byte.invariant.so_far),
  );
}
