use Rattle.std.proofs.Common.{ℕ, length, arith, ap, ◌∙◌}
use Rattle.rand_core.specs.Stream.{Stream, fill_bytes}
use Rattle.x509_base.proofs.Draws.{no_fills, leaves, drawn, another_zero}
use Rattle.x509_base.proofs.generate.draw.Goals as goal

pub loop-done-init : goal.loop-done-init
loop-done-init g c = record { zeros = λ k h. absurd (omega arith); rest = no_fills _ _ }

pub returns-then-octets-ne0-clause-ok : goal.returns-then-octets-ne0-clause-ok
returns-then-octets-ne0-clause-ok g c =
    let before : Stream = g.R.Rng.stream c.loop-done.rng in
    let filled = c.fill_bytes.ensures ∙ ap (λ (n : ℕ). fill_bytes n before) c.loop-done.auto.octets in
    drawn (length c.args.octets.now) (g.R.Rng.stream c.args.rng.now) before (g.R.Rng.stream c.fill_bytes.new.self) c.fill_bytes.new.dst c.loop-done._done
    c.loop-done.invariant.rest filled c.loop-done.invariant.zeros c.loop-done-test.true c.if-octets-ne0.true

pub loop-done-preserved : goal.loop-done-preserved
loop-done-preserved g c =
    let before : Stream = g.R.Rng.stream c.loop-done.rng in
    let filled = c.fill_bytes.ensures ∙ ap (λ (n : ℕ). fill_bytes n before) c.loop-done.auto.octets in
    record {
      zeros = another_zero (length c.args.octets.now) (g.R.Rng.stream c.args.rng.now) before (g.R.Rng.stream c.fill_bytes.new.self) c.fill_bytes.new.dst c.loop-done._done
          c.loop-done.invariant.rest filled c.loop-done.invariant.zeros c.if-octets-ne0.false;
      rest = leaves (length c.args.octets.now) (g.R.Rng.stream c.args.rng.now) before (g.R.Rng.stream c.fill_bytes.new.self) c.fill_bytes.new.dst c.loop-done._done
          c.loop-done.invariant.rest filled;
    }
