use Rattle.std.proofs.Common.{◌≡◌, length}
use Rattle.x509_base.specs.Fills.{after_fills, BeginWithZero}
use Rattle.x509_base.proofs.generate.draw.Given as goal

abbrev pub invariant-loop-done : goal.invariant-loop-done
invariant-loop-done g l = record {
  zeros : BeginWithZero (length l.fn.octets) (g.R.Rng.stream l.fn.rng) l._done;
  rest : g.R.Rng.stream l.rng ≡ after_fills (length l.fn.octets) (g.R.Rng.stream l.fn.rng) l._done;
}
