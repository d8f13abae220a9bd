use Rattle.std.proofs.Common.{inr, refl}
use Rattle.x509_c_calls.proofs.DescribedOids.{none_stands}
use Rattle.x509_c_calls.proofs.payloads.described_purposes.identifiers_of.Goals as goal

pub returns-in_default : goal.returns-in_default
returns-in_default c =
    inr (refl, none_stands c.args.pieces.now c.loop-piece.piece-index _ c.loop-piece-test.true (λ (arcs, are, is). let same = c.in_default.ensures.value arcs are is in cc))
