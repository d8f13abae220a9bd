use Rattle.std.proofs.Common.{inl, inr, refl}
use Rattle.x509_c_calls.proofs.DescribedTimestamps.{long_stands}
use Rattle.x509_c_calls.proofs.payloads.described_timestamps.vectors_of.Goals as goal

pub returns-in-Err-InvalidVectorLength : goal.returns-in-Err-InvalidVectorLength
returns-in-Err-InvalidVectorLength c =
    inr (
      refl,
      long_stands c.args.pieces.now c.loop-piece.piece-index _ c.loop-piece-test.true (elim c.in-Err-InvalidVectorLength.ensures.err [
        | inl long ↦ long.1
        | inr memory ↦ (let other = memory.0 in let it = c.in-Err-InvalidVectorLength.field-0-is in absurd cc)
      ]),
    )
