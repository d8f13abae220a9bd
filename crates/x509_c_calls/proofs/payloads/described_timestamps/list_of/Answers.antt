use Rattle.std.proofs.Common.{map}
use Rattle.x509_c_calls.proofs.DescribedTimestamps.{refuses_long}
use Rattle.x509_c_calls.proofs.payloads.described_timestamps.list_of.Goals as goal
use Rattle.x509_c_calls.specs.Pieces.{AreCut}

pub returns-in-Err : goal.returns-in-Err
returns-in-Err c =
    let cut : AreCut c.args.timestamps.now c.args.lens.now (map (λ piece. piece.now) c.in-Some.pieces.items) = rw c.in-Some.is at c.in-Ok.ensures in
    refuses_long _ _ _ _ _ c.as_slice.ensures.value cut c.in-Err.ensures
