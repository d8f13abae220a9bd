use Rattle.std.proofs.Common.{map}
use Rattle.x509_c_calls.proofs.DescribedNumbers.{refuses_empty}
use Rattle.x509_c_calls.proofs.payloads.described_numbers.numbers_of.Goals as goal
use Rattle.x509_c_calls.specs.Pieces.{AreCut}

pub returns-clause-found : goal.returns-clause-found
returns-clause-found c =
    let cut : AreCut c.args.octets.now c.args.lens.now (map (λ piece. piece.now) c.in-Some.pieces.items) = rw c.in-Some.is at c.in-Ok.ensures in
    refuses_empty _ _ _ _ _ c.as_slice.ensures.value cut c.in-Err.ensures
