use Rattle.std.proofs.Common.{◌≡◌, map, take}
use Rattle.x509_c_calls.proofs.payloads.described_numbers.integers_of.Given as goal
use Rattle.x509_c_calls.specs.DescribedNumbers.{number_of}

abbrev pub invariant-loop-piece : goal.invariant-loop-piece
invariant-loop-piece l = l.numbers ≡ map number_of (map (λ piece. piece.now) (take l.piece-index l.pieces))
