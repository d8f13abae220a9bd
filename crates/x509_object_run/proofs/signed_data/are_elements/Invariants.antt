use Rattle.std.proofs.Common.{◌≡◌, length}
use Rattle.std.specs.Result.{is_ok}
use Rattle.x509_der.specs.Any.{any_reading}
use Rattle.x509_der.specs.List.{list_reading}
use Rattle.x509_object_run.proofs.signed_data.are_elements.Given as goal

-- the rest are elements where all are
abbrev pub invariant-loop-piece : goal.invariant-loop-piece
invariant-loop-piece l = is_ok (list_reading any_reading l.rest) ≡ is_ok (list_reading any_reading l.octets)

abbrev pub decreases-loop-piece : goal.decreases-loop-piece
decreases-loop-piece l = length l.rest
