use Rattle.std.proofs.Common.{◌≡◌, length}
use Rattle.std.specs.List.{list_any}
use Rattle.x509_lint.specs.Notices.{is_faulty_qualifier}
use Rattle.x509_lint.proofs.notices.are_faulty_qualifiers.Given as goal

abbrev pub invariant-loop-qualifiers : goal.invariant-loop-qualifiers
invariant-loop-qualifiers l = list_any (is_faulty_qualifier l.fault) l.qualifiers ≡ list_any (is_faulty_qualifier l.fault) l.initial.qualifiers

abbrev pub decreases-loop-qualifiers : goal.decreases-loop-qualifiers
decreases-loop-qualifiers l = length l.qualifiers
