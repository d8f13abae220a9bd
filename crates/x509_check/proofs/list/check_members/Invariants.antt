use Rattle.std.proofs.Common.{◌≡◌, ◌≤◌, length}
use Rattle.x509_check.specs.Checking.{checked}
use Rattle.x509_der.specs.List.{list_reading}
use Rattle.x509_check.proofs.list.check_members.Given as goal

abbrev pub invariant-loop-rest : goal.invariant-loop-rest
invariant-loop-rest g l = record {
  within : length l.rest ≤ length l.bytes;
  same : checked (list_reading g.T.Grammar.form.reading l.rest) ≡ checked (list_reading g.T.Grammar.form.reading l.bytes);
}

abbrev pub decreases-loop-rest : goal.decreases-loop-rest
decreases-loop-rest g l = length l.rest
