use Rattle.std.proofs.Common.{◌≡◌, ◌≤◌, true, [], length}
use Rattle.x509_check.proofs.Rising.{still}
use Rattle.x509_der.specs.List.{list_reading}
use Rattle.x509_der.specs.Form.{spelling}
use Rattle.x509_check.proofs.set.check_rising_members.Given as goal

abbrev pub invariant-loop-rest : goal.invariant-loop-rest
invariant-loop-rest g l = record {
  within : length l.rest ≤ length l.bytes;
  same : still (spelling g.T.Grammar.form) l.rises l.last (list_reading g.T.Grammar.form.reading l.rest) ≡ still (spelling g.T.Grammar.form) true [] (list_reading g.T.Grammar.form.reading l.bytes);
}

abbrev pub decreases-loop-rest : goal.decreases-loop-rest
decreases-loop-rest g l = length l.rest
