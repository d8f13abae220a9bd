use Rattle.std.proofs.Common.{◌≡◌, length}
use Rattle.x509_lint.specs.Text.{is_among}
use Rattle.x509_lint.proofs.texts.is_among.Given as goal

abbrev pub invariant-loop-numbers : goal.invariant-loop-numbers
invariant-loop-numbers l = is_among l.numbers l.oid ≡ is_among l.initial.numbers l.oid

abbrev pub decreases-loop-numbers : goal.decreases-loop-numbers
decreases-loop-numbers l = length l.numbers
