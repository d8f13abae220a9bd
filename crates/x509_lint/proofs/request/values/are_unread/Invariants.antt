use Rattle.std.proofs.Common.{◌≡◌, length}
use Rattle.std.specs.List.{list_any}
use Rattle.x509_lint.specs.Request.{is_unread}
use Rattle.x509_lint.proofs.request.values.are_unread.Given as goal

abbrev pub invariant-loop-elements : goal.invariant-loop-elements
invariant-loop-elements g l = list_any (is_unread g.T.Grammar.form) l.elements ≡ list_any (is_unread g.T.Grammar.form) l.initial.elements

abbrev pub decreases-loop-elements : goal.decreases-loop-elements
decreases-loop-elements g l = length l.elements
