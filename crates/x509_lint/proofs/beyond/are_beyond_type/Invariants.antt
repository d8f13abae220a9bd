use Rattle.std.proofs.Common.{◌≡◌, ◌&&◌, length}
use Rattle.std.specs.List.{list_any}
use Rattle.x509_lint.specs.Beyond.{has_beyond}
use Rattle.x509_lint.specs.Words.{is_of}
use Rattle.x509_lint.proofs.beyond.are_beyond_type.Given as goal

abbrev pub invariant-loop-extensions : goal.invariant-loop-extensions
invariant-loop-extensions g l =
    list_any (λ e. is_of g.T.AssociatedOid.OID e && has_beyond l.beyond e.extn_value) l.extensions
    ≡ list_any (λ e. is_of g.T.AssociatedOid.OID e && has_beyond l.beyond e.extn_value) l.initial.extensions

abbrev pub decreases-loop-extensions : goal.decreases-loop-extensions
decreases-loop-extensions g l = length l.extensions
