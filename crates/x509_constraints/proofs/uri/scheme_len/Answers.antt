use Rattle.std.proofs.Common.{ap, not, sym, ◌∙◌}
use Rattle.x509_constraints.specs.Uri.{is_scheme_octet}
use Rattle.x509_constraints.proofs.Firsts.{first_at, none_at}
use Rattle.x509_constraints.proofs.uri.scheme_len.Goals as goal

pub returns-then-not-is_scheme_octet-clause-at : goal.returns-then-not-is_scheme_octet-clause-at
returns-then-not-is_scheme_octet-clause-at c =
    first_at (λ octet. not (is_scheme_octet octet)) c.args.uri.now c.loop-i.i c.loop-i-test.true c.loop-i.invariant (ap not (sym
    c.is_scheme_octet.ensures ∙ c.if-not-is_scheme_octet.true))

pub returns-clause-at : goal.returns-clause-at
returns-clause-at c = none_at (λ octet. not (is_scheme_octet octet)) c.args.uri.now c.loop-i.i c.loop-i-test.false c.loop-i.invariant
