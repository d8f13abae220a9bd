use Rattle.std.proofs.Common.{sym, ◌∙◌}
use Rattle.x509_match.proofs.Partners.{lengths_apart}
use Rattle.x509_match.proofs.names.rdns_match.Goals as goal

pub returns-then-len-clause-same : goal.returns-then-len-clause-same
returns-then-len-clause-same c = lengths_apart c.args.a.now c.args.b.now (λ e. c.if-len.true (c.len.ensures ∙ e ∙ sym c.len-2.ensures))
