use Rattle.std.proofs.Common.{sym, ◌∙◌}
use Rattle.std.proofs.lemmas.Bool.{true≢false}
use Rattle.x509_check.specs.ExtensionRefs.{extensions_left}
use Rattle.x509_revocation.proofs.Named.{if_ok}
use Rattle.x509_revocation.proofs.Settled.{processed, unmarked}
use Rattle.x509_revocation.proofs.entries.issuer_of_extensions.Goals as goal

pub returns-then-not-has_critical_or : goal.returns-then-not-has_critical_or
returns-then-not-has_critical_or c = λ certificate own before lends same.
    unmarked c.args.is_indirect own certificate.tbs_certificate.issuer before (extensions_left c.args.extensions.now) c.args.is_issuer (sym c.has_critical_or.ensures ∙ c.if-not-has_critical_or.true) same

pub returns-then-not-are_processed : goal.returns-then-not-are_processed
returns-then-not-are_processed c = λ certificate own before lends same usable. true≢false (sym (c.are_processed.ensures.1 usable.0) ∙ c.if-not-are_processed.true)

pub returns : goal.returns
returns c = if_ok _ _ c.issuer_at.result (λ here found certificate own before lends same.
    processed c.args.is_indirect own certificate.tbs_certificate.issuer before (extensions_left c.args.extensions.now) here (c.are_processed.ensures.0 c.if-not-are_processed.false) (found certificate own before lends same)) c.issuer_at.ensures
