use Rattle.x509_check.specs.ExtensionRefs.{extensions_left, lent_extension}
use Rattle.x509_ext.specs.Identifiers.{id_ce}
use Rattle.x509_ext.specs.LookUp.{with_oid}
use Rattle.x509_revocation.proofs.Named.{found_one, if_ok, one_named}
use Rattle.x509_revocation.proofs.entries.issuer_at.Goals as goal

pub returns-else-not-is_indirect : goal.returns-else-not-is_indirect
returns-else-not-is_indirect c =
    let issuers = with_oid (id_ce 29) (extensions_left c.args.extensions.now) in
    let one = found_one issuers c.in-Ok-Some.extension (rw c.in-Ok-Some.field-0-is at c.in-Ok-Some.ensures) in
    if_ok _ _ c.names_issuer.result (λ here named certificate own before lends same.
    one_named own certificate.tbs_certificate.issuer c.args.is_indirect before issuers (lent_extension c.in-Ok-Some.extension) c.if-not-is_indirect.false one here (named certificate lends)) c.names_issuer.ensures
