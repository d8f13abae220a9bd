-- What a CRL breaks, by the CRL without its entries and what is asked of these.
use Rattle.std.proofs.Common.{◌≡◌, List, filter, subst, sym}
use Rattle.x509_cert.specs.Revoked.{entries}
use Rattle.x509_crl_index.specs.Split.{without_entries}
use Rattle.x509_lint.specs.Rules.{AreCrlFindings, crl_breaks, crl_rules}
use Rattle.x509_lint.specs.Values.{AreCrlParts, AreCrlValues, AreEntryFacts, AreFrontFacts}
use Rattle.x509_lint.specs.Words.{Crl, crl_extensions_of}
use Rattle.x509_lint.specs.declared.crl.CrlParts.{CrlParts}
use Rattle.x509_lint.specs.declared.entries.EntryFacts.{EntryFacts}
use Rattle.x509_lint.specs.declared.rule.Rule.{Rule}

abbrev pub ArePartsOf : Crl → EntryFacts → CrlParts → Type 0
ArePartsOf crl facts parts = AreFrontFacts crl parts.facts × (parts.facts.entries ≡ facts) × AreCrlValues (crl_extensions_of crl) parts.values

-- those of a CRL without entries are those of the CRL, with the facts of the entries
pub are_parts : (list front : Crl) (facts : EntryFacts) (parts : CrlParts) → front ≡ without_entries list → AreEntryFacts (entries list.tbs_cert_list.revoked_certificates) facts
    → ArePartsOf front facts parts → AreCrlParts list parts
are_parts list front facts parts same asked are =
    let so : ArePartsOf (without_entries list) facts parts = subst (λ crl. ArePartsOf crl facts parts) same are in
    ((so.0, subst (AreEntryFacts (entries list.tbs_cert_list.revoked_certificates)) (sym so.1) asked), so.2)

pub are_findings : (list front : Crl) (facts : EntryFacts) (parts : CrlParts) (findings : List Rule) → front ≡ without_entries list → AreEntryFacts (entries list.tbs_cert_list.revoked_certificates) facts
    → ArePartsOf front facts parts → findings ≡ filter (crl_breaks front parts) crl_rules → AreCrlFindings list findings
are_findings list front facts parts findings same asked are found =
    (parts, are_parts list front facts parts same asked are, subst (λ crl. findings ≡ filter (crl_breaks crl parts) crl_rules) same found)
