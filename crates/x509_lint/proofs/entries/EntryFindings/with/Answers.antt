use Rattle.x509_lint.proofs.EntryWalks.{with_noted}
use Rattle.x509_lint.proofs.entries.EntryFindings.with.Goals as goal

pub returns : goal.returns
returns c = λ test.
    rw (
      c.holds_of-is_extended.ensures,
      c.holds_of-is_without_extensions.ensures,
      c.holds_of-is_early_general.ensures,
      c.has_fault-is_reason_critical.ensures,
      c.has_fault-is_reason_unspecified.ensures,
      c.has_fault-is_reason_remove_from_crl.ensures,
      c.has_fault-is_reason_invalid.ensures,
      c.has_fault-is_invalidity_date_critical.ensures,
      c.has_fault-is_invalidity_date_invalid.ensures,
      c.has_fault-is_issuer_not_critical.ensures,
      c.has_fault-is_issuer.ensures,
    ) (with_noted c.args.self c.args.entry.now test)
