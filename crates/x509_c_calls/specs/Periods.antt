-- The period in which a private key may sign (X.509 9.2.2.5).
use Rattle.std.specs.Prelude.{option_map}
use Rattle.x509_base.specs.CivilTime.{unix_seconds}
use Rattle.x509_c_calls.specs.Optional.{IsNumber}
use Rattle.x509_c_calls.specs.declared.payloads.period.PrivateKeyUsagePeriodView.{PrivateKeyUsagePeriodView}
use Rattle.x509_ext.specs.declared.pkix.private_key_usage_period.PrivateKeyUsagePeriod.{PrivateKeyUsagePeriod}

-- what the view says of a period, in seconds since 1970-01-01T00:00:00Z
pub record IsPeriod (period : PrivateKeyUsagePeriod) (view : PrivateKeyUsagePeriodView) : Type 0 where
  pub not_before : IsNumber (option_map unix_seconds period.not_before) view.has_not_before view.not_before
  pub not_after : IsNumber (option_map unix_seconds period.not_after) view.has_not_after view.not_after
