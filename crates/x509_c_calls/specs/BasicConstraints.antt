-- What basic constraints say, as numbers (RFC 5280 4.2.1.9).
use Rattle.std.specs.Prelude.{◌≡◌}
use Rattle.x509_c_calls.specs.PayloadExtensions.{flag}
use Rattle.x509_c_calls.specs.Optional.{IsNumber}
use Rattle.x509_c_calls.specs.declared.payloads.constraints.BasicConstraintsView.{BasicConstraintsView}
use Rattle.x509_ext.specs.declared.pkix.basic_constraints.BasicConstraints.{BasicConstraints}

pub record IsBasicConstraints (constraints : BasicConstraints) (view : BasicConstraintsView) : Type 0 where
  pub ca : view.ca ≡ flag constraints.ca
  pub path_len : IsNumber constraints.path_len_constraint view.has_path_len view.path_len
