-- Where more is found out about the issuer and the subject, by its places (RFC 5280 4.2.2.1).
use Rattle.std.specs.Prelude.{ℕ, List, ◌++◌}
use Rattle.x509_c_calls.specs.GeneralNames.{IsGeneralName}
use Rattle.x509_c_calls.specs.declared.payloads.access.AccessView.{AccessView}
use Rattle.x509_c_calls.specs.Place.{IsAt}
use Rattle.x509_der.specs.Form.{spelling}
use Rattle.x509_ext.specs.declared.pkix.access.AccessDescription.{AccessDescription}
use Rattle.x509_ext.specs.GeneralName.{general_name}

-- what the view says of a description in these bytes, behind which those others stand
pub record IsAccess (bytes : List ℕ) (access : AccessDescription) (behind : List ℕ) (view : AccessView) : Type 0 where
  pub method : IsAt access.access_method (spelling general_name access.access_location ++ behind) bytes view.method
  pub location : IsGeneralName bytes access.access_location behind view.location
