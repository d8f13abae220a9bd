use Rattle.x509_log.proofs.Alike.{agree_only, alike}
use Rattle.x509_log.proofs.laws.certificate_and_precertificate_are_signed_alike.Goals as goal

pub returns : goal.returns
returns g c = record {
  same = λ certificate precertificate a b agree s t. alike certificate precertificate g.P.Profile.serial_check a b agree s t;
  only = λ certificate precertificate a s t. agree_only certificate precertificate g.P.Profile.serial_check a s t;
}
