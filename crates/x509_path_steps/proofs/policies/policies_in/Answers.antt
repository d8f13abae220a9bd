use Rattle.std.proofs.Common.{None, Some, ap, refl}
use Rattle.x509_ext.specs.CertificatePolicies.{certificate_policies, certificate_policies_lawful}
use Rattle.x509_ext.specs.Identifiers.{id_ce}
use Rattle.x509_path.specs.Lent.{lent_extensions}
use Rattle.x509_path_steps.proofs.Founds.{found_there, not_found}
use Rattle.x509_path_steps.proofs.policies.policies_in.Goals as goal

pub returns : goal.returns
returns c = λ spelled.
    let (value, spells, is) = found_there certificate_policies certificate_policies_lawful (id_ce 32) (λ e decodable. decodable.1.0) (lent_extensions c.args.extensions.now) spelled c.in-Some.octets.now c.in-Some.ensures in
    (Some value, is, ap Some (c.in_ok-found.ensures value spells))

pub returns-in_default : goal.returns-in_default
returns-in_default c = λ spelled. (None, not_found certificate_policies certificate_policies_lawful (id_ce 32) (lent_extensions c.args.extensions.now) c.in_default.ensures, refl)
