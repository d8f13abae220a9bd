use Rattle.std.proofs.Common.{None, Some, ap, map}
use Rattle.std.proofs.lemmas.Result.{IfOk-weaker}
use Rattle.x509_ext.specs.Identifiers.{id_ce}
use Rattle.x509_ext.specs.PolicyMapping.{policy_mappings}
use Rattle.x509_path.specs.Lent.{lent_extensions}
use Rattle.x509_path_steps.proofs.Founds.{found_there, not_found, policy_mappings_lawful}
use Rattle.x509_path_steps.proofs.policies.mappings_in.Goals as goal
use Rattle.x509_policy.specs.Views.{mapping_of}

pub returns-in-Some : goal.returns-in-Some
returns-in-Some c = IfOk-weaker c.lent_mappings.result _ _
    (λ found said spelled.
    let (value, spells, is) = found_there policy_mappings policy_mappings_lawful (id_ce 33) (λ e decodable. decodable.1.1.0) (lent_extensions c.args.extensions.now) spelled c.in-Some.octets.now c.in-Some.ensures in
    (Some value, is, said value spells))
    c.lent_mappings.ensures

pub returns-in-None : goal.returns-in-None
returns-in-None c = λ spelled. (None, not_found policy_mappings policy_mappings_lawful (id_ce 33) (lent_extensions c.args.extensions.now) c.in-None.ensures, ap (map mapping_of) c.new.ensures.items)
