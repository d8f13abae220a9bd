use Rattle.std.proofs.Common.{◌∙◌, map}
use Rattle.std.proofs.lemmas.Result.{IfOk-weaker}
use Rattle.x509_der.specs.List.{joined}
use Rattle.x509_path_steps.proofs.PolicyOctets.{first_items, item_of, policy_octets}
use Rattle.x509_path_steps.proofs.Sequences.{sequence}
use Rattle.x509_path_steps.proofs.policies.lent_policies.Goals as goal
use Rattle.x509_path_steps.specs.Oids.{item}

pub returns : goal.returns
returns c = IfOk-weaker c.first_oids.result _ _
    (λ found said value spells. said (map item_of value.0) (c.content_of.ensures 48 (joined item (map item_of value.0)) _ sequence (policy_octets value c.args.octets.now spells)) ∙ first_items value.0)
    c.first_oids.ensures
