use Rattle.std.proofs.Common.{◌∙◌, map}
use Rattle.std.proofs.lemmas.Result.{IfOk-weaker}
use Rattle.x509_der.specs.List.{joined}
use Rattle.x509_path_steps.proofs.PolicyOctets.{each_pair, mapping_octets, pair_of}
use Rattle.x509_path_steps.proofs.Sequences.{sequence}
use Rattle.x509_path_steps.proofs.policies.lent_mappings.Goals as goal
use Rattle.x509_path_steps.specs.Oids.{pair}

pub returns : goal.returns
returns c = IfOk-weaker c.oid_pairs.result _ _
    (λ found said value spells. said (map pair_of value.0) (c.content_of.ensures 48 (joined pair (map pair_of value.0)) _ sequence (mapping_octets value c.args.octets.now spells)) ∙ each_pair value.0)
    c.oid_pairs.ensures
