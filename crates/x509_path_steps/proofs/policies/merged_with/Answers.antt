use Rattle.std.proofs.Common.{◌∙◌, ap}
use Rattle.x509_path_steps.proofs.Merges.{merged}
use Rattle.x509_path_steps.proofs.policies.merged_with.Goals as goal
use Rattle.x509_policy.specs.Views.{octets_of}

pub returns : goal.returns
returns c = λ own lends p.
    merged c.args.trusted.now.policies c.in-Some.octets c.in-Some.is own lends (octets_of c.as_slice.result.now)
    (λ value spells. ap octets_of c.as_slice.ensures.value ∙ c.in_ok-own.ensures value spells) (octets_of c.args.user.now) (octets_of c.in_ok-found.found.items) c.in_ok-found.ensures p
