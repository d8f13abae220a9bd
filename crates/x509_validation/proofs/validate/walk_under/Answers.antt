use Rattle.std.proofs.Common.{◌∙◌, [], ap}
use Rattle.std.specs.Option.{option_map}
use Rattle.x509_validation.proofs.Starts.{at_start}
use Rattle.x509_policy.specs.Views.{octets_of, settings_of}
use Rattle.x509_validation.proofs.validate.walk_under.Goals as goal

pub returns : goal.returns
returns g c = λ inputs lends.
    let user = c.user_policies-user.ensures (ap octets_of c.as_slice.ensures ∙ c.any_policy_alone-any.ensures) in
    c.walk_down.ensures inputs lends (record {
      settings = settings_of c.settings_at_start-asked.result;
      said = [];
      at_start = at_start inputs c.args.trusted.now c.args.settings.now lends (octets_of c.user_policies-user.result.now) user (option_map (λ v. octets_of v.items) c.in_ok-merged.merged) (c.in_ok-merged.ensures inputs.trust.policies lends.trust.policies) (settings_of c.settings_at_start-asked.result) c.settings_at_start-asked.ensures;
      say = tt;
      follows = c.new-policies.ensures;
    })
