use Rattle.std.specs.Option.{option_map}
use Rattle.x509_path_steps.proofs.LeftPurposes.{left_here}
use Rattle.x509_path_steps.specs.Steps.{left_at}
use Rattle.x509_path_steps.specs.Validation.{asked_at}
use Rattle.x509_policy.specs.Views.{octets_of}
use Rattle.x509_validation.proofs.validator.Validator.lacks_purpose.Goals as goal

pub returns : goal.returns
returns g c = λ inputs above before certificate stands same.
    let left = option_map (λ v. octets_of v.items) c.in_ok-left.left in
    c.is_none_left.ensures inputs.purposes (asked_at inputs.uses.is_chained c.args.stand.now.is_last before certificate)
    (left_here inputs c.args.stand.now.sets.now.uses c.args.stand.now.is_last before certificate (left_at c.args.stand.now.sets.now) left stands.uses stands.purposes (c.in_ok-left.ensures inputs.purposes before certificate same))
