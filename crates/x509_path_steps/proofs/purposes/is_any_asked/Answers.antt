use Rattle.std.proofs.Common.{◌∙◌}
use Rattle.x509_path_steps.proofs.LeftPurposes.{is_asked}
use Rattle.x509_path_steps.proofs.purposes.is_any_asked.Goals as goal
use Rattle.x509_policy.specs.Views.{octets_of}

pub returns : goal.returns
returns c = λ purposes asked are. c.is_some.ensures ∙ is_asked (λ v. octets_of v.items) purposes asked c.args.left.now are
