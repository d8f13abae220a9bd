use Rattle.std.proofs.Common.{◌++◌, [], inl, inr}
use Rattle.std.specs.Option.{option_to_list}
use Rattle.x509_path_steps.proofs.Initials.{all_usable, collects, stopped}
use Rattle.x509_path_steps.proofs.initial.initial_sets.Goals as goal

pub returns-in-Err : goal.returns-in-Err
returns-in-Err c inputs lends =
    let one = c.in-Err.ensures inputs.trust.constraints lends.trust.constraints [] c.new-sets.ensures in
    stopped inputs inputs.trust.constraints (option_to_list inputs.trust.constraints) c.add_lent.new.sets c.in-Err.fault one (λ constraints is. inl is)

pub returns-in-Err-add_lent : goal.returns-in-Err-add_lent
returns-in-Err-add_lent c inputs lends =
    let one = c.in_default.ensures inputs.trust.constraints lends.trust.constraints [] c.new-sets.ensures in
    let two = c.in-Err-add_lent.ensures inputs.constraints lends.constraints (option_to_list inputs.trust.constraints) one.0 in
    stopped inputs inputs.constraints (option_to_list inputs.trust.constraints ++ option_to_list inputs.constraints) c.add_lent-2.new.sets c.in-Err-add_lent.fault two (λ constraints is. inr (inl is))

pub returns : goal.returns
returns c inputs lends =
    let one = c.in_default.ensures inputs.trust.constraints lends.trust.constraints [] c.new-sets.ensures in
    let two = c.in_default-add_lent.ensures inputs.constraints lends.constraints (option_to_list inputs.trust.constraints) one.0 in
    ((option_to_list inputs.trust.constraints ++ option_to_list inputs.constraints, two.0, collects inputs), all_usable inputs one.1 two.1)
