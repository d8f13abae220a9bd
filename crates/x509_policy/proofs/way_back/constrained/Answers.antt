use Rattle.std.proofs.Common.{◌≡◌, ◌∙◌, ◌∷◌, ◌++◌, ap}
use Rattle.x509_policy.specs.Edges.{leads_of, with_any, constrained}
use Rattle.x509_policy.specs.Follows.{last_of, levels_of}
use Rattle.x509_policy.specs.Levels.{IsConstrained}
use Rattle.x509_policy.specs.Values.{has}
use Rattle.x509_policy.specs.Views.{octets_of}
use Rattle.x509_policy.proofs.PairsBack.{constrained_right, in_ok_set}
use Rattle.x509_policy.proofs.way_back.constrained.Goals as goal

pub returns : goal.returns
returns c = λ same hang.
    let user = octets_of c.args.user.now in
    let levels = levels_of c.args.levels.now in
    let next = c.args.next.now in
    let found = octets_of c.in_ok-found.found.items in
    let leading = c.new.result in
    let is : has leading ≡ has (found ++ with_any next.policies) = c.new.ensures.same ∙ ap has c.in_ok-push_any.ensures in
    in_ok_set c.chosen.result (constrained user leading) (λ p. IsConstrained user (last_of next ∷ levels) p)
    (constrained_right (leads_of next.leads.items) next.policies same levels hang found c.in_ok-found.ensures leading is user) c.chosen.ensures
