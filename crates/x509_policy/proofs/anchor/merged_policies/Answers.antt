use Rattle.std.proofs.Common.{◌↔◌, IfOk, List, Option, sym, subst}
use Rattle.std.specs.Borrow.{Bor}
use Rattle.std.specs.Option.{option_map}
use Rattle.x509_policy.specs.Anchors.{IsMerged}
use Rattle.x509_policy.specs.Levels.{In}
use Rattle.x509_policy.specs.Values.{Policy}
use Rattle.x509_policy.specs.Views.{octets_of}
use Rattle.x509_policy.proofs.anchor.merged_policies.Goals as goal

pub returns-in-Some : goal.returns-in-Some
returns-in-Some c =
    subst (λ (a : Option (Bor (List (Bor Policy)))). IfOk c.common.result (λ found. (p : Policy) → In p (octets_of found.items) ↔ IsMerged (octets_of c.args.user.now) (option_map (λ s. octets_of s.now) a) p))
    (sym c.in-Some.is) c.common.ensures
