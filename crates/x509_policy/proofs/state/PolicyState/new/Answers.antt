use Rattle.std.proofs.Common.{[], refl, sym, subst}
use Rattle.x509_policy.specs.Follows.{Reaches, levels_of}
use Rattle.x509_policy.specs.Levels.{last_level}
use Rattle.x509_policy.specs.Stands.{Stands}
use Rattle.x509_policy.specs.Views.{counters_of, settings_of}
use Rattle.x509_policy.proofs.GraphEnds.{at_start}
use Rattle.x509_policy.proofs.States.{passes_of, start_reaches, AnyItself, root_any}
use Rattle.x509_policy.proofs.state.PolicyState.new.Goals as goal

pub returns : goal.returns
returns c =
    let settings = settings_of c.args.settings.now in
    let counters = counters_of c.initial.result in
    let reaches = start_reaches settings c.args.certificates counters c.initial.ensures in
    record {
      passes = passes_of settings c.args.certificates [] counters [] reaches at_start;
      carries = record {
        asked = refl;
        place = c.new.ensures.len;
        reaches = subst (λ ls. Reaches settings c.args.certificates [] counters (levels_of ls)) (sym c.new.ensures.items) reaches;
        stands = subst (λ ls. Stands (levels_of ls)) (sym c.new.ensures.items) at_start;
        any_itself = subst (λ ls. AnyItself (last_level (levels_of ls))) (sym c.new.ensures.items) root_any;
      };
    }
