use Rattle.std.proofs.Common.{◌≡◌, ◌∙◌, ◌↔◌, subst, sym}
use Rattle.std.proofs.lemmas.Result.{IfOk-weaker}
use Rattle.std.specs.Bool.{IsTrue}
use Rattle.x509_path_steps.specs.Inputs.{purposes_of}
use Rattle.x509_path_steps.specs.Validation.{asks_purpose}
use Rattle.x509_validation.proofs.OwnFaults.{asks_given, of_last}
use Rattle.x509_validation.proofs.last.breaks_alone.Goals as goal
use Rattle.x509_validation.specs.Last.{HasOwnFault, asked_alone}

pub returns-in_default : goal.returns-in_default
returns-in_default c = IfOk-weaker c.has_own_fault.result _ _ (λ b said certificate lends same.
    let asks : c.is_some-asks_purpose.result ≡ asks_purpose (purposes_of c.args.settings.now) = c.is_some-asks_purpose.ensures ∙ sym (asks_given c.args.settings.now) in
    of_last (asked_alone c.args.settings.now) certificate b c.args.reason c.in_default.not-Usage c.in_default.not-Purpose
    (subst (λ asks. IsTrue b ↔ HasOwnFault c.args.settings.now.moment asks certificate c.args.reason) asks (said certificate lends same)))
    c.has_own_fault.ensures
