use Rattle.std.proofs.Common.{◌∙◌, Err, Ok, refl, sym, subst}
use Rattle.x509_path.proofs.Firsts.{unreadable}
use Rattle.x509_path.specs.Lent.{Lends}
use Rattle.x509_path_steps.specs.Validation.{Breaks, reasons}
use Rattle.x509_path_steps.specs.declared.validation_fault.ValidationReason.TheVariants.{Decode}
use Rattle.x509_validation.proofs.validator.Validator.judge.Goals as goal
use Rattle.x509_validation.specs.Judging.{JudgesAlone, standing}

pub returns-in-Err : goal.returns-in-Err
returns-in-Err g c = λ inputs above before n stands.
    rw c.unreadable.ensures (
      refl,
      unreadable Decode (Breaks (g.S.Trust.accepts c.args.self.now.signatures.now) inputs (standing above before c.args.stand.now.is_last n) c.args.bytes.now) c.args.bytes.now reasons (λ v s. let ok = c.in-Err.ensures.every v s in cc),
    )

pub returns-in-Ok-judge_parts : goal.returns-in-Ok-judge_parts
returns-in-Ok-judge_parts g c = λ inputs above before n stands.
    let same = c.in-Ok.ensures.found.0 in
    let certificate = c.in-Ok.ensures.found.1.0 in
    let lends = subst (λ b. Lends b certificate) (sym same) c.in-Ok.ensures.found.1.1 in
    let all = c.in_ok-extensions.ensures.ok ∙ c.extensions.ensures certificate lends in
    let said = c.in-Ok-judge_parts.ensures inputs above before n certificate stands lends all in
    (certificate, lends, (said.0, (said.1.0, subst (λ b. JudgesAlone (g.S.Trust.accepts c.args.self.now.signatures.now) inputs (standing above before c.args.stand.now.is_last n) b c.args.index (Ok certificate)) same said.1.1)))

pub returns : goal.returns
returns g c = λ inputs above before n stands.
    let same = c.in-Ok.ensures.found.0 in
    let certificate = c.in-Ok.ensures.found.1.0 in
    let lends = subst (λ b. Lends b certificate) (sym same) c.in-Ok.ensures.found.1.1 in
    let all = c.in_ok-extensions.ensures.ok ∙ c.extensions.ensures certificate lends in
    let said = c.in-Err-judge_parts.ensures inputs above before n certificate stands lends all in
    subst (λ b. JudgesAlone (g.S.Trust.accepts c.args.self.now.signatures.now) inputs (standing above before c.args.stand.now.is_last n) b c.args.index (Err c.in-Err-judge_parts.e)) same said
