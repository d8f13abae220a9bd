use Rattle.std.proofs.Common.{◌<◌, ◌⊎◌, Err, Ok, arith, length, min, refl, sym, subst}
use Rattle.x509_path.specs.Certificates.{extensions_of}
use Rattle.x509_path.specs.Lent.{Lends}
use Rattle.x509_path.specs.Path.{Breaks, reasons}
use Rattle.x509_path.specs.PathLength.{Judges, standing}
use Rattle.x509_path.specs.declared.fault.PathReason.TheVariants.{Decode}
use Rattle.x509_path.proofs.Firsts.{unreadable}
use Rattle.x509_path.proofs.Many.{of_these, refused_too}
use Rattle.x509_path.proofs.judge.Judge.judge.Goals as goal

pub returns-in-Err-clause-judged : goal.returns-in-Err-clause-judged
returns-in-Err-clause-judged g c = λ above stands before leaves.
    rw c.unreadable.ensures (
      refl,
      unreadable Decode (Breaks (g.T.Trust.accepts c.args.self.now.trust.now) c.args.self.now.moment (standing above.name above.key before c.args.place.now.is_last) c.args.bytes.now) c.args.bytes.now reasons (λ v s. let ok = c.in-Err.ensures.every v s in cc),
    )

pub returns-in-Ok-judge_within-clause-judged : goal.returns-in-Ok-judge_within-clause-judged
returns-in-Ok-judge_within-clause-judged g c = λ above stands before leaves.
    let same = c.in-Ok.ensures.found.0 in
    let certificate = c.in-Ok.ensures.found.1.0 in
    let lends = subst (λ b. Lends b certificate) (sym same) c.in-Ok.ensures.found.1.1 in
    let said = c.in-Ok-judge_within.ensures.judged certificate above lends stands before leaves in
    (certificate, lends, (said.0, subst (λ b. Judges (g.T.Trust.accepts c.args.self.now.trust.now) c.args.self.now.moment (standing above.name above.key before c.args.place.now.is_last) b c.args.index (Ok certificate)) same said.1))

pub returns-in-Err-judge_within-clause-judged : goal.returns-in-Err-judge_within-clause-judged
returns-in-Err-judge_within-clause-judged g c = λ above stands before leaves.
    let same = c.in-Ok.ensures.found.0 in
    let certificate = c.in-Ok.ensures.found.1.0 in
    let lends = subst (λ b. Lends b certificate) (sym same) c.in-Ok.ensures.found.1.1 in
    let said = c.in-Err-judge_within.ensures.judged certificate above lends stands before leaves in
    subst (λ b. Judges (g.T.Trust.accepts c.args.self.now.trust.now) c.args.self.now.moment (standing above.name above.key before c.args.place.now.is_last) b c.args.index (Err c.in-Err-judge_within.e)) same said

pub returns-in-Err-judge_within-clause-memory : goal.returns-in-Err-judge_within-clause-memory
returns-in-Err-judge_within-clause-memory g c = λ lacks.
    let certificate = c.in-Ok.ensures.found.1.0 in
    let lends = subst (λ b. Lends b certificate) (sym c.in-Ok.ensures.found.0) c.in-Ok.ensures.found.1.1 in
    of_these 16 certificate c.args.bytes.now c.in-Ok.ensures.found.1.1 (omega (arith)) (subst (λ n. g.T.Trust.takes_memory ⊎ (min n 16 < length (extensions_of certificate))) c.places-few.ensures (c.in-Err-judge_within.ensures.memory certificate lends (refused_too _ _ lacks)))
