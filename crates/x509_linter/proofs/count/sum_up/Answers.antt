use Rattle.std.proofs.Common.{append-nil, inl, subst, ◌∙◌}
use Rattle.x509_object_run.specs.Program.{Says}
use Rattle.x509_linter.specs.Linter.{program}
use Rattle.x509_linter.proofs.count.sum_up.Goals as goal

pub returns-in-Ok : goal.returns-in-Ok
returns-in-Ok g c =
    inl (
      c.say-said.result,
      subst (λ text. Says program.name g.W.Sink.takes g.E.Sink.takes text c.args.writer.now c.say-said.new.writer c.args.errors.now c.say-said.new.errors c.say-said.result)
          (append-nil _ ∙ c.as_slice.ensures.value ∙ c.in-Ok.ensures) c.say-said.ensures,
      c.greater_of.ensures,
    )
