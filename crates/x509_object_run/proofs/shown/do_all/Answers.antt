use Rattle.std.proofs.Common.{◌∙◌, ap, subst}
use Rattle.std.specs.Cow.{cow_str_bytes}
use Rattle.x509_object_run.specs.Program.{IsDone, streams, world_of}
use Rattle.x509_object_run.proofs.InputsShown.{done_next}
use Rattle.x509_object_run.proofs.shown.do_all.Goals as goal

pub loop-name-preserved : goal.loop-name-preserved
loop-name-preserved g c =
    let program = g.P.Printer.program.name in
    let subject = g.P.Printer.subject c.args.printer.now in
    let world = world_of g.R.Source.gives (g.O.Opener.opens c.args.opener.now) (g.O.Opener.lists c.args.opener.now) (g.O.Opener.stands c.args.opener.now) g.F.Source.gives g.W.Sink.takes g.E.Sink.takes g.E.Console.counts in
    let one = subst (λ name. IsDone program subject world c.args.headed name (streams c.loop-name.reader c.loop-name.writer c.loop-name.errors) (streams c.do_one-status.new.reader c.do_one-status.new.writer c.do_one-status.new.errors) c.do_one-status.result) (c.as_str-name.ensures.value ∙ ap cow_str_bytes c.name-item.is) c.do_one-status.ensures in
    rw c.max-worst.ensures
    (done_next cow_str_bytes program subject world c.args.headed c.args.names.now c.loop-name.name-index _ _ _ _ _ _ c.loop-name-test.true c.loop-name.invariant one)
