use Rattle.std.specs.Cow.{cow_str_bytes}
use Rattle.std.proofs.Common.{map, take}
use Rattle.x509_object_run.specs.Program.{AreDone, streams, world_of}
use Rattle.x509_object_run.proofs.shown.do_all.Given as goal

-- the inputs so far are shown
abbrev pub invariant-loop-name : goal.invariant-loop-name
invariant-loop-name g l =
    AreDone g.P.Printer.program.name (g.P.Printer.subject l.printer) (world_of g.R.Source.gives (g.O.Opener.opens l.opener) (g.O.Opener.lists l.opener) (g.O.Opener.stands l.opener) g.F.Source.gives g.W.Sink.takes g.E.Sink.takes g.E.Console.counts) l.headed
    (map cow_str_bytes (take l.name-index l.names)) (streams l.fn.reader l.fn.writer l.fn.errors) (streams l.reader l.writer l.errors) l.worst
