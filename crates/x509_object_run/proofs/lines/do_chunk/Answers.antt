use Rattle.std.proofs.Common.{◌≡◌, ◌∙◌, ◌+◌, ◌++◌, Some, ap, sym, take}
use Rattle.std.specs.List.{position}
use Rattle.x509_object_run.specs.Program.{writes}
use Rattle.x509_object_run.proofs.Readings.{fronts, line_read, ok_if, on_err, reads, slice_rest, stays}
use Rattle.x509_tool_run.specs.Pem.{ends_line}
use Rattle.x509_tool_run.specs.Scan.{is_pem, mark_of}
use Rattle.x509_object_run.proofs.lines.do_chunk.Goals as goal

pub returns-in_err-extend_from_slice-clause-unread :
    goal.returns-in_err-extend_from_slice-clause-unread
returns-in_err-extend_from_slice-clause-unread g c = on_err _ (fronts g.P.Printer.program.name (g.P.Printer.subject c.args.printer.now) (writes g.W.Sink.takes g.E.Sink.takes g.E.Console.counts) c.args.label.now c.args.chunk.now c.loop-at.rest.now _ _ _ _ _ _ c.loop-at.invariant.read)

pub returns-in_err-do_line-clause-unread : goal.returns-in_err-do_line-clause-unread
returns-in_err-do_line-clause-unread g c =
    rw (c.in_err-do_line.ensures.shown, c.in_err-do_line.ensures.unwritten) (on_err _ (fronts g.P.Printer.program.name (g.P.Printer.subject c.args.printer.now) (writes g.W.Sink.takes g.E.Sink.takes g.E.Console.counts) c.args.label.now c.args.chunk.now c.loop-at.rest.now _ _ _ _ _ _ c.loop-at.invariant.read))

pub loop-at-preserved : goal.loop-at-preserved
loop-at-preserved g c =
    let line = c.loop-at.line.items ++ take c.in-Some.at c.loop-at.rest.now in
    let is_line : c.as_slice.result.now ≡ line = c.as_slice.ensures.value ∙ c.in_ok-extend_from_slice.ensures.items in
    let found : position ends_line c.loop-at.rest.now ≡ Some c.in-Some.at = sym c.line_end.ensures ∙ c.in-Some.is in
    let mark = rw is_line at c.in_ok-do_line.ensures.mark in
    let told = rw is_line at c.in_ok-do_line.ensures.told in
    record {
      read = λ bytes first under.
          rw (c.clear.ensures.items, slice_rest (c.in-Some.at + 1) c.loop-at.rest.now)
          (line_read g.P.Printer.program.name (g.P.Printer.subject c.args.printer.now) (writes g.W.Sink.takes g.E.Sink.takes g.E.Console.counts) c.args.label.now first bytes c.args.chunk.now c.loop-at.rest.now c.loop-at.line.items _ _ _ _ _ _ _ _ _ _ c.in-Some.at (c.loop-at.invariant.read bytes first under) found mark (λ lines at so. told lines first at so));
      stays = λ pem. ap (λ m. is_pem m.stage) mark ∙ stays (mark_of c.loop-at.scan) line (c.loop-at.invariant.stays pem);
    }

pub returns-clause-read : goal.returns-clause-read
returns-clause-read g c =
    ok_if _ _ _ _ c.extend_from_slice-2.ensures.items
    (reads g.P.Printer.program.name (g.P.Printer.subject c.args.printer.now) (writes g.W.Sink.takes g.E.Sink.takes g.E.Console.counts) c.args.label.now c.args.chunk.now c.loop-at.rest.now c.loop-at.line.items _ _ _ _ _ _ c.loop-at.invariant.read (sym c.line_end.ensures ∙ c.in_default.is))

pub returns-clause-unread : goal.returns-clause-unread
returns-clause-unread g c = on_err _ (fronts g.P.Printer.program.name (g.P.Printer.subject c.args.printer.now) (writes g.W.Sink.takes g.E.Sink.takes g.E.Console.counts) c.args.label.now c.args.chunk.now c.loop-at.rest.now _ _ _ _ _ _ c.loop-at.invariant.read)
