use Rattle.std.proofs.Common.{◌++◌, string_bytes, sym, ap, ◌∙◌, append_assoc}
use Rattle.x509_object_run.specs.Object.{heading_text}
use Rattle.x509_text.specs.Pieces.{left}
use Rattle.x509_tool_run.proofs.Writes.{written_behind}
use Rattle.x509_show.proofs.Joined.{cut_off, finished, stopped, unheaded}
use Rattle.x509_show.proofs.pieces.write_pieces.Goals as goal

pub returns-in-Err : goal.returns-in-Err
returns-in-Err g c = unheaded g.W.Sink.takes _ (heading_text c.args.heading) (left c.args.pieces) _ c.in-Err.ensures.err

pub returns-in-Err-write_text : goal.returns-in-Err-write_text
returns-in-Err-write_text g c =
    let kept = c.loop-piece.invariant in
    cut_off g.W.Sink.takes _ (heading_text c.args.heading) (left c.args.pieces) _ kept.0 _ kept.1 kept.2 _ _ _ (rw c.in-Ok-Some.field-0-is at c.in-Ok-Some.ensures).comes.0 (rw (c.as_bytes.ensures.value, c.as_str.ensures.value) at c.in-Err-write_text.ensures.err)

pub loop-piece-preserved : goal.loop-piece-preserved
loop-piece-preserved g c =
    let kept = c.loop-piece.invariant in
    let text = string_bytes c.in-Ok-Some.piece in (
      kept.0 ++ text,
      written_behind g.W.Sink.takes _ _ _ kept.0 kept.1 text (rw (c.as_bytes.ensures.value, c.as_str.ensures.value) at c.in_default-write_text.ensures.ok),
      kept.2 ∙ ap (λ xs. kept.0 ++ xs) (rw c.in-Ok-Some.field-0-is at c.in-Ok-Some.ensures).comes.0 ∙ sym (append_assoc kept.0 text (left c.next_piece.new.self)),
    )

pub returns-in-Err-next_piece : goal.returns-in-Err-next_piece
returns-in-Err-next_piece g c =
    let kept = c.loop-piece.invariant in
    stopped g.W.Sink.takes _ (heading_text c.args.heading) (left c.args.pieces) _ kept.0 _ kept.1 kept.2

pub returns-in-Ok-None : goal.returns-in-Ok-None
returns-in-Ok-None g c =
    let kept = c.loop-piece.invariant in
    finished g.W.Sink.takes _ (heading_text c.args.heading) (left c.args.pieces) _ kept.0 _ kept.1 kept.2 (rw c.in-Ok-None.field-0-is at c.in-Ok-None.ensures).comes
