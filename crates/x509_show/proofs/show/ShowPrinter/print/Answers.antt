use Rattle.std.proofs.Common.{◌≡◌, ℕ, List, Option, Some, None, string_bytes, subst}
use Rattle.x509_object_run.specs.Object.{IsPrinted, heading_text}
use Rattle.x509_show.specs.Show.{IsDocument, document_of}
use Rattle.x509_text.specs.Pieces.{left}
use Rattle.x509_show.proofs.show.ShowPrinter.print.Goals as goal

pub returns-in-Ok-Some-Crl : goal.returns-in-Ok-Some-Crl
returns-in-Ok-Some-Crl g c =
    let show = c.args.self.now in
    let crl = c.in-Ok-Some-Crl in
    let found : Some (left crl.pieces) ≡ document_of show.kind show.style c.args.bytes.now = rw (crl.field-0-is, crl.field-0-0-is) at crl.ensures in
    let Printed : Option (List ℕ) → Type 0 = λ document. IsPrinted (IsDocument (heading_text c.args.heading) document) (document ≡ None) g.W.Sink.takes c.args.writer.now c.write_pieces.new.writer c.write_pieces.result in
    subst Printed found c.write_pieces.ensures

pub returns-in-Ok-Some-Whole : goal.returns-in-Ok-Some-Whole
returns-in-Ok-Some-Whole g c =
    let show = c.args.self.now in
    let whole = c.in-Ok-Some-Whole in
    let found : Some (string_bytes whole.text) ≡ document_of show.kind show.style c.args.bytes.now = rw (whole.field-0-is, whole.field-0-0-is) at whole.ensures in
    let Printed : Option (List ℕ) → Type 0 = λ document. IsPrinted (IsDocument (heading_text c.args.heading) document) (document ≡ None) g.W.Sink.takes c.args.writer.now c.write_whole.new.writer c.write_whole.result in
    subst Printed found (rw c.as_str.ensures.value at c.write_whole.ensures)
