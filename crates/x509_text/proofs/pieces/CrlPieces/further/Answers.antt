use Rattle.std.proofs.Common.{◌≡◌, length, sym, append-nil, arith}
use Rattle.std.proofs.lemmas.Bool.Decides.{nat_tests}
use Rattle.x509_text.specs.Lines.{top}
use Rattle.x509_text.proofs.Elements.{no_lines}
use Rattle.x509_text.proofs.pieces.CrlPieces.further.Goals as goal

pub returns-then-is_empty-clause-comes : goal.returns-then-is_empty-clause-comes
returns-then-is_empty-clause-comes c =
    let none : length c.args.self.now.octets.now ≡ 0 = grind (arith, nat_tests) in
    rw (c.requires, no_lines (top c.args.self.now.style) c.args.self.now.octets.now none, append-nil) (sym c.in_ok-piece.ensures, omega arith)
