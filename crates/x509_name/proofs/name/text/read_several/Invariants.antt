use Rattle.std.proofs.Common.{false}
use Rattle.x509_name.specs.Cutting.{cut, parts_left}
use Rattle.x509_name.proofs.FirstRefusals.{ReadSoFar}
use Rattle.x509_name.specs.Text.{Reads}
use Rattle.x509_name.proofs.name.text.read_several.Given as goal

abbrev pub invariant-loop-part : goal.invariant-loop-part
invariant-loop-part l = ReadSoFar Reads (cut 43 l.fn.text false) (parts_left l.part-iterator) l.attributes.items
