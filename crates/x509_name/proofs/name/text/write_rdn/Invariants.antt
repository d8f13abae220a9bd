use Rattle.std.proofs.Common.{map, take}
use Rattle.std.specs.List.{join_with_byte}
use Rattle.std.specs.Fmt.{HasWritten, IsPlainFormatter}
use Rattle.x509_name.specs.Attributes.{attribute_text}
use Rattle.x509_name.proofs.name.text.write_rdn.Given as goal

abbrev pub invariant-loop-i : goal.invariant-loop-i
invariant-loop-i g l = IsPlainFormatter l.fn.f → HasWritten g.W.Write.write_str_gives l.fn.f (join_with_byte 43 (map (λ a. attribute_text a.oid a.value) (take l.i l.attributes))) l.f
