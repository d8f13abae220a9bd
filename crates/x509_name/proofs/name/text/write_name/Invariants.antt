use Rattle.std.proofs.Common.{map, take, reverse}
use Rattle.std.specs.List.{join_with_byte}
use Rattle.std.specs.Fmt.{HasWritten, IsPlainFormatter}
use Rattle.x509_name.specs.NameText.{rdn_text}
use Rattle.x509_name.proofs.name.text.write_name.Given as goal

abbrev pub invariant-loop-i : goal.invariant-loop-i
invariant-loop-i g l = IsPlainFormatter l.fn.f → HasWritten g.W.Write.write_str_gives l.fn.f (join_with_byte 44 (map rdn_text (take l.i (reverse l.rdns)))) l.f
