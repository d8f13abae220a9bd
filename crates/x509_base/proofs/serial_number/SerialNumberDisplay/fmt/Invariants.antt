use Rattle.std.proofs.Common.{take}
use Rattle.std.specs.Fmt.{HasWritten, IsPlainFormatter}
use Rattle.x509_base.specs.Serial.{colon_hex}
use Rattle.x509_base.proofs.serial_number.SerialNumberDisplay.fmt.Given as goal

abbrev pub invariant-loop-i : goal.invariant-loop-i
invariant-loop-i g l = IsPlainFormatter l.fn.f → HasWritten g.W.Write.write_str_gives l.fn.f (colon_hex (take l.i l.octets)) l.f
