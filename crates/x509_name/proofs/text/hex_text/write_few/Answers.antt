use Rattle.std.proofs.Common.{ℕ, List, refl, arith}
use Rattle.std.proofs.Output.{has_written_append, has_written_of_eq, writes_in_calls_nil}
use Rattle.x509_name.proofs.HexTexts.{none_yet, one_more}
use Rattle.x509_name.proofs.text.hex_text.write_few.Goals as goal

pub loop-octet-init : goal.loop-octet-init
loop-octet-init g c = λ plain. has_written_of_eq _ _ _ _ _ (none_yet c.args.octets.now) (record { wrote = writes_in_calls_nil _ _; plain = plain })

pub loop-octet-preserved : goal.loop-octet-preserved
loop-octet-preserved g c = λ plain.
    let octets : List ℕ = c.args.octets.now in
    let before = c.loop-octet.invariant plain in
    let high = (rw c.digit.ensures at c.in_ok-write_char.ensures.writes) before.plain refl in
    let low = (rw c.digit-in-loop-octet.ensures at c.in_ok-write_char-2.ensures.writes) high.plain refl in
    has_written_of_eq _ _ _ _ _ (one_more octets c.loop-octet.octet-index (omega arith))
    (has_written_append _ _ _ _ _ _ before (has_written_append _ _ _ _ _ _ high low))
