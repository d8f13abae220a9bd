use Rattle.std.proofs.Common.{◌≡◌, ◌<◌, ◌∙◌, ℕ, true, false, eqb, refl, arith}
use Rattle.std.specs.Fmt.{digit_glyph}
use Rattle.std.specs.Prelude.{slice_index}
use Rattle.std.proofs.lemmas.Bool.{agree_below_at, eqb-true}
use Rattle.hex.specs.Hex.{lower_digits}
use Rattle.hex.proofs.Pairs.{encode_step, encode_done}
use Rattle.x509_text.proofs.digits.fill_hex.Goals as goal

lower_glyph : (number : ℕ) → number < 16 → digit_glyph false number ≡ slice_index lower_digits number
lower_glyph number small =
    eqb-true (digit_glyph false number) (slice_index lower_digits number)
    (agree_below_at (λ (n : ℕ). eqb (digit_glyph false n) (slice_index lower_digits n)) (λ n. true) 16 number refl small)

pub octets-preserved : goal.octets-preserved
octets-preserved c =
    encode_step lower_digits c.args.octets.now c.octets.digits c.octets.i _ _ (omega arith) (omega arith)
    (c.hex_digit.ensures ∙ lower_glyph _ (omega arith)) (c.hex_digit-in-octets.ensures ∙ lower_glyph _ (omega arith)) c.octets.invariant

pub returns : goal.returns
returns c = encode_done lower_digits _ _ c.octets.i (omega arith) (omega arith) c.octets.invariant
