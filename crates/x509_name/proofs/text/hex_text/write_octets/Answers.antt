use Rattle.std.proofs.Common.{◌≡◌, ◌++◌, ◌∙◌, ◌*◌, ℕ, List, length, drop, refl, sym, arith, length-append, length-drop}
use Rattle.std.proofs.Output.{has_written_append, has_written_of_eq}
use Rattle.std.proofs.lemmas.Bool.{eqb-true}
use Rattle.hex.specs.Hex.{encode_lower, lower_digits}
use Rattle.hex.proofs.HexLemmas.{length-encode_with}
use Rattle.x509_name.proofs.HexTexts.{some_more, no_more, on_ok}
use Rattle.x509_name.proofs.text.hex_text.write_octets.Goals as goal

pub loop-rest-preserved : goal.loop-rest-preserved
loop-rest-preserved g c =
    let chunk : List ℕ = c.split_at.result.0.now in
    let digits : c.encode_to_slice.new.output ≡ encode_lower chunk = on_ok c.encode_to_slice.result c.if-is_err.ensures.negation c.encode_to_slice.ensures.written in
    let room : length c.encode_to_slice.new.output ≡ 2 * length chunk = rw digits (length-encode_with lower_digits chunk) in
    let front = c.split_at.ensures.front_len in
    let fixed : length c.loop-rest.digits ≡ 128 = c.loop-rest.invariant.0 in (
      omega (arith, length-append c.encode_to_slice.new.output (drop (2 * length chunk) c.loop-rest.digits), length-drop (2 * length chunk) c.loop-rest.digits),
      λ plain.
          let now = c.loop-rest.invariant.1 plain in
          let run = c.in_ok-write_str.ensures.writes now.1.plain refl in (
            now.0 ++ encode_lower chunk,
            has_written_append _ _ _ _ _ _ now.1 (has_written_of_eq _ _ _ _ _ (c.in-Ok.ensures.cases.0 ∙ digits) run),
            some_more c.loop-rest.rest.now now.0 chunk c.split_at.result.1.now c.args.octets.now c.split_at.ensures.by_index.0 now.2,
          ),
    )

pub returns : goal.returns
returns g c = λ plain ok.
    let now = c.loop-rest.invariant.1 plain in
    has_written_of_eq _ _ _ _ _ (no_more c.loop-rest.rest.now now.0 c.args.octets.now (eqb-true _ 0 (sym c.loop-rest-test.ensures)) now.2) now.1
