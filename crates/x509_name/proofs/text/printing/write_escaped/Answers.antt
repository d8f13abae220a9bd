use Rattle.std.proofs.Common.{◌≡◌, ◌+◌, ◌<◌, ◌++◌, ℕ, List, [], get_or, true, nat_eq, length, arith, rules, ap, refl, sym, ◌∙◌, ◌||◌}
use Rattle.std.proofs.Output.{has_written_append, has_written_of_eq, writes_in_calls_nil}
use Rattle.std.proofs.lemmas.Str.{IsCharBoundary-start, IsCharBoundary-after_ascii}
use Rattle.std.specs.List.{slice_range}
use Rattle.x509_name.specs.Escapes.{item_text, item_of, is_control, is_always_escaped}
use Rattle.x509_name.proofs.PrintedText.{at_its_place, escaped_is, escaped_ascii, escaped_not, printed_none, printed_escape, printed_plain, printed_end}
use Rattle.x509_name.proofs.text.printing.write_escaped.Goals as goal
use Rattle.x509_name.proofs.text.printing.write_escaped.Goals.{then-is_escaped+in_ok-write_str+in_ok-write_escape, else-is_escaped}

pub loop-i-init : goal.loop-i-init
loop-i-init g c = record {
  before = omega arith;
  boundary = IsCharBoundary-start c.args.text.now c.utf8.text;
  writes = λ plain. ([], record { wrote = writes_in_calls_nil _ _; plain = plain }, printed_none c.args.text.now);
}

pub loop-i-preserved : goal.loop-i-preserved
loop-i-preserved g c =
    let text : List ℕ = c.args.text.now in
    let i : ℕ = c.loop-i.i in
    let start : ℕ = c.loop-i.start in
    let byte : ℕ = get_or text i 0 in
    let value : c.as_bytes-bytes.result.now ≡ text = c.as_bytes-bytes.ensures.value in
    let lt : i < length text = omega (arith, ap (length {A = ℕ}) value) in
    let test : c.is_escaped.result ≡ (is_control byte || (is_always_escaped byte || at_its_place byte (nat_eq i 0) (nat_eq (i + 1) (length text)))) = rw value at c.is_escaped.ensures in
    elim c.if-is_escaped.branch [
      | then-is_escaped+in_ok-write_str+in_ok-write_escape w ↦
          let is = sym test ∙ w.if-is_escaped.true in
          rw (w.f-is, w.start-is) (record {
            before = omega arith;
            boundary = IsCharBoundary-after_ascii text i c.utf8.text lt (escaped_ascii byte (nat_eq i 0) (nat_eq (i + 1) (length text)) is);
            writes = λ plain.
                let now = c.loop-i.invariant.writes plain in
                let run = (rw w.range.ensures.value at w.in_ok-write_str.ensures.writes) now.1.plain (refl {a = true}) in
                let escape = (rw value at w.in_ok-write_escape.ensures) run.plain (refl {a = true}) in (
                  now.0 ++ (slice_range text start i ++ item_text (item_of true byte)),
                  has_written_append _ _ _ _ _ _ now.1 (has_written_append _ _ _ _ _ _ run escape),
                  printed_escape text now.0 _ start i lt now.2 (escaped_is byte _ is),
                );
          })
      | else-is_escaped w ↦ rw (w.f-is, w.start-is) (record {
        before = omega (arith, c.loop-i.invariant.before);
        boundary = c.loop-i.invariant.boundary;
        writes = λ plain.
            let now = c.loop-i.invariant.writes plain in
            (now.0, now.1, printed_plain text now.0 _ start i lt now.2 c.loop-i.invariant.before (escaped_not byte _ (sym test ∙ w.if-is_escaped.false)));
      })
    ]

pub returns : goal.returns
returns g c = λ plain ok.
    let now = c.loop-i.invariant.writes plain in
    has_written_of_eq _ _ _ _ _ (printed_end c.args.text.now now.0 _ c.loop-i.start c.loop-i.i (omega arith) (omega arith) now.2) (has_written_append _ _ _ _ _ _ now.1 (search rules))
