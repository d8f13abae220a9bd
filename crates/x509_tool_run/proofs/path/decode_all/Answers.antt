use Rattle.std.proofs.Common.{◌≡◌, ◌++◌, ◌∷◌, [], inl, inr, rules}
use Rattle.std.proofs.lemmas.List.{map_push}
use Rattle.std.proofs.lemmas.Result.{err_from_is_err_and}
use Rattle.x509_tool_run.proofs.Paths.{decode_all-further, decode_all-bad}
use Rattle.x509_tool_run.proofs.path.decode_all.Goals as goal

pub returns-in_err-bytes_of : goal.returns-in_err-bytes_of
returns-in_err-bytes_of c =
    let p = err_from_is_err_and c.from_residual.result c.from_residual.ensures.1 in
    rw (p.1, p.2) (elim c.in_err-bytes_of.ensures [
      | inl memory ↦ inl memory
      | inr failed ↦ inr (failed.0, decode_all-bad (λ text. text.now) _ c.args.texts.now c.loop-text.text-index c.loop-text-test.true failed.1)
    ])

pub loop-text-preserved : goal.loop-text-preserved
loop-text-preserved c =
    let pushed : c.push.new.self.items ≡ c.loop-text.decoded.items ++ c.in_ok-bytes_of.field-0 ∷ [] = search rules in
    rw (pushed, map_push (λ bytes. bytes.items) c.loop-text.decoded.items c.in_ok-bytes_of.field-0) (decode_all-further (λ text. text.now) _ c.args.texts.now c.loop-text.text-index _ _ c.loop-text-test.true c.loop-text.invariant c.in_ok-bytes_of.ensures)
