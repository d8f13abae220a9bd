use Rattle.std.proofs.Common.{◌≡◌, ◌∙◌, Bool, true, sym}
use Rattle.std.proofs.lemmas.Bool.{true≢false}
use Rattle.x509_ext.specs.declared.extension.Extension.{Extension}
use Rattle.x509_path.proofs.Looks.{OfLent, all_hold, one_fails, one_more}
use Rattle.x509_path_steps.specs.Validation.{IsProcessed}
use Rattle.x509_validation.proofs.processed.are_processed.Goals as goal
use Rattle.x509_validation.proofs.processed.are_processed.Goals.{else-extension-via-then-extension+else-not-is_processed, else-extension-via-else-extension}

abbrev IsHandled : Bool → Extension → Type 0
IsHandled asks_purpose e = e.critical ≡ true → IsProcessed asks_purpose e

pub returns-then-not-is_processed : goal.returns-then-not-is_processed
returns-then-not-is_processed c = one_fails (IsHandled c.args.asks_purpose) c.args.extensions.now c.loop-extension.extension-index c.extension-item.result c.loop-extension-test.true c.extension-item.is (λ here. true≢false (sym (c.is_processed.ensures.1 (here c.if-extension.true)) ∙ c.if-not-is_processed.true))

pub loop-extension-preserved : goal.loop-extension-preserved
loop-extension-preserved c =
    let here : OfLent (IsHandled c.args.asks_purpose) c.extension-item.result = elim c.else-extension.branch [
      | else-extension-via-then-extension+else-not-is_processed w ↦ λ critical. w.is_processed.ensures.0 w.if-not-is_processed.false
      | else-extension-via-else-extension w ↦ λ critical. absurd (true≢false (sym critical ∙ w.if-extension.false))
    ] in
    one_more (IsHandled c.args.asks_purpose) c.args.extensions.now c.loop-extension.extension-index c.extension-item.result c.loop-extension-test.true c.extension-item.is here c.loop-extension.invariant

pub returns : goal.returns
returns c = all_hold (IsHandled c.args.asks_purpose) c.args.extensions.now c.loop-extension.extension-index c.loop-extension-test.false c.loop-extension.invariant
