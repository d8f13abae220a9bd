use Rattle.std.proofs.Common.{rules, ◌==◌}
use Rattle.std.proofs.lemmas.Iterator.Search.{any_from_yields_List}
use Rattle.std.proofs.lemmas.Iterator.Splits.{YieldsList-from_slice_split}
use Rattle.x509_lint.specs.Label.{is_xn_label}
use Rattle.x509_lint_web.proofs.hosts.has_xn_label.Goals as goal

pub returns : goal.returns
returns c =
    any_from_yields_List is_xn_label _ _ c.any.result c.any.ensures.ran
    (YieldsList-from_slice_split _ (λ octet. octet == 46) c.args.text.now c.split.ensures.rest c.split.ensures.done c.split.ensures.closure
    (λ x b q k. search rules))
    (λ x b q k. search rules)
