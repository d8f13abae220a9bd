use Rattle.std.proofs.Common.{rules, tests}
use Rattle.std.proofs.lemmas.Iterator.{YieldsList-from_slice}
use Rattle.std.proofs.lemmas.Iterator.Consumers.{count_from_yields_List, YieldsList-from_filter}
use Rattle.x509_lint_web.specs.Words.{is_of_type}
use Rattle.x509_lint_web.proofs.names.count_in.Goals as goal

pub returns : goal.returns
returns c =
    count_from_yields_List _ _ c.count.ensures.ran
    (YieldsList-from_filter _ (is_of_type c.args.oid) (YieldsList-from_slice c.args.rdn.now cc) c.filter.ensures.closure (λ x r q k. search (rules, tests)))
