use Rattle.std.proofs.Common.{rules}
use Rattle.std.specs.Cmp.Lexicographic.{slice_cmp}
use Rattle.std.specs.Ordering.{nat_cmp}
use Rattle.std.proofs.lemmas.Fn.{always_returns_same}
use Rattle.x509_lint.proofs.SortedOids.{found}
use Rattle.x509_lint.proofs.asserted.is_among.Goals as goal

pub returns : goal.returns
returns c =
    let oid = c.args.oid.now in
    let position = c.binary_search_by.ensures.position (λ q. slice_cmp nat_cmp q.now oid) (always_returns_same _ _ _ (λ a r f' k. search rules)) in
    found c.args.identifiers.now c.requires oid c.binary_search_by.result c.binary_search_by.ensures.bound position c.is_ok.result c.is_ok.ensures.value
