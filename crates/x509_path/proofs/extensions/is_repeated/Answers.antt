use Rattle.std.proofs.Common.{rules, ap, ◌∙◌, arith}
use Rattle.std.proofs.lemmas.List.{take_all}
use Rattle.std.proofs.lemmas.Cmp.{nat_list_cmp_total}
use Rattle.std.proofs.lemmas.Fn.{always_returns_same}
use Rattle.std.proofs.lemmas.List.Sorted.{ranks_by}
use Rattle.std.specs.Ordering.{is_lt}
use Rattle.x509_der.specs.Order.{bytes_cmp}
use Rattle.x509_ext.proofs.Repeats.{identifiers_of, sorted}
use Rattle.x509_path.specs.Lent.{lent_extensions}
use Rattle.x509_path.proofs.extensions.is_repeated.Goals as goal

pub returns-clause-ok : goal.returns-clause-ok
returns-clause-ok c =
    let identifiers = c.loop-extension.invariant ∙ ap (λ es. identifiers_of (lent_extensions es)) (take_all c.loop-extension.extension-index c.args.extensions.now (omega (arith, c.loop-extension-test.false))) in
    let rises = c.sort_unstable_by.ensures.sorted (λ a b. is_lt (bytes_cmp a b)) (ranks_by nat_list_cmp_total (λ x. x)) (always_returns_same _ _ _ (λ a r f' k. search rules)) in
    let answer = c.is_sorted_by.ensures.cases (λ a b. is_lt (bytes_cmp a b)) (always_returns_same _ _ _ (λ a r f' k. search rules)) in
    sorted (lent_extensions c.args.extensions.now) c.loop-extension.identifiers.items c.sort_unstable_by.new.self.items identifiers c.sort_unstable_by.ensures.permutation rises c.is_sorted_by.result (rw (← c.deref.ensures.value) answer)
