use Rattle.std.proofs.Common.{◌∙◌, ap, length, subst, sym, take, rules}
use Rattle.std.proofs.lemmas.List.Sorted.{IsPartitionPoint-from_clause}
use Rattle.std.specs.List.{Contains}
use Rattle.std.specs.List.Sorted.{IsPartitionPoint, IsPartitionedBy}
use Rattle.std.specs.Prelude.{◌≡◌, ◌≤◌, true, false}
use Rattle.x509_verify.proofs.Entries.{all_found, before, equal, every_found, parted_before, parted_up_to, some_found, up_to}
use Rattle.x509_verify.proofs.keyed.under_key.Goals as goal

pub returns-clause-every : goal.returns-clause-every
returns-clause-every g c = λ entry has same.
    let o = g.met.K.Ord.total in
    let key = c.args.key.now in
    let entries = c.args.entries.now in
    let low = c.partition_point-low.result in
    let count = c.partition_point-count.result in
    let back = c.split_at.ensures.back in
    let first = IsPartitionPoint-from_clause (before o key) entries low c.partition_point-low.ensures.partitioned (parted_before o key entries c.requires) (λ a r f h. search rules) in
    let parted = subst (λ rest. IsPartitionedBy (up_to o key) rest) (sym back) (parted_up_to o key entries c.requires low) in
    let last = IsPartitionPoint-from_clause (up_to o key) c.split_at.result.1.now count c.partition_point-count.ensures.partitioned parted (λ a r f h. search rules) in
    let there = subst (λ rest. IsPartitionPoint (λ e. up_to o key e ≡ true) (λ e. up_to o key e ≡ false) rest count) back last in
    let enough = subst (λ rest. count ≤ length rest) back c.partition_point-count.ensures.bound in
    subst (λ found. Contains found entry) (sym (c.split_at-2.ensures.front ∙ ap (take count) back))
    (every_found o key entries c.requires low count c.partition_point-low.ensures.bound enough first there entry has (equal _ (sym (g.met.K.Ord.matches_eq entry.key key) ∙ same)))

pub returns-clause-some : goal.returns-clause-some
returns-clause-some g c = λ entry has.
    let o = g.met.K.Ord.total in
    let key = c.args.key.now in
    let entries = c.args.entries.now in
    let low = c.partition_point-low.result in
    let count = c.partition_point-count.result in
    let back = c.split_at.ensures.back in
    let enough = subst (λ rest. count ≤ length rest) back c.partition_point-count.ensures.bound in
    some_found entries low count c.partition_point-low.ensures.bound enough entry
    (subst (λ found. Contains found entry) (c.split_at-2.ensures.front ∙ ap (take count) back) has)

pub returns-clause-all : goal.returns-clause-all
returns-clause-all g c =
    let o = g.met.K.Ord.total in
    let key = c.args.key.now in
    let entries = c.args.entries.now in
    let low = c.partition_point-low.result in
    let count = c.partition_point-count.result in
    let back = c.split_at.ensures.back in
    let first = IsPartitionPoint-from_clause (before o key) entries low c.partition_point-low.ensures.partitioned (parted_before o key entries c.requires) (λ a r f h. search rules) in
    let parted = subst (λ rest. IsPartitionedBy (up_to o key) rest) (sym back) (parted_up_to o key entries c.requires low) in
    let last = IsPartitionPoint-from_clause (up_to o key) c.split_at.result.1.now count c.partition_point-count.ensures.partitioned parted (λ a r f h. search rules) in
    let there = subst (λ rest. IsPartitionPoint (λ e. up_to o key e ≡ true) (λ e. up_to o key e ≡ false) rest count) back last in
    let enough = subst (λ rest. count ≤ length rest) back c.partition_point-count.ensures.bound in
    (c.split_at-2.ensures.front ∙ ap (take count) back)
    ∙ all_found o key entries c.requires low count c.partition_point-low.ensures.bound enough first there g.K.PartialEq.eq (λ k. g.met.K.Ord.matches_eq k key)
