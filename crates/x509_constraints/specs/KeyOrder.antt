-- The order of keys is total, and only equal keys tie.
use Rattle.std.specs.Prelude.{◌≡◌, ℕ, List, bytes_eq}
use Rattle.std.specs.Cmp.{IsTotalOrder}
use Rattle.std.specs.Cmp.Lexicographic.{nat_list_cmp_total, slice_cmp}
use Rattle.std.specs.Ordering.{eq_by_cmp, nat_cmp}
use Rattle.std.proofs.Common.{sym}
use Rattle.std.proofs.lemmas.Map.Text.{is_eq-slice_cmp}

pub key_total : IsTotalOrder (slice_cmp nat_cmp)
key_total = nat_list_cmp_total

pub key_ties : (x y : List ℕ) → bytes_eq x y ≡ eq_by_cmp (slice_cmp nat_cmp) x y
key_ties x y = sym (is_eq-slice_cmp x y)
