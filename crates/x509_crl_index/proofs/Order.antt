-- The order of an index.
use Rattle.std.proofs.Common.{ℕ, List}
use Rattle.std.proofs.lemmas.Cmp.{nat_cmp_total, nat_list_cmp_total, on_total, then_total}
use Rattle.std.specs.Cmp.{IsTotalOrder}
use Rattle.x509_crl_index.specs.Places.{key_cmp}

pub key_total : IsTotalOrder key_cmp
key_total = then_total (on_total (λ (k : List ℕ × ℕ). k.0) nat_list_cmp_total) (on_total (λ (k : List ℕ × ℕ). k.1) nat_cmp_total)
