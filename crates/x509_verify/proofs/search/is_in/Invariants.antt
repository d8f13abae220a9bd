use Rattle.std.proofs.Common.{◌≡◌, ◌<◌, ℕ, List, Bor, get_or}
use Rattle.x509_verify.proofs.search.is_in.Given as goal

-- none before is that one
abbrev pub invariant-loop-one : goal.invariant-loop-one
invariant-loop-one l = (k : ℕ) (d : Bor (List ℕ)) → k < l.one-index → (get_or l.path k d).now ≡ l.bytes → ⊥
