use Rattle.std.proofs.Common.{◌≡◌, ℕ, ◌<◌, None, nat_lt, take}
use Rattle.x509_build.specs.Order.{break_at, has_from}
use Rattle.x509_build.proofs.profile.encoding.check_names_encoding.Given as goal

-- no relative name so far breaks the rules, and `next` is the first place behind the types of all of them
abbrev pub invariant-loop-i : goal.invariant-loop-i
invariant-loop-i l = record {
  kept : (k : ℕ) → k < l.i → break_at l.multiple_allowed l.name k ≡ None;
  behind : (place : ℕ) → has_from place (take l.i l.name) ≡ nat_lt place l.next;
}
