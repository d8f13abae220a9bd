use Rattle.std.proofs.Common.{◌≡◌, ◌∙◌, ℕ, ◌+◌, ◌<◌, ◌≤◌, ◌++◌, length, get_or, ap, arith, rules}
use Rattle.std.proofs.lemmas.List.{get_or-drop}
use Rattle.std.specs.Int.{to_le_bytes, w64}
use Rattle.x509_c_calls.proofs.Settings.{begins_with_number}
use Rattle.x509_c_calls.proofs.path.settings.numbers_of.Goals as goal

pub returns : goal.returns
returns c =
    let octets = c.args.settings.now in
    let middle = c.in_ok-seconds.behind.now in
    let first = c.in_ok-seconds.ensures.cases in
    let second = c.in_ok-flags.ensures.cases in
    let long : 8 ≤ length octets = omega (arith, first.2) in
    let long_behind : 8 ≤ length middle = omega (arith, second.2) in
    let small : (i : ℕ) → get_or octets i 0 < 256 = λ i. omega (arith, c.type_inv.settings i) in
    let small_behind : (i : ℕ) → get_or middle i 0 < 256 = λ i. omega (arith, small (8 + i), ap (λ xs. get_or xs i 0) first.1, get_or-drop 8 octets i 0) in
    let is_first = begins_with_number octets c.in_ok-seconds.seconds.now middle c.from_le_bytes.result first.0 first.1 long small c.from_le_bytes.ensures in
    let is_second = begins_with_number middle c.in_ok-flags.flags.now c.in_ok-flags.behind.now c.from_le_bytes-2.result second.0 second.1 long_behind small_behind c.from_le_bytes-2.ensures in
    record {
      behind = c.in_ok-flags.behind.now;
      are = is_first ∙ ap (λ xs. to_le_bytes w64 c.from_le_bytes.result ++ xs) is_second;
      zeros = search rules;
      seconds_fit = c.from_le_bytes.type_inv;
      flags_fit = c.from_le_bytes-2.type_inv;
    }
