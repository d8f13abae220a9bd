use Rattle.std.proofs.Common.{◌≡◌, ◌<◌, ℕ, List, true, false, IfOk, length, inl, inr, ap, refl, subst, arith}
use Rattle.std.proofs.lemmas.Bool.{cases_Bool}
use Rattle.std.proofs.lemmas.Bool.Decides.{nat_tests}
use Rattle.std.proofs.lemmas.Str.{IsUtf8-from_is_utf8, is_utf8-from_IsUtf8}
use Rattle.std.specs.Prelude.{nat_le}
use Rattle.std.specs.Str.{is_utf8}
use Rattle.idna.specs.Punycode.{decode}
use Rattle.x509_lint.specs.Label.{is_unnormalized}
use Rattle.x509_lint.specs.Words.{passes}
use Rattle.x509_lint.proofs.labels.is_unnormalized_behind.Goals as goal

pub returns-in_default : goal.returns-in_default
returns-in_default c =
    let other : is_utf8 c.args.octets.now ≡ false = elim (cases_Bool (is_utf8 c.args.octets.now)) [
      | inl is ↦ absurd (c.in_default.ensures.cases.0 (IsUtf8-from_is_utf8 c.args.octets.now is))
      | inr isnt ↦ isnt
    ] in
    let fits : nat_le (length c.args.octets.now) 59 ≡ true = grind (arith, nat_tests, c.if-octets-gt-MAX_OCTETS.false) in
    rw (fits, other) refl

pub returns : goal.returns
returns c =
    let same = c.in-Ok.ensures.cases.0 in
    let text : is_utf8 c.args.octets.now ≡ true = is_utf8-from_IsUtf8 c.args.octets.now c.in-Ok.ensures.cases.1 in
    let fits : nat_le (length c.args.octets.now) 59 ≡ true = grind (arith, nat_tests, c.if-octets-gt-MAX_OCTETS.false) in
    let short : length c.in-Ok.text.now < 4294967296 = grind (arith, nat_tests, ap length same, c.if-octets-gt-MAX_OCTETS.false) in
    rw (fits, text) (subst (λ (octets : List ℕ). IfOk c.is_unnormalized.result (λ b. b ≡ passes is_unnormalized (decode octets))) same (c.is_unnormalized.ensures short))
