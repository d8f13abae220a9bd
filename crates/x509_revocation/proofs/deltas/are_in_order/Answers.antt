use Rattle.std.proofs.Common.{◌<◌, ◌∙◌, refl, sym, arith}
use Rattle.std.proofs.lemmas.Bool.{true≢false}
use Rattle.x509_prim.specs.Integer.{number}
use Rattle.x509_revocation.specs.Crls.{HasBase, HasNumber}
use Rattle.x509_revocation.proofs.Orders.{before, compared, no_base, no_next, no_own}
use Rattle.x509_revocation.proofs.deltas.are_in_order.Goals as goal

pub returns-in_default : goal.returns-in_default
returns-in_default c = λ whole part lends other. no_base whole part (rw c.in_default.is at (c.in_ok-found_base.ensures part other))

pub returns-in_default-found_own : goal.returns-in_default-found_own
returns-in_default-found_own c = λ whole part lends other. no_own whole part (rw c.in_default-found_own.is at (c.in_ok-found_own.ensures whole lends))

pub returns-in_default-found_next : goal.returns-in_default-found_next
returns-in_default-found_next c = λ whole part lends other. no_next whole part (rw c.in_default-found_next.is at (c.in_ok-found_next.ensures part other))

pub returns-then-is_less : goal.returns-then-is_less
returns-then-is_less c = λ whole part lends other.
    let base = number c.in-Some.base.0 in
    let own = number c.in-Some-found_own.own.0 in
    let next = number c.in-Some-found_next.next.0 in
    let has_base : HasBase part base = (c.in-Some.base, rw c.in-Some.is at (c.in_ok-found_base.ensures part other), refl) in
    let has_own : HasNumber whole own = (c.in-Some-found_own.own, rw c.in-Some-found_own.is at (c.in_ok-found_own.ensures whole lends), refl) in
    let has_next : HasNumber part next = (c.in-Some-found_next.next, rw c.in-Some-found_next.is at (c.in_ok-found_next.ensures part other), refl) in
    let less : own < base = omega (arith, c.is_less.ensures.0 c.if-is_less.true, c.as_bytes.ensures.number, c.as_bytes-2.ensures.number) in
    before whole part base own next has_base has_own has_next less

pub returns : goal.returns
returns c = λ whole part lends other.
    let base = number c.in-Some.base.0 in
    let own = number c.in-Some-found_own.own.0 in
    let next = number c.in-Some-found_next.next.0 in
    let has_base : HasBase part base = (c.in-Some.base, rw c.in-Some.is at (c.in_ok-found_base.ensures part other), refl) in
    let has_own : HasNumber whole own = (c.in-Some-found_own.own, rw c.in-Some-found_own.is at (c.in_ok-found_own.ensures whole lends), refl) in
    let has_next : HasNumber part next = (c.in-Some-found_next.next, rw c.in-Some-found_next.is at (c.in_ok-found_next.ensures part other), refl) in
    compared whole part base own next has_base has_own has_next c.is_less-2.result
    (λ less.
    let below : number c.as_bytes.result.now < number c.as_bytes-2.result.now = omega (arith, less, c.as_bytes.ensures.number, c.as_bytes-2.ensures.number) in
    true≢false (sym (c.is_less.ensures.1 below) ∙ c.if-is_less.false)) (
      (λ is. omega (arith, c.is_less-2.ensures.0 is, c.as_bytes-3.ensures.number, c.as_bytes-4.ensures.number)),
      (λ less. c.is_less-2.ensures.1 (omega (arith, less, c.as_bytes-3.ensures.number, c.as_bytes-4.ensures.number))),
    )
