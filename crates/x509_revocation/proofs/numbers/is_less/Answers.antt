use Rattle.std.proofs.Common.{◌∙◌, ◌<◌, ◌≡◌, length, refl, sym, arith}
use Rattle.std.proofs.lemmas.Bool.{true≢false}
use Rattle.x509_prim.specs.Integer.{number}
use Rattle.x509_revocation.proofs.Digits.{before_zeros, behind_zeros, cut, octets_all, over}
use Rattle.x509_revocation.proofs.numbers.is_less.Goals as goal

pub returns-then-is_zero : goal.returns-then-is_zero
returns-then-is_zero c =
    let whole = cut _ c.args.a.now c.split_at.result.0.now c.split_at.result.1.now c.split_at.ensures.front c.split_at.ensures.back in
    let same : length c.split_at.result.1.now ≡ length c.args.b.now = omega (arith, c.split_at.ensures.back_len, c.if-a-b.true) in
    let said = behind_zeros c.split_at.result.0.now c.split_at.result.1.now c.args.a.now c.args.b.now whole (octets_all c.args.a.now c.type_inv.a) (octets_all c.args.b.now c.type_inv.b) same (c.is_zero.ensures.0 c.if-is_zero.true) in
    ((λ is. said.0 (c.are_before.ensures.0 is)), (λ less. c.are_before.ensures.1 (said.1 less)))

pub returns-else-is_zero : goal.returns-else-is_zero
returns-else-is_zero c =
    let whole = cut _ c.args.a.now c.split_at.result.0.now c.split_at.result.1.now c.split_at.ensures.front c.split_at.ensures.back in
    let same : length c.split_at.result.1.now ≡ length c.args.b.now = omega (arith, c.split_at.ensures.back_len, c.if-a-b.true) in
    let more : number c.args.b.now < number c.args.a.now = over c.split_at.result.0.now c.split_at.result.1.now c.args.a.now c.args.b.now whole (octets_all c.args.a.now c.type_inv.a) (octets_all c.args.b.now c.type_inv.b) same (λ zero. true≢false (sym (c.is_zero.ensures.1 zero) ∙ c.if-is_zero.false)) in
    ((λ is. absurd (true≢false (sym is ∙ c.if-is_zero.false))), (λ less. absurd (omega (arith, more, less))))

pub returns-then-not-is_zero : goal.returns-then-not-is_zero
returns-then-not-is_zero c =
    let whole = cut _ c.args.b.now c.split_at-2.result.0.now c.split_at-2.result.1.now c.split_at-2.ensures.front c.split_at-2.ensures.back in
    let same : length c.split_at-2.result.1.now ≡ length c.args.a.now = omega (arith, c.split_at-2.ensures.back_len, c.if-a-b.false) in
    let more = over c.split_at-2.result.0.now c.split_at-2.result.1.now c.args.b.now c.args.a.now whole (octets_all c.args.b.now c.type_inv.b) (octets_all c.args.a.now c.type_inv.a) same (λ zero. true≢false (sym (c.is_zero-2.ensures.1 zero) ∙ c.if-not-is_zero.true)) in
    ((λ is. more), (λ less. rw c.if-not-is_zero.true refl))

pub returns-else-not-is_zero : goal.returns-else-not-is_zero
returns-else-not-is_zero c =
    let whole = cut _ c.args.b.now c.split_at-2.result.0.now c.split_at-2.result.1.now c.split_at-2.ensures.front c.split_at-2.ensures.back in
    let same : length c.split_at-2.result.1.now ≡ length c.args.a.now = omega (arith, c.split_at-2.ensures.back_len, c.if-a-b.false) in
    let said = before_zeros c.split_at-2.result.0.now c.split_at-2.result.1.now c.args.b.now c.args.a.now whole (octets_all c.args.b.now c.type_inv.b) (octets_all c.args.a.now c.type_inv.a) same (c.is_zero-2.ensures.0 c.if-not-is_zero.false) in
    ((λ is. said.0 (c.are_before-else-not-is_zero.ensures.0 is)), (λ less. c.are_before-else-not-is_zero.ensures.1 (said.1 less)))
