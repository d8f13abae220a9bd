use Rattle.std.proofs.Common.{◌≡◌, ◌+◌, ◌-◌, ◌<◌, length, Some, sym, ap, ◌∙◌, arith}
use Rattle.std.proofs.lemmas.Bool.Decides.{nat_tests}
use Rattle.x509_refusal.proofs.Members.{none_left, none_more, one_more, unread_here}
use Rattle.x509_refusal.proofs.Passing.{passed, refused}
use Rattle.x509_refusal.proofs.walk.unread_members.Goals as goal
use Rattle.x509_refusal.specs.Unread.{behind, unread_members_at}

pub returns-then-is_empty-clause-exact : goal.returns-then-is_empty-clause-exact
returns-then-is_empty-clause-exact c =
    let none : length c.loop.rest.now ≡ 0 = grind (arith, nat_tests) in
    sym (none_left (length c.args.octets.now - c.loop.counter) c.args.member c.args.end c.loop.rest.now none) ∙ c.loop.invariant.same

pub returns-then-is_err-clause-exact : goal.returns-then-is_err-clause-exact
returns-then-is_err-clause-exact c =
    let more : 0 < length c.args.octets.now - c.loop.counter = grind (arith, nat_tests) in
    let some : 0 < length c.loop.rest.now = grind (arith, nat_tests) in
    let none = refused c.pass.result c.pass.new.rest.now (behind c.args.member c.loop.rest.now) c.pass.ensures.exact (sym c.is_err.ensures.value ∙ c.if-is_err.true) in
    ap Some c.unread.ensures ∙ sym (unread_here c.args.member c.args.end (length c.args.octets.now - c.loop.counter) c.loop.rest.now more some none) ∙ c.loop.invariant.same

pub loop-preserved : goal.loop-preserved
loop-preserved c =
    let next : length c.args.octets.now - c.loop.counter ≡ (length c.args.octets.now - (c.loop.counter + 1)) + 1 = grind (arith, nat_tests) in
    let some : 0 < length c.loop.rest.now = grind (arith, nat_tests) in
    let left = passed c.pass.result c.pass.new.rest.now (behind c.args.member c.loop.rest.now) c.pass.ensures.exact (sym c.is_err.ensures.value ∙ c.if-is_err.false) in
    record {
      left = omega arith;
      same = sym (one_more c.args.member c.args.end (length c.args.octets.now - c.loop.counter) (length c.args.octets.now - (c.loop.counter + 1)) c.loop.rest.now c.pass.new.rest.now next some left) ∙ c.loop.invariant.same;
    }

pub returns-clause-exact : goal.returns-clause-exact
returns-clause-exact c =
    let out : length c.args.octets.now - c.loop.counter ≡ 0 = grind (arith, nat_tests) in
    sym (ap (λ n. unread_members_at n c.args.member c.args.end c.loop.rest.now) out ∙ none_more c.args.member c.args.end c.loop.rest.now) ∙ c.loop.invariant.same
