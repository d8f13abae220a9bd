use Rattle.std.proofs.Common.{◌≡◌, ◌++◌, ◌∷◌, [], false, bytes_eq, refl, sym, ◌∙◌}
use Rattle.x509_c_calls.proofs.Octets.{is_sequence}
use Rattle.x509_c_calls.proofs.RequestMembers.{first_stands, passed, split_first, one_further}
use Rattle.x509_c_calls.proofs.request.look_up.find.Goals as goal
use Rattle.x509_name.specs.Attribute.{attribute}

pub returns-then-eq-clause-stands : goal.returns-then-eq-clause-stands
returns-then-eq-clause-stands c = λ more e. first_stands _ _ _ _ more c.in-Some.ensures.cases.0 (c.loop-first.invariant.3 more e)

pub returns-then-eq-clause-split : goal.returns-then-eq-clause-split
returns-then-eq-clause-split c = (c.loop-first.invariant.2.0, split_first _ _ _ _ _ c.in-Some.ensures.cases.0 c.loop-first.invariant.2.1)

pub loop-first-preserved : goal.loop-first-preserved
loop-first-preserved c =
    let other : bytes_eq c.in-Some.first.now.oid c.args.oid.now ≡ false = rw (sym c.as_bytes.ensures.octets) (sym c.eq.ensures ∙ c.if-eq.false) in (
      passed _ _ _ _ _ c.in-Some.ensures.cases.0 other c.loop-first.invariant.0,
      c.step.ensures.within,
      (c.loop-first.invariant.2.0 ++ c.in-Some.first.now ∷ [], one_further _ _ _ _ _ c.in-Some.ensures.cases.0 c.loop-first.invariant.2.1),
      λ more e. (c.step.ensures.stands _ _ (48, attribute.content c.in-Some.first.now, is_sequence, refl) (first_stands _ _ _ _ more c.in-Some.ensures.cases.0 (c.loop-first.invariant.3 more e))).1,
    )
