use Rattle.std.proofs.Common.{◌≡◌, ◌++◌, ◌∷◌, [], true, false, bytes_eq, refl, sym, ◌∙◌}
use Rattle.x509_c_calls.proofs.FirstAttributes.{first_stands, none_here, none_in_both, one_further, split_first}
use Rattle.x509_c_calls.proofs.Octets.{is_sequence}
use Rattle.x509_c_calls.proofs.payloads.first.first_in.Goals as goal
use Rattle.x509_der.specs.Form.{spelling}
use Rattle.x509_name.specs.TypeAndValue.{attribute_type_and_value}

pub returns-then-eq-clause-found : goal.returns-then-eq-clause-found
returns-then-eq-clause-found c = λ more e.
    let i = c.loop-first.invariant in
    let cases = c.in-Some.ensures.cases.0 in
    let same : bytes_eq c.in-Some.first.now.oid c.args.oid.now ≡ true = rw (sym c.as_bytes.ensures.octets) (sym c.eq.ensures ∙ c.if-eq.true) in (
      c.in-Some.first.now,
      c.in-Some.others.now,
      record { before = i.1.0; split = split_first _ _ _ _ _ cases i.1.1; others = i.1.2; is = same },
      c.view.ensures _ (first_stands (spelling attribute_type_and_value) _ _ _ _ more cases (i.2 more e)),
    )

pub loop-first-preserved : goal.loop-first-preserved
loop-first-preserved c =
    let i = c.loop-first.invariant in
    let cases = c.in-Some.ensures.cases.0 in
    let other : bytes_eq c.in-Some.first.now.oid c.args.oid.now ≡ false = rw (sym c.as_bytes.ensures.octets) (sym c.eq.ensures ∙ c.if-eq.false) in (
      c.step.ensures.within,
      (i.1.0 ++ c.in-Some.first.now ∷ [], one_further _ _ _ _ _ cases i.1.1, none_in_both c.args.oid.now i.1.0 (c.in-Some.first.now ∷ []) i.1.2 (none_here c.args.oid.now c.in-Some.first.now other)),
      λ more e. (c.step.ensures.stands _ _ (48, attribute_type_and_value.content c.in-Some.first.now, is_sequence, refl) (first_stands (spelling attribute_type_and_value) _ _ _ _ more cases (i.2 more e))).1,
    )
