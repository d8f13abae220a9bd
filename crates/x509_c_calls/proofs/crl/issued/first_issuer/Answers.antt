use Rattle.std.proofs.Common.{◌≡◌, ◌++◌, ◌∷◌, [], true, false, bytes_eq, refl, sym, ap, ◌∙◌}
use Rattle.x509_c_calls.proofs.FirstAttributes.{first_stands, one_further, split_first}
use Rattle.x509_c_calls.proofs.IssuedEntries.{with_this, without_this}
use Rattle.x509_c_calls.proofs.Octets.{is_sequence}
use Rattle.x509_c_calls.proofs.crl.issued.first_issuer.Goals as goal
use Rattle.x509_der.specs.Form.{spelling}
use Rattle.x509_ext.specs.Extension.{extension}
use Rattle.x509_ext.specs.Identifiers.{id_ce}
use Rattle.x509_ext.specs.LookUp.{with_oid}

pub returns-then-eq-clause-found : goal.returns-then-eq-clause-found
returns-then-eq-clause-found c = λ more e.
    let i = c.loop-first.invariant in
    let cases = c.in-Some.ensures.cases.0 in
    let same : bytes_eq c.in-Some.first.now.extn_id (id_ce 29) ≡ true = rw (c.as_bytes.ensures.octets, c.as_bytes-in-Some.ensures.octets) at (sym c.eq.ensures ∙ c.if-eq.true) in (
      i.1.0,
      c.in-Some.first.now,
      c.in-Some.others.now,
      split_first _ _ _ _ _ cases i.1.1,
      i.1.2 ∙ ap (with_oid (id_ce 29)) cases ∙ with_this (id_ce 29) c.in-Some.first.now c.in-Some.others.now same,
      (c.view.ensures _ (first_stands (spelling extension) _ _ _ _ more cases (i.2 more e))).value,
    )

pub loop-first-preserved : goal.loop-first-preserved
loop-first-preserved c =
    let i = c.loop-first.invariant in
    let cases = c.in-Some.ensures.cases.0 in
    let other : bytes_eq c.in-Some.first.now.extn_id (id_ce 29) ≡ false = rw (c.as_bytes.ensures.octets, c.as_bytes-in-Some.ensures.octets) at (sym c.eq.ensures ∙ c.if-eq.false) in (
      c.step.ensures.within,
      (i.1.0 ++ c.in-Some.first.now ∷ [], one_further _ _ _ _ _ cases i.1.1, i.1.2 ∙ ap (with_oid (id_ce 29)) cases ∙ without_this (id_ce 29) c.in-Some.first.now c.in-Some.others.now other),
      λ more e. (c.step.ensures.stands _ _ (48, extension.content c.in-Some.first.now, is_sequence, refl) (first_stands (spelling extension) _ _ _ _ more cases (i.2 more e))).1,
    )
