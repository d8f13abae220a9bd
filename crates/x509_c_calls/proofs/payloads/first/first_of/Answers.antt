use Rattle.std.proofs.Common.{◌≡◌, ◌++◌, ◌∷◌, [], None, refl}
use Rattle.x509_c_calls.proofs.FirstAttributes.{first_stands_alone, none_in_more, one_further, split_first}
use Rattle.x509_c_calls.proofs.RequestFields.{is_set}
use Rattle.x509_c_calls.proofs.payloads.first.first_of.Goals as goal
use Rattle.x509_der.specs.Form.{spelling}
use Rattle.x509_name.specs.LookUp.{first_of_type}
use Rattle.x509_name.specs.Names.{relative_distinguished_name}

pub returns-in-Some-first_in-clause-found : goal.returns-in-Some-first_in-clause-found
returns-in-Some-first_in-clause-found c = λ e.
    let i = c.loop-rdn.invariant in
    let cases = c.in-Some.ensures.cases.0 in
    let rdn = c.in-Some.rdn.now in
    let inside = c.enter.ensures.stands 49 (relative_distinguished_name.content rdn) _ is_set (first_stands_alone (spelling relative_distinguished_name) _ _ _ _ cases (i.2 e)) in
    let found = (rw c.as_slice.ensures.members at c.in-Some-first_in.ensures.found) _ inside.1 in
    (found.0, found.1, c.in-Some.others.now, record { before = i.1.0; rdn = rdn; split = split_first _ _ _ _ _ cases i.1.1; others = i.1.2; in_rdn = found.2 }, found.3)

pub loop-rdn-preserved : goal.loop-rdn-preserved
loop-rdn-preserved c =
    let i = c.loop-rdn.invariant in
    let cases = c.in-Some.ensures.cases.0 in
    let rdn = c.in-Some.rdn.now in
    let none : first_of_type c.args.oid.now rdn ≡ None = rw c.as_slice.ensures.members at (c.in_default-first_in.ensures.none refl) in (
      c.step.ensures.within,
      (i.1.0 ++ rdn ∷ [], one_further _ _ _ _ _ cases i.1.1, none_in_more c.args.oid.now i.1.0 rdn i.1.2 none),
      λ e. (c.step.ensures.stands _ _ (49, relative_distinguished_name.content rdn, is_set, refl) (first_stands_alone (spelling relative_distinguished_name) _ _ _ _ cases (i.2 e))).1,
    )
