use Rattle.std.proofs.Common.{◌≡◌, ◌<◌, ◌++◌, ◌∷◌, [], Ok, bytes_eq, length, inl, inr, ap, not, sym, ◌∙◌, arith, length-append}
use Rattle.std.proofs.lemmas.Bool.Decides.{nat_tests}
use Rattle.x509_cert.specs.RevokedCert.{revoked_cert}
use Rattle.x509_check.proofs.LentEntries.{found_front, not_now}
use Rattle.x509_check.proofs.PassedExtensions.{marked_behind}
use Rattle.x509_check.specs.contracts.lent.revoked.find_in_entries.{P-type}
use Rattle.x509_der.specs.Frames.{field_at}
use Rattle.x509_der.specs.ListLaws.{all_read, ends, field_shorter, goes_on}
use Rattle.x509_check.proofs.lent.revoked.find_in_entries.Goals.{else-is_none-via-then-is_none+else-is_same, else-is_none-via-else-is_none}
use Rattle.x509_check.proofs.lent.revoked.find_in_entries.Goals as goal

pub loop-rest-smaller-then-is_same : goal.loop-rest-smaller-then-is_same
loop-rest-smaller-then-is_same g c =
    let (entry, said, same) = c.in-Ok.ensures in
    let shorter = field_shorter (revoked_cert {P = P-type g.row.P} g.P.Profile.serial_check).reading _ entry.0 entry.1 said in rw (same.1) shorter

pub loop-rest-preserved-then-is_same : goal.loop-rest-preserved-then-is_same
loop-rest-preserved-then-is_same g c =
    let read = (revoked_cert {P = P-type g.row.P} g.P.Profile.serial_check).reading in
    let passed = c.loop-rest.invariant.passed in
    let entry = c.in-Ok.ensures.0 in
    let same = c.in-Ok.ensures.2 in
    let said : field_at read c.loop-rest.rest.now ≡ Ok (entry.0, c.in-Ok.others.now) = c.in-Ok.ensures.1 ∙ ap (λ rest. Ok (entry.0, rest)) (sym same.1) in
    let shorter : length c.in-Ok.others.now < length c.loop-rest.rest.now = field_shorter read _ _ _ said in record {
      within = omega arith;
      passed = (
        passed.0 ++ entry.0 ∷ [],
        goes_on read passed.0 _ _ _ _ said passed.1,
        found_front _ passed.0 c.loop-rest.found c.known_entry.result.0 entry.0 (c.is_none.ensures ∙ ap not c.if-is_none.true) (ap (λ number. bytes_eq number c.args.serial_number.now) (sym same.0) ∙ sym c.is_same.ensures ∙ c.if-is_same.true)
            (c.known_entry.ensures entry.0 _ said).0 passed.2,
        omega (arith, passed.3, length-append passed.0 (entry.0 ∷ [])),
        marked_behind passed.0 entry.0 c.loop-rest.has_marked c.in-Ok.is_marked passed.4 same.2,
      );
    }

pub loop-rest-smaller : goal.loop-rest-smaller
loop-rest-smaller g c =
    let (entry, said, same) = c.in-Ok.ensures in
    let shorter = field_shorter (revoked_cert {P = P-type g.row.P} g.P.Profile.serial_check).reading _ entry.0 entry.1 said in rw (same.1) shorter

pub loop-rest-preserved : goal.loop-rest-preserved
loop-rest-preserved g c =
    let read = (revoked_cert {P = P-type g.row.P} g.P.Profile.serial_check).reading in
    let passed = c.loop-rest.invariant.passed in
    let entry = c.in-Ok.ensures.0 in
    let same = c.in-Ok.ensures.2 in
    let said : field_at read c.loop-rest.rest.now ≡ Ok (entry.0, c.in-Ok.others.now) = c.in-Ok.ensures.1 ∙ ap (λ rest. Ok (entry.0, rest)) (sym same.1) in
    let number = ap (λ number. bytes_eq number c.args.serial_number.now) (sym same.0) in
    let shorter : length c.in-Ok.others.now < length c.loop-rest.rest.now = field_shorter read _ _ _ said in record {
      within = omega arith;
      passed = (
        passed.0 ++ entry.0 ∷ [],
        goes_on read passed.0 _ _ _ _ said passed.1,
        not_now _ passed.0 c.loop-rest.found entry.0
            (elim c.else-is_none.branch [ else-is_none-via-then-is_none+else-is_same w ↦ inl (number ∙ sym w.is_same.ensures ∙ w.if-is_same.false) | else-is_none-via-else-is_none w ↦ inr (c.is_none.ensures ∙ ap not w.if-is_none.false) ])
            passed.2,
        omega (arith, passed.3, length-append passed.0 (entry.0 ∷ [])),
        marked_behind passed.0 entry.0 c.loop-rest.has_marked c.in-Ok.is_marked passed.4 same.2,
      );
    }

pub returns-in-Err : goal.returns-in-Err
returns-in-Err g c =
    let read = (revoked_cert {P = P-type g.row.P} g.P.Profile.serial_check).reading in
    let passed = c.loop-rest.invariant.passed in
    let more : 0 < length c.loop-rest.rest.now = grind (arith, nat_tests) in
    ends read passed.0 _ _ _ c.in-Err.ensures more passed.1

pub returns : goal.returns
returns g c =
    let read = (revoked_cert {P = P-type g.row.P} g.P.Profile.serial_check).reading in
    let passed = c.loop-rest.invariant.passed in
    let none : length c.loop-rest.rest.now ≡ 0 = grind (arith, nat_tests) in
    (passed.0, all_read read passed.0 _ _ none passed.1, (passed.2, passed.3, passed.4))
