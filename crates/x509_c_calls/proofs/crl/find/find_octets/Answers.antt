use Rattle.std.proofs.Common.{◌≡◌, length, sym, ap, ◌∙◌, arith}
use Rattle.std.proofs.lemmas.Bool.Decides.{nat_tests}
use Rattle.x509_c_calls.proofs.CrlFields.{is_integer}
use Rattle.x509_c_calls.proofs.EntryCounts.{shorter}
use Rattle.x509_c_calls.proofs.FoundEntries.{found_here, front, none_stands, none_with, number_front, passed_element, passed_on, some_front}
use Rattle.x509_c_calls.proofs.crl.find.find_octets.Goals as goal

pub returns-in_err-piece-clause-found : goal.returns-in_err-piece-clause-found
returns-in_err-piece-clause-found c = λ values is.
    let (before, left, split, stands, same) = c.loop-rest.invariant.all values is in
    absurd (some_front left _ _ (λ none. grind (arith, nat_tests)) (rw c.in_err-piece.ensures.err at c.in_err-piece.ensures.exact) stands)

pub returns-then-begins_with-clause-found : goal.returns-then-begins_with-clause-found
returns-then-begins_with-clause-found c = λ values is.
    let (before, left, split, stands, same) = c.loop-rest.invariant.all values is in
    let f = front left _ _ c.in_ok-piece.ensures.exact stands in
    let test = c.begins_with.ensures 2 f.first.serial_number _ is_integer (f.content ∙ number_front f.first) in
    found_here c.args.number.now values before left f.more f.first f.is split same _ stands (sym test ∙ c.if-begins_with.true)

pub loop-rest-smaller : goal.loop-rest-smaller
loop-rest-smaller c = let less = shorter _ _ c.in_ok-piece.ensures.exact in omega (arith, less)

pub loop-rest-preserved : goal.loop-rest-preserved
loop-rest-preserved c =
    let w = c.loop-rest.invariant.within in record {
      within = passed_element _ w.0 _ _ c.in_ok-piece.ensures.exact w.1;
      all = λ values is.
          let (before, left, split, stands, same) = c.loop-rest.invariant.all values is in
          let f = front left _ _ c.in_ok-piece.ensures.exact stands in
          let test = c.begins_with.ensures 2 f.first.serial_number _ is_integer (f.content ∙ number_front f.first) in
          passed_on c.args.number.now values before left f.more f.first f.is split same _ f.rest (sym test ∙ c.if-begins_with.false);
    }

pub returns-clause-found : goal.returns-clause-found
returns-clause-found c = λ values is.
    let (before, left, split, stands, same) = c.loop-rest.invariant.all values is in
    let empty : length c.loop-rest.rest.now ≡ 0 = grind (arith, nat_tests) in
    none_with c.args.number.now values left (none_stands left c.loop-rest.rest.now empty stands) same
