use Rattle.std.proofs.Common.{◌≡◌, ◌≤◌, ◌<◌, List, ℕ, length, get_or, sym, ap, ◌∙◌, arith, subst}
use Rattle.std.specs.Prelude.{IfSome, Option}
use Rattle.std.specs.Fmt.{decimal}
use Rattle.x509_der.proofs.Numerals.{parsed_is_decimal, decimal_is_parsed, decimal_begins}
use Rattle.x509_der.proofs.oid.numbers.arc_in.Goals as goal
use Rattle.x509_der.proofs.oid.numbers.arc_in.Goals.{else-text-gt1-via-then-text-gt1+else-as_bytes-lt-LEAST_FIRST_DIGIT, else-text-gt1-via-else-text-gt1}

pub returns-then-as_bytes-lt-LEAST_FIRST_DIGIT-clause-only : goal.returns-then-as_bytes-lt-LEAST_FIRST_DIGIT-clause-only
returns-then-as_bytes-lt-LEAST_FIRST_DIGIT-clause-only c = λ n small is.
    let first : 49 ≤ get_or c.args.text.now 0 0 = decimal_begins c.args.text.now n small is (omega arith) in
    let same = ap (λ (xs : List ℕ). get_or xs 0 0) c.as_bytes.ensures.value in
    absurd (omega arith)

pub returns-clause-found : goal.returns-clause-found
returns-clause-found c =
    let lead : 1 < length c.args.text.now → 49 ≤ get_or c.args.text.now 0 0 = λ long. elim c.else-text-gt1.branch [
      | else-text-gt1-via-then-text-gt1+else-as_bytes-lt-LEAST_FIRST_DIGIT w ↦ (let same = ap (λ (xs : List ℕ). get_or xs 0 0) w.as_bytes.ensures.value in omega arith)
      | else-text-gt1-via-else-text-gt1 w ↦ absurd (omega arith)
    ] in
    let P : Option ℕ → Type 0 = λ o. IfSome o (λ n. c.args.text.now ≡ decimal n) in
    subst P (sym c.ok.ensures.value) (parsed_is_decimal c.args.text.now c.parse.result c.parse.ensures.value.0 lead)

pub returns-clause-only : goal.returns-clause-only
returns-clause-only c = λ n small is. c.ok.ensures.value ∙ decimal_is_parsed c.args.text.now c.parse.result n c.parse.ensures.value.0 small is
