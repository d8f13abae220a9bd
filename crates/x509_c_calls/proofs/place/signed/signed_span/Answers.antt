use Rattle.std.proofs.Common.{◌≡◌, ◌++◌, ◌≤◌, [], length, sym, ap, ◌∙◌, arith}
use Rattle.std.proofs.lemmas.List.{append-nil}
use Rattle.x509_cert.proofs.SignedParts.{nothing_left, same_content, something_left}
use Rattle.x509_c_calls.proofs.Standing.{inside_whole, signed_stands}
use Rattle.x509_der.specs.Element.{element, limit}
use Rattle.x509_c_calls.proofs.place.signed.signed_span.Goals as goal

pub returns-in_default : goal.returns-in_default
returns-in_default c = λ signed p. c.in_default.ensures.none (signed ++ p.behind) [] (p.whole ∙ sym (append-nil (element 48 (signed ++ p.behind))))

pub returns-then-not-is_empty : goal.returns-then-not-is_empty
returns-then-not-is_empty c = λ signed p. something_left _ _ c.is_empty.ensures c.if-not-is_empty.true (same_content _ signed p _ _ c.in-Some.ensures.some).1

pub returns-in_default-take_sequence : goal.returns-in_default-take_sequence
returns-in_default-take_sequence c = λ signed p. c.in_default-take_sequence.ensures.none p.content p.behind ((same_content _ signed p _ _ c.in-Some.ensures.some).0 ∙ ap (λ x. x ++ p.behind) p.part)

pub returns : goal.returns
returns c =
    let within : length c.args.input.now ≤ limit = omega arith in
    let none : c.in-Some.after.now ≡ [] = nothing_left _ _ c.is_empty.ensures c.if-not-is_empty.false in
    signed_stands _ _ _ _ within (rw none at c.in-Some.ensures.some) c.in-Some-take_sequence.ensures.some

pub overflow_sub-result : goal.overflow_sub-result
overflow_sub-result c = inside_whole _ _ _ c.in-Some.ensures.some
