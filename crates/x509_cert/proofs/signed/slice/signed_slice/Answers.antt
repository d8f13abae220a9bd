use Rattle.std.proofs.Common.{◌≡◌, ◌-◌, [], length, take}
use Rattle.x509_cert.specs.Signed.{IsSignedPart}
use Rattle.x509_cert.specs.SignedLaws.{one_part}
use Rattle.x509_cert.proofs.SignedParts.{nothing_left, something_left, none_outside, none_inside, same_content, front_of, signed_part, stands_behind_a_header}
use Rattle.x509_cert.proofs.signed.slice.signed_slice.Goals as goal

pub returns-in_default-clause-none : goal.returns-in_default-clause-none
returns-in_default-clause-none c = λ signed part. none_outside _ signed part c.in_default.ensures.none

pub returns-then-not-is_empty-clause-none : goal.returns-then-not-is_empty-clause-none
returns-then-not-is_empty-clause-none c = λ signed part.
    let none : c.in-Some.after.now ≡ [] = (same_content _ signed part _ _ c.in-Some.ensures.some.0).1 in
    something_left _ _ c.is_empty.ensures c.if-not-is_empty.true none

pub returns-in_default-take_sequence-clause-none :
    goal.returns-in_default-take_sequence-clause-none
returns-in_default-take_sequence-clause-none c = λ signed part. none_inside _ signed part _ _ c.in-Some.ensures.some.0 c.in_default-take_sequence.ensures.none

-- what is found is the signed part
found : (c : goal.In-Some-take_sequence) → IsSignedPart c.args.bytes.now (take (length c.in-Some.content.now - length c.in-Some-take_sequence.behind.now) c.in-Some.content.now)
found c =
    let none : c.in-Some.after.now ≡ [] = nothing_left _ _ c.is_empty.ensures c.if-not-is_empty.false in
    let front = front_of _ _ _ c.in-Some-take_sequence.ensures.some.0 in
    signed_part _ _ _ _ _ _ c.in-Some.ensures.some.0 c.in-Some.ensures.some.1 none c.in-Some-take_sequence.ensures.some.0 front

pub returns-clause-one : goal.returns-clause-one
returns-clause-one c = λ signed part. one_part _ _ signed (found c) part

pub returns-clause-place : goal.returns-clause-place
returns-clause-place c = stands_behind_a_header _ _ (found c)
