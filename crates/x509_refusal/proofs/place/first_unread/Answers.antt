use Rattle.std.proofs.Common.{◌≡◌, ◌≤◌, length, Some, None, refl, sym, ◌∙◌, arith}
use Rattle.std.proofs.lemmas.Bool.Decides.{nat_tests}
use Rattle.x509_der.specs.Element.{limit}
use Rattle.x509_refusal.proofs.Wholes.{whole_none, whole_object, whole_place}
use Rattle.x509_refusal.proofs.place.first_unread.Goals as goal

pub returns-in-Some-clause-none : goal.returns-in-Some-clause-none
returns-in-Some-clause-none c =
    let found : whole_place c.args.kind c.args.bytes.now ≡ Some c.in-Some.place = grind (arith, nat_tests) in
    (λ e. absurd cc, λ o. absurd (let k = sym found ∙ whole_object c.args.kind c.args.bytes.now o in cc))

pub returns-in-None-clause-none : goal.returns-in-None-clause-none
returns-in-None-clause-none c =
    let within : length c.args.bytes.now ≤ limit = grind (arith, nat_tests) in
    let none : whole_place c.args.kind c.args.bytes.now ≡ None = grind (arith, nat_tests) in
    (λ e. whole_none c.args.kind c.args.bytes.now within none, λ o. refl)
