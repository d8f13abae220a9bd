use Rattle.std.proofs.Common.{◌≡◌, ◌+◌, ◌*◌, ◌≤◌, ◌<◌, ◌++◌, length, get_or, take, drop, length-take, ap, ◌∙◌, arith, Some, List, ℕ}
use Rattle.std.specs.List.{flat_map}
use Rattle.std.proofs.lemmas.Bool.Decides.{nat_tests}
use Rattle.std.proofs.lemmas.List.{take_rest}
use Rattle.x509_der.specs.Arcs.{AreArcs, content_of, subidentifier}
use Rattle.x509_der.specs.ArcLaws.{tested_arcs}
use Rattle.x509_der.proofs.oid.content.ContentOctets.of_arcs.Goals as goal
use Rattle.x509_der.proofs.oid.content.ContentOctets.of_arcs.Goals.{then-first-lt2, else-first-lt2}

tested : (c : goal.Else-prove) → AreArcs c.args.arcs.now × (c.push_all.new.self ≡ content_of c.args.arcs.now)
tested c =
    let arcs : List ℕ = c.args.arcs.now in
    let second : get_or arcs 0 0 < 2 → get_or arcs 1 0 ≤ 39 = λ low. elim c.if-first-lt2.branch [
      | then-first-lt2 w ↦ grind (arith, nat_tests)
      | else-first-lt2 w ↦ absurd (omega arith)
    ] in
    let sum : c.in_ok-checked_add.field-0 ≡ 40 * get_or arcs 0 0 + get_or arcs 1 0 = omega arith in
    let made : c.push_all.new.self ≡ subidentifier (40 * get_or arcs 0 0 + get_or arcs 1 0) ++ flat_map subidentifier (drop 2 arcs) =
    c.in_ok-push_all.ensures.some
    ∙ (λ i. (c.in_ok-push.ensures.some ∙ ap (λ xs. xs ++ subidentifier c.in_ok-checked_add.field-0) c.new-content.ensures ∙ ap subidentifier sum) i ++ flat_map subidentifier (take_rest arcs 2 i)) in
    let stored : length (take c.content.inside.len c.content.inside.octets) ≡ length c.push_all.new.self = ap length c.content.view_is in
    let short : length c.push_all.new.self ≤ 39 = omega (arith, length-take c.content.inside.len c.content.inside.octets) in
    tested_arcs arcs c.push_all.new.self (omega arith) (λ k below. omega (arith, c.type_inv.arcs k)) (omega arith) second (omega arith) made short

pub returns-clause-found : goal.returns-clause-found
returns-clause-found c = tested c

pub returns-clause-only : goal.returns-clause-only
returns-clause-only c = λ arcs. ap (λ (xs : List ℕ). Some xs) (tested c).1
