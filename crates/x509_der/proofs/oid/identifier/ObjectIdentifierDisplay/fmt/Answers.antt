use Rattle.std.proofs.Common.{◌≡◌, ◌*◌, ◌-◌, ◌+◌, ◌<◌, ℕ, List, ◌∷◌, ◌++◌, length, take, drop, get_or, sym, ap, ◌∙◌, arith, rules, take_all}
use Rattle.std.proofs.Output.{has_written_append, has_written_of_eq}
use Rattle.std.specs.Fmt.{decimal}
use Rattle.std.proofs.lemmas.List.{take_more, take_rest}
use Rattle.x509_der.specs.Arcs.{dotted}
use Rattle.x509_der.specs.ObjectIdentifier.{arcs_of, subidentifiers_in}
use Rattle.x509_der.specs.ArcLaws.{arcs_of_first}
use Rattle.x509_der.proofs.TextLaws.{dotted_two, dotted_push}
use Rattle.x509_der.proofs.oid.identifier.ObjectIdentifierDisplay.fmt.Goals as goal

pub loop-arc-init : goal.loop-arc-init
loop-arc-init g c = λ plain. has_written_of_eq _ _ _ _ _ (sym (dotted_two _ _)) (search rules)

pub loop-arc-preserved : goal.loop-arc-preserved
loop-arc-preserved g c = λ plain.
    let others : List ℕ = take (length c.as_slice-numbers.result.now - 1) (drop 1 c.as_slice-numbers.result.now) in
    let i : ℕ = c.loop-arc.arc-index in
    let second : ℕ = get_or c.as_slice-numbers.result.now 0 0 - 40 * c.first_arc-root.result in
    let root : ℕ = c.first_arc-root.result in
    let text : dotted (root ∷ (second ∷ take i others)) ++ (46 ∷ decimal (get_or others i 0)) ≡ dotted (root ∷ (second ∷ take (i + 1) others)) =
    sym (dotted_push root (second ∷ take i others) (get_or others i 0)) ∙ ap (λ (xs : List ℕ). dotted (root ∷ second ∷ xs)) (sym (take_more others i 0 (omega arith))) in
    has_written_of_eq _ _ _ _ _ text (has_written_append _ _ _ _ _ _ (c.loop-arc.invariant plain) (search rules))

pub returns-clause-writes : goal.returns-clause-writes
returns-clause-writes g c = λ plain ok.
    let numbers : List ℕ = c.as_slice-numbers.result.now in
    let content : List ℕ = c.args.self.now in
    let read : numbers ≡ subidentifiers_in 0 content = c.as_slice-numbers.ensures ∙ c.subidentifiers_in-subidentifiers.ensures.numbers ∙ ap (subidentifiers_in 0) c.as_bytes.ensures.octets in
    let some : 0 < length numbers = omega (arith, c.subidentifiers_in-subidentifiers.ensures.some, ap length c.as_slice-numbers.ensures) in
    let all : take c.loop-arc.arc-index (take (length numbers - 1) (drop 1 numbers)) ≡ drop 1 numbers =
    take_all c.loop-arc.arc-index (take (length numbers - 1) (drop 1 numbers)) c.loop-arc-test.false ∙ take_rest numbers 1 in
    let root = c.first_arc-root.ensures.value in
    let text : dotted (c.first_arc-root.result ∷ (get_or numbers 0 0 - 40 * c.first_arc-root.result) ∷ take c.loop-arc.arc-index (take (length numbers - 1) (drop 1 numbers))) ≡ dotted (arcs_of content) =
    (λ i. dotted (root i ∷ (get_or numbers 0 0 - 40 * root i) ∷ all i)) ∙ ap dotted (sym (arcs_of_first content numbers read some)) in
    has_written_of_eq _ _ _ _ _ text (c.loop-arc.invariant plain)
