use Rattle.std.proofs.Common.{◌∙◌, ◌++◌, ◌∷◌, ◌+◌, ◌/◌, [], ap, drop, List, ℕ}
use Rattle.std.proofs.lemmas.List.{map-append}
use Rattle.x509_c_calls.proofs.Purposes.{named_by_bit, not_named}
use Rattle.x509_c_calls.proofs.path.settings.purposes_of.Goals as goal
use Rattle.x509_c_calls.proofs.path.settings.purposes_of.Goals.{then-left-eq1+in_ok-push, else-left-eq1}
use Rattle.x509_c_calls.specs.PathValidation.{known_purposes, named_purposes}
use Rattle.x509_policy.specs.Views.{octets_of}

pub loop-purpose-preserved : goal.loop-purpose-preserved
loop-purpose-preserved c =
    let i = c.loop-purpose.purpose-index in
    let left = c.loop-purpose.left in
    let found = octets_of c.loop-purpose.found.items in
    let named : List (List ℕ) = named_purposes (left / 2) (drop (i + 1) known_purposes) in
    elim c.if-left-eq1.branch [
      | then-left-eq1+in_ok-push w ↦
          ap (λ v. octets_of v.items ++ named) w.found-is
          ∙ (ap (λ xs. octets_of xs ++ named) w.in_ok-push.ensures.items
          ∙ (ap (λ xs. xs ++ named) (map-append (λ p. p.now) c.loop-purpose.found.items (w.as_slice.result ∷ []))
          ∙ (ap (λ (p : List ℕ). (found ++ p ∷ []) ++ named) w.as_slice.ensures
          ∙ (named_by_bit known_purposes found left i w.if-left-eq1.true c.loop-purpose-test.true ∙ c.loop-purpose.invariant))))
      | else-left-eq1 w ↦
          ap (λ v. octets_of v.items ++ named) w.found-is
          ∙ (not_named known_purposes found left i w.if-left-eq1.false c.loop-purpose-test.true ∙ c.loop-purpose.invariant)
    ]
