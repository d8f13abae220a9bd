use Rattle.std.proofs.Common.{◌∙◌, ◌++◌, ◌∷◌, [], ap, map, subst, sym, List, ℕ}
use Rattle.std.proofs.lemmas.List.{map-append}
use Rattle.x509_der.specs.Element.{element}
use Rattle.x509_path_steps.proofs.Sequences.{Left, begins, done, one_more, shorter}
use Rattle.x509_path_steps.proofs.oids.oid_pairs.Goals as goal
use Rattle.x509_path_steps.proofs.oids.oid_pairs.Invariants.{of_pair}
use Rattle.x509_policy.specs.Views.{mapping_of}

abbrev content : List ℕ × List ℕ → List ℕ
content p = element 6 p.0 ++ element 6 p.1

pub loop-piece-init : goal.loop-piece-init
loop-piece-init c = λ pairs is. subst (λ f. Left content of_pair (map mapping_of f) c.args.bytes.now pairs) (sym c.new-found.ensures.items) (begins content of_pair c.args.bytes.now pairs is)

pub loop-piece-smaller : goal.loop-piece-smaller
loop-piece-smaller c = shorter c.loop-piece.rest.now _ c.in-Ok.ensures.exact

pub loop-piece-preserved : goal.loop-piece-preserved
loop-piece-preserved c = λ pairs is.
    let more = one_more content of_pair (map mapping_of c.loop-piece.found.items) c.loop-piece.rest.now pairs (c.loop-piece.invariant pairs is) _ c.in-Ok.ensures.exact (mapping_of c.pair_of.result)
    (λ p same. c.pair_of.ensures p.0 p.1 same) in
    subst (λ f. Left content of_pair f c.in-Ok.piece.rest.now pairs) (sym (ap (map mapping_of) c.in_ok-push.ensures.items ∙ map-append mapping_of c.loop-piece.found.items (c.pair_of.result ∷ []))) more

pub returns : goal.returns
returns c = λ pairs is. done content of_pair (map mapping_of c.loop-piece.found.items) c.loop-piece.rest.now pairs (c.loop-piece.invariant pairs is) _ c.in_default.ensures.err c.in_default.ensures.exact
