use Rattle.std.proofs.Common.{◌∙◌, ◌++◌, ◌∷◌, [], ap, subst, sym, List, Bor, ℕ}
use Rattle.std.proofs.lemmas.List.{map-append}
use Rattle.x509_der.specs.Element.{element}
use Rattle.x509_path_steps.proofs.Sequences.{Left, begins, done, oid_identifier, one_more, shorter}
use Rattle.x509_path_steps.proofs.oids.first_oids.Goals as goal
use Rattle.x509_policy.specs.Views.{octets_of}

abbrev content : List ℕ × List ℕ → List ℕ
content i = element 6 i.0 ++ i.1

abbrev answer : List ℕ × List ℕ → List ℕ
answer i = i.0

pub loop-piece-init : goal.loop-piece-init
loop-piece-init c = λ items is. subst (λ f. Left content answer (octets_of f) c.args.bytes.now items) (sym c.new-found.ensures.items) (begins content answer c.args.bytes.now items is)

pub loop-piece-smaller : goal.loop-piece-smaller
loop-piece-smaller c = shorter c.loop-piece.rest.now _ c.in-Ok.ensures.exact

pub loop-piece-preserved : goal.loop-piece-preserved
loop-piece-preserved c = λ items is.
    let more = one_more content answer (octets_of c.loop-piece.found.items) c.loop-piece.rest.now items (c.loop-piece.invariant items is) _ c.in-Ok.ensures.exact c.content_of.result.now
    (λ i same. c.content_of.ensures 6 i.0 i.1 oid_identifier same) in
    subst (λ f. Left content answer f c.in-Ok.piece.rest.now items) (sym (ap octets_of c.in_ok-push.ensures.items ∙ map-append (λ (p : Bor (List ℕ)). p.now) c.loop-piece.found.items (c.content_of.result ∷ []))) more

pub returns : goal.returns
returns c = λ items is. done content answer (octets_of c.loop-piece.found.items) c.loop-piece.rest.now items (c.loop-piece.invariant items is) _ c.in_default.ensures.err c.in_default.ensures.exact
