use Rattle.std.proofs.Common.{◌∙◌, ◌++◌, ◌∷◌, [], Bor, List, ℕ, map, take, ap, sym}
use Rattle.x509_c_calls.proofs.FoundPlaces.{mapped_more}
use Rattle.x509_c_calls.proofs.path.places.places_of.Goals as goal
use Rattle.x509_c_calls.specs.PathFinding.{first_place}
use Rattle.x509_verify.specs.Found.{octets}

-- what a read of a list of slices answers behind its end
abbrev nothing : Bor (List ℕ)
nothing = record { ref_ptr = (0, 0); now = [] }

pub loop-bytes-preserved : goal.loop-bytes-preserved
loop-bytes-preserved c =
    let place = first_place (octets c.args.all.now) in
    let front = map place (octets (take c.loop-bytes.bytes-index c.args.some.now)) in
    c.in_ok-push.ensures.items ∙ ap (λ xs. xs ++ c.place_of.result ∷ []) c.loop-bytes.invariant ∙ ap (λ p. front ++ p ∷ []) c.place_of.ensures
    ∙ sym (mapped_more (λ (one : Bor (List ℕ)). one.now) place c.args.some.now c.loop-bytes.bytes-index nothing c.loop-bytes-test.true)
