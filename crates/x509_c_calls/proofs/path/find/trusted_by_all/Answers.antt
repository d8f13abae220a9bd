use Rattle.std.proofs.Common.{Bor, List, ℕ, [], inr}
use Rattle.std.proofs.lemmas.List.Elements.{Contains-get_or}
use Rattle.x509_c_calls.proofs.FoundPlaces.{zip_more}
use Rattle.x509_c_calls.proofs.path.find.trusted_by_all.Goals as goal
use Rattle.x509_c_calls.specs.PathFinding.{GivesTrusted}
use Rattle.x509_verify.proofs.Keys.{to_map}

-- what a read of a list of slices answers behind its end
abbrev nothing : Bor (List ℕ)
nothing = record { ref_ptr = (0, 0); now = [] }

pub returns-in-Err : goal.returns-in-Err
returns-in-Err c =
    inr (_, to_map (λ (one : Bor (List ℕ)). one.now) c.args.anchors.now _ (Contains-get_or c.args.anchors.now c.loop-bytes.bytes-index nothing c.loop-bytes-test.true), c.in-Err.ensures)

pub loop-bytes-preserved : goal.loop-bytes-preserved
loop-bytes-preserved c =
    zip_more (λ (one : Bor (List ℕ)). one.now) GivesTrusted c.args.anchors.now c.loop-bytes.bytes-index nothing c.loop-bytes.trusted.items c.push.new.self.items c.in-Ok.one c.loop-bytes-test.true
    c.loop-bytes.invariant c.in-Ok.ensures c.in-Ok-push.ensures.items
