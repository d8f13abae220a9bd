use Rattle.std.proofs.Common.{inr}
use Rattle.std.proofs.lemmas.List.Elements.{Contains-get_or}
use Rattle.x509_c_calls.proofs.FoundPlaces.{pairs_more}
use Rattle.x509_c_calls.proofs.path.links.open_links.Goals as goal
use Rattle.x509_c_calls.specs.PathFinding.{IsOpenedLink}
use Rattle.x509_c_calls.specs.declared.path.search.BadLink.{BadLink}

-- what a read of a list of links answers behind its end
abbrev nothing : BadLink
nothing = record { certificate = record { place = 0; len = 0 }; key = record { place = 0; len = 0 } }

pub returns-in-Err : goal.returns-in-Err
returns-in-Err c = inr (_, Contains-get_or c.args.links.now c.loop-link.link-index nothing c.loop-link-test.true, c.in-Err.ensures)

pub loop-link-preserved : goal.loop-link-preserved
loop-link-preserved c =
    pairs_more (IsOpenedLink c.args.bytes.now) c.args.links.now c.loop-link.link-index nothing c.loop-link.found.items c.push.new.self.items c.in-Ok.one c.loop-link-test.true c.loop-link.invariant
    c.in-Ok.ensures c.in-Ok-push.ensures.items
