use Rattle.std.proofs.Common.{[], inl, sym, ◌∙◌}
use Rattle.std.proofs.lemmas.List.{append-nil}
use Rattle.x509_c_calls.proofs.Octets.{is_explicit_0}
use Rattle.x509_c_calls.proofs.request.extensions.request_extensions.Goals as goal
use Rattle.x509_c_calls.specs.AskedExtensions.{LooksUpAsked}
use Rattle.x509_c_calls.specs.RequestView.{behind_part}

pub enter-requires : goal.enter-requires
enter-requires c = (c.view-at.ensures [] (c.in-Ok.ensures.found.1 ∙ sym (append-nil _))).attributes.2

pub returns : goal.returns
unfolding LooksUpAsked
returns c =
    let request = c.in-Ok.request in
    let spells = c.in-Ok.ensures.found in
    let view = c.view-at.ensures [] (spells.1 ∙ sym (append-nil _)) in
    let inside = c.enter.ensures.stands 160 _ (behind_part request []) is_explicit_0 view.attributes.0 in
    let picked = rw c.as_slice.ensures.members at c.pick.ensures in
    inl (request, spells, picked (behind_part request []) inside.1)
