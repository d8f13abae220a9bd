use Rattle.std.proofs.Common.{sym, ◌∙◌}
use Rattle.std.proofs.lemmas.List.{append-nil}
use Rattle.x509_c_calls.proofs.Octets.{is_sequence}
use Rattle.x509_c_calls.proofs.payloads.first.name_attribute.Goals as goal
use Rattle.x509_c_calls.specs.FirstAttribute.{FindsAttribute}

pub returns : goal.returns
unfolding FindsAttribute
returns c =
    let name = c.in-Ok.name in
    let spells = c.in-Ok.ensures.found in
    let inside = c.enter.ensures.stands 48 _ _ is_sequence (spells.1 ∙ sym (append-nil _)) in
    let same = c.as_slice.ensures ∙ c.as_ref.ensures in
    let found = (rw same at c.in-Some.ensures.found) (inside.1 ∙ append-nil _) in
    (name, spells, found)
