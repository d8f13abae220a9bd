use Rattle.std.proofs.Common.{◌≡◌, ◌++◌, ◌∷◌, [], List, ℕ, ◌∙◌, ap, get_or, map, string_bytes, subst, sym}
use Rattle.std.proofs.lemmas.List.{map_push}
use Rattle.std.specs.Cow.{cow_str_bytes}
use Rattle.x509_object_run.specs.Below.{entry_path}
use Rattle.x509_object_run.proofs.Found.{entries_next, own, own_left, own_put}
use Rattle.x509_object_run.proofs.below.add_entries.Goals as goal
use Rattle.x509_object_run.proofs.below.add_entries.Goals.{then-is_input+in_ok-push, else-is_input}

pub loop-entry-preserved : goal.loop-entry-preserved
loop-entry-preserved g c =
    let directory = c.args.directory.now in
    let middle = map cow_str_bytes c.loop-entry.inputs.items in
    let path : List ℕ = string_bytes c.in_ok-path.path in
    let name : List ℕ = string_bytes (get_or c.args.entries.now c.loop-entry.entry-index c.entry-item.result) in
    let is_path : path ≡ entry_path directory name = c.in_ok-path.ensures ∙ ap (λ name. entry_path directory name) (c.as_str.ensures.value ∙ ap string_bytes c.entry-item.is) in
    let more : map cow_str_bytes c.if-is_input.inputs.items ≡ middle ++ own c.place.result path =
    elim c.if-is_input.branch [
      | then-is_input+in_ok-push w ↦
          own_put middle _ c.place.result path (sym c.is_input.ensures ∙ w.if-is_input.true)
          (ap (λ v. map cow_str_bytes v.items) w.inputs-is ∙ ap (map cow_str_bytes) w.in_ok-push.ensures.items ∙ map_push cow_str_bytes c.loop-entry.inputs.items _)
      | else-is_input w ↦
          own_left middle _ c.place.result path (sym c.is_input.ensures ∙ w.if-is_input.false) (ap (λ v. map cow_str_bytes v.items) w.inputs-is)
    ] in
    let stands = g.O.Opener.stands c.args.opener.now in
    let seen : stands path c.place.result = subst (λ path. stands path c.place.result) c.as_str-in-loop-entry.ensures.value c.place.ensures in
    entries_next string_bytes stands directory c.args.entries.now c.loop-entry.entry-index c.entry-item.result c.place.result _ middle _ c.loop-entry-test.true c.loop-entry.invariant
    (subst (λ path. stands path c.place.result) is_path seen)
    (more ∙ ap (λ path. middle ++ own c.place.result path) is_path)
