use Rattle.std.proofs.Common.{◌≡◌, ◌++◌, ◌∷◌, [], ◌∙◌, ap, map, string_bytes, if◌then◌else◌}
use Rattle.std.proofs.lemmas.List.{map_push}
use Rattle.std.proofs.lemmas.List.Sorted.{IsPermutation-map}
use Rattle.std.specs.Cmp.Lexicographic.{slice_cmp}
use Rattle.std.specs.Cow.{cow_str_bytes}
use Rattle.std.specs.Ordering.{nat_cmp}
use Rattle.x509_object_run.proofs.Found.{itself_left, itself_put, listed_so, sorted-map}
use Rattle.x509_object_run.proofs.below.add_directory.Goals as goal
use Rattle.x509_object_run.proofs.below.add_directory.Goals.{then-not-listed+in_ok-push, else-not-listed}

pub returns : goal.returns
returns g c =
    let directory = c.args.directory.now in
    let middle = map cow_str_bytes c.add_entries.new.inputs.items in
    let more : map cow_str_bytes c.if-not-listed.inputs.items ≡ middle ++ (if c.in_ok-listed.listed.is_whole then [] else directory ∷ []) =
    elim c.if-not-listed.branch [
      | then-not-listed+in_ok-push w ↦
          itself_put middle _ c.in_ok-listed.listed.is_whole directory w.if-not-listed.true
          (ap (λ v. map cow_str_bytes v.items) w.inputs-is ∙ ap (map cow_str_bytes) w.in_ok-push.ensures.items ∙ map_push cow_str_bytes c.add_entries.new.inputs.items _)
      | else-not-listed w ↦
          itself_left middle _ c.in_ok-listed.listed.is_whole directory w.if-not-listed.false (ap (λ v. map cow_str_bytes v.items) w.inputs-is)
    ] in
    listed_so (g.O.Opener.lists c.args.opener.now) (g.O.Opener.stands c.args.opener.now) directory _ _ c.in_ok-listed.listed.is_whole _ middle _
    c.in_ok-listed.ensures
    (IsPermutation-map string_bytes _ _ c.in_ok-sort.ensures.permutation)
    (sorted-map string_bytes (slice_cmp nat_cmp) _ c.in_ok-sort.ensures.sorted)
    (rw c.as_slice.ensures.value at c.in_ok-add_entries.ensures)
    more
