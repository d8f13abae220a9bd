use Rattle.std.proofs.Common.{◌≡◌, ◌==◌, ℕ, List, [], ◌∷◌, Bor, None, Some, Option, map, refl, ap, ◌∙◌, rules}
use Rattle.std.specs.List.{last_or}
use Rattle.std.specs.Option.{option_copied}
use Rattle.std.proofs.lemmas.Iterator.{items_from_drains}
use Rattle.std.proofs.lemmas.Iterator.Splits.{YieldsList-from_slice_split}
use Rattle.x509_host.proofs.labels.last_label.Goals as goal

last_of_lent : (front : Option (Bor (List ℕ))) (parts : List (Bor (List ℕ))) → option_copied (last_or front parts) ≡ last_or (option_copied front) (map (λ part. part.now) parts)
last_of_lent front [] = refl
last_of_lent front (part ∷ parts) = last_of_lent (Some part) parts

pub returns : goal.returns
returns c =
    let parts = c.last.ensures.ran.0 in
    let d = c.last.ensures.ran.1 in
    ap option_copied c.last.ensures.ran.2 ∙ last_of_lent None parts
    ∙ ap (last_or None) (items_from_drains parts (d.1.0, d.1.1, λ _. (d.0, d.1.2))
    (YieldsList-from_slice_split _ (λ octet. octet == 46) c.args.name.now c.split.ensures.rest c.split.ensures.done c.split.ensures.closure (λ x b q k. search rules)))
