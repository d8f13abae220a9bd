use Rattle.std.proofs.Common.{◌≡◌, ◌↔◌, true, false, length}
use Rattle.std.specs.List.{list_all}
use Rattle.x509_match.specs.Plain.{plain_behind}
use Rattle.x509_prim.specs.Alphabet.{is_ia5}
use Rattle.x509_match.proofs.plain.prepared_alike.Given as goal

abbrev pub invariant-loop-x : goal.invariant-loop-x
invariant-loop-x l = list_all is_ia5 l.a ≡ true → list_all is_ia5 l.b ≡ true
    → (list_all is_ia5 l.left ≡ true) × (list_all is_ia5 l.right ≡ true)
    × ((plain_behind l.begun false l.left ≡ plain_behind l.begun false l.right) ↔ (plain_behind false false l.a ≡ plain_behind false false l.b))

abbrev pub decreases-loop-x : goal.decreases-loop-x
decreases-loop-x l = length l.left
