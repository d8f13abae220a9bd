use Rattle.std.proofs.Common.{◌≡◌, ◌<◌, ◌≤◌, true, false, length}
use Rattle.std.specs.List.{list_all}
use Rattle.x509_match.specs.Plain.{plain_behind}
use Rattle.x509_prim.specs.Alphabet.{is_ia5}
use Rattle.x509_match.proofs.plain.next_octet.Given as goal

abbrev pub invariant-loop-rest : goal.invariant-loop-rest
invariant-loop-rest l = record {
  left : list_all is_ia5 l.text ≡ true → (plain_behind l.begun false l.text ≡ plain_behind l.begun l.gap l.rest) × (list_all is_ia5 l.rest ≡ true);
  within : length l.rest ≤ length l.text;
  shorter : l.gap ≡ true → length l.rest < length l.text;
}

abbrev pub decreases-loop-rest : goal.decreases-loop-rest
decreases-loop-rest l = length l.rest
