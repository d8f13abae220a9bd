use Rattle.std.proofs.Common.{◌≡◌, ◌<◌, ◌⊎◌, ◌++◌, length, string_bytes}
use Rattle.std.specs.Prelude.{IsOk}
use Rattle.x509_text.specs.Pieces.{elements_lines}
use Rattle.x509_crl_index.specs.Split.{read_entries}
use Rattle.x509_text.proofs.piece.entries_piece.Given as goal

-- the lines of the entries that were passed, the first once there is a text
abbrev pub invariant-loop-text : goal.invariant-loop-text
invariant-loop-text l = record {
  lines : elements_lines l.at l.octets ≡ string_bytes l.text ++ elements_lines l.at l.rest;
  are_entries : IsOk (read_entries l.rest);
  passed : (length l.rest < length l.octets) ⊎ ((length (string_bytes l.text) ≡ 0) × (l.rest ≡ l.octets));
}

abbrev pub decreases-loop-text : goal.decreases-loop-text
decreases-loop-text l = length l.rest
