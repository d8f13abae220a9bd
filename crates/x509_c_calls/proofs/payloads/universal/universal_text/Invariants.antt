use Rattle.std.proofs.Common.{◌≡◌, ◌++◌, length, string_bytes, encode_utf8_all}
use Rattle.x509_c_calls.specs.Universal.{is_universal, universal_chars}
use Rattle.x509_c_calls.proofs.payloads.universal.universal_text.Given as goal

abbrev pub invariant-loop-rest : goal.invariant-loop-rest
invariant-loop-rest l = record {
  text : string_bytes l.text ++ encode_utf8_all (universal_chars l.rest) ≡ encode_utf8_all (universal_chars l.octets);
  same : is_universal l.rest ≡ is_universal l.octets;
}

abbrev pub decreases-loop-rest : goal.decreases-loop-rest
decreases-loop-rest l = length l.rest
