use Rattle.std.proofs.Common.{rules}
use Rattle.std.proofs.lemmas.Str.{chars_from_encodes}
use Rattle.x509_c_calls.proofs.payloads.described_policy.count_chars.Goals as goal

pub returns : goal.returns
returns c = search (rules, chars_from_encodes)
