use Rattle.std.proofs.Common.{◌≡◌, ◌<◌, ℕ, arith, length, drop}
use Rattle.std.proofs.lemmas.List.{take_at}
use Rattle.std.proofs.lemmas.List.Elements.{All-from_recursion}
use Rattle.std.proofs.lemmas.Str.{IsUtf8-from_ascii}
use Rattle.std.proofs.lemmas.Str.Ascii.{IsAscii-from_all}
use Rattle.std.specs.Str.{IsAscii}
use Rattle.hex.specs.Hex.{lower_digits}
use Rattle.hex.proofs.HexLemmas.{IsAscii-encode_with}
use Rattle.x509_text.proofs.digits.hex_text.Goals as goal

digits_ascii : IsAscii lower_digits
digits_ascii = IsAscii-from_all lower_digits (All-from_recursion (λ (char : ℕ). char < 128) lower_digits
    (omega arith, (omega arith, (omega arith, (omega arith, (omega arith, (omega arith, (omega arith, (omega arith, (omega arith, (omega arith, (omega arith, (omega arith, (omega arith, (omega arith, (omega arith, (omega arith, tt)))))))))))))))))

pub unwrap-requires : goal.unwrap-requires
unwrap-requires c =
    let ascii = IsAscii-encode_with lower_digits c.args.octets.now digits_ascii in
    let len : length c.fill_hex.new.digits ≡ c.in_ok-digits.digits.len = omega arith in
    let text = IsUtf8-from_ascii _ (rw (← c.fill_hex.ensures) at ascii) in
    c.from_utf8.ensures.succeeds (rw (take_at c.fill_hex.new.digits (drop (length c.fill_hex.new.digits) c.in_ok-digits.digits.items) c.in_ok-digits.digits.len len) text)
