use Rattle.std.proofs.Common.{◌≡◌, ◌-◌, ◌*◌, ◌∙◌, ℕ, List, length, take, drop, sym, ap, arith}
use Rattle.std.proofs.lemmas.Bool.{eqb-true, eqb-false}
use Rattle.std.proofs.lemmas.List.{take_at}
use Rattle.x509_base.specs.Serial.{colon_hex}
use Rattle.x509_text.proofs.ColonHex.{none_in_hex, text_in_hex, text_utf8}
use Rattle.x509_text.proofs.digits.colon_text.Goals as goal

pub returns-then-is_empty : goal.returns-then-is_empty
returns-then-is_empty c = c.new.ensures.bytes ∙ none_in_hex c.args.octets.now (omega (arith, eqb-true _ 0 (sym c.if-is_empty.ensures)))

pub unwrap-requires : goal.unwrap-requires
unwrap-requires c =
    let digits : List ℕ = c.fill_colon_hex.new.digits in
    let size : c.in-Some.len ≡ 3 * length c.args.octets.now = omega arith in
    let len : length digits ≡ c.in_ok-digits.digits.len = omega arith in
    let cut : c.truncate.new.self.items ≡ take (c.in-Some.len - 1) digits = rw (take_at digits (drop (length digits) c.in_ok-digits.digits.items) c.in_ok-digits.digits.len len) at c.truncate.ensures.items in
    c.from_utf8.ensures.succeeds (text_utf8 c.args.octets.now digits _ c.in-Some.len size c.fill_colon_hex.ensures cut c.type_inv.octets)

pub returns : goal.returns
returns c =
    let digits : List ℕ = c.fill_colon_hex.new.digits in
    let size : c.in-Some.len ≡ 3 * length c.args.octets.now = omega arith in
    let len : length digits ≡ c.in_ok-digits.digits.len = omega arith in
    let cut : c.truncate.new.self.items ≡ take (c.in-Some.len - 1) digits = rw (take_at digits (drop (length digits) c.in_ok-digits.digits.items) c.in_ok-digits.digits.len len) at c.truncate.ensures.items in
    let text : c.truncate.new.self.items ≡ colon_hex c.args.octets.now = text_in_hex c.args.octets.now digits _ c.in-Some.len size c.fill_colon_hex.ensures cut (omega (arith, eqb-false (length c.args.octets.now) 0 (sym c.if-is_empty.ensures))) in
    let same = rw c.unwrap.ensures at c.from_utf8.ensures.ok in
    ap (λ v. v.items) same ∙ text
