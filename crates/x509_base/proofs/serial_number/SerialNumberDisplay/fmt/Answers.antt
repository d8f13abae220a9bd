use Rattle.std.proofs.Common.{◌≡◌, ◌+◌, ◌-◌, ◌^◌, true, false, ℕ, List, [], ◌∷◌, ◌++◌, length, take, get_or, sym, ap, ◌∙◌, arith, rules, take_all}
use Rattle.std.proofs.Output.{has_written_append, has_written_of_eq}
use Rattle.std.specs.Fmt.{digits, padded_integral, format_spec}
use Rattle.std.proofs.lemmas.List.{length-take, take_more}
use Rattle.x509_base.specs.Serial.{colon_hex}
use Rattle.x509_base.proofs.Texts.{take_one, colon_hex_one, colon_hex_more, some_octet}
use Rattle.x509_base.proofs.serial_number.SerialNumberDisplay.fmt.Goals as goal

pub returns-in_default-clause-writes : goal.returns-in_default-clause-writes
returns-in_default-clause-writes g c = λ plain ok.
    let some = some_octet c.args.self.now c.as_bytes-octets.ensures.integer in
    absurd (omega (arith, ap length c.as_bytes-octets.ensures.content))

pub loop-i-init : goal.loop-i-init
loop-i-init g c = λ plain.
    let octets : List ℕ = c.as_bytes-octets.result.now in
    let one : take 1 octets ≡ get_or octets 0 0 ∷ [] = take_one octets c.in-len1-up.len_at_least in
    has_written_of_eq _ _ _ _ _ (sym (colon_hex_one (get_or octets 0 0) (omega (arith, c.type_inv.octets 0))) ∙ ap colon_hex (sym one)) (search rules)

pub loop-i-preserved : goal.loop-i-preserved
loop-i-preserved g c = λ plain.
    let octets : List ℕ = c.as_bytes-octets.result.now in
    let i : ℕ = c.loop-i.i in
    let text : colon_hex (take i octets) ++ (58 ∷ padded_integral (format_spec 32 0 4 2 (2 ^ 64 - 1)) false [] (digits 16 true (get_or octets i 0))) ≡ colon_hex (take (i + 1) octets) =
    sym (colon_hex_more (take i octets) (get_or octets i 0) (omega (arith, length-take i octets)) (omega (arith, c.type_inv.octets i))) ∙ ap colon_hex (sym (take_more octets i 0 c.loop-i-test.true)) in
    has_written_of_eq _ _ _ _ _ text (has_written_append _ _ _ _ _ _ (c.loop-i.invariant plain) (search rules))

pub returns-clause-writes : goal.returns-clause-writes
returns-clause-writes g c = λ plain ok.
    let octets : List ℕ = c.as_bytes-octets.result.now in
    has_written_of_eq _ _ _ _ _ (ap colon_hex (take_all c.loop-i.i octets c.loop-i-test.false ∙ c.as_bytes-octets.ensures.content)) (c.loop-i.invariant plain)
