use Rattle.std.proofs.Common.{◌≡◌, ◌∙◌, ap, arith, get_or, Some}
use Rattle.std.proofs.lemmas.List.{take_rest}
use Rattle.x509_path_steps.proofs.CommonNames.{key_is_long, no_text_in_key, text_in_key}
use Rattle.x509_path_steps.proofs.common_names.text_in.Goals as goal

pub returns-in_default : goal.returns-in_default
returns-in_default c a own is = absurd (key_is_long c.args.key.now a own is c.in_default.len_below)

pub returns-then-kind-eq0 : goal.returns-then-kind-eq0
returns-then-kind-eq0 c a own is =
    let zero : get_or c.args.key.now 4 0 ≡ 0 = omega (arith, c.if-kind-eq0.true) in
    ap Some (take_rest c.args.key.now 5) ∙ text_in_key c.args.key.now a own is zero

pub returns-else-kind-eq0 : goal.returns-else-kind-eq0
returns-else-kind-eq0 c a own is = no_text_in_key c.args.key.now a own is (λ zero. omega (arith, zero, c.if-kind-eq0.false))
