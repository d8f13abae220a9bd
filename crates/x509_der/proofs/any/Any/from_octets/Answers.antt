use Rattle.std.proofs.Common.{◌≡◌, ◌∙◌, ◌-◌, ℕ, List, length, drop, ap, sym, eq-eqb, arith}
use Rattle.std.proofs.lemmas.Result.{err_from_is_err_and}
use Rattle.std.proofs.lemmas.Bool.{eqb-true}
use Rattle.x509_der.specs.Element.{element}
use Rattle.x509_der.specs.Tag.{octet_of}
use Rattle.x509_der.proofs.Fronts.{content_within, nothing_behind, without_header, something_behind, no_front}
use Rattle.x509_der.proofs.any.Any.from_octets.Goals as goal

pub returns-in_err-element-clause-malformed : goal.returns-in_err-element-clause-malformed
returns-in_err-element-clause-malformed c = λ within.
    let exit = err_from_is_err_and c.from_residual.result c.from_residual.ensures.1 in
    let refused = rw c.as_slice.ensures.value at c.in_err-element.ensures.err in
    rw (exit.1, exit.2) (refused.0, no_front c.args.octets.items refused.1 within)

pub returns-then-not-is_empty-clause-malformed : goal.returns-then-not-is_empty-clause-malformed
returns-then-not-is_empty-clause-malformed c = λ within.
    let cut = rw c.as_slice.ensures.value at c.in_ok-element.ensures.ok in
    (ap (λ e. e.kind) c.into-then-not-is_empty.ensures, something_behind c.args.octets.items (octet_of c.in_ok-element.element.tag) c.in_ok-element.element.value.now c.in_ok-element.rest.now cut (λ none. absurd (let equal = eq-eqb (length c.in_ok-element.rest.now) 0 none in let test = c.if-not-is_empty.ensures in cc)))

pub overflow_sub-header_len : goal.overflow_sub-header_len
overflow_sub-header_len c =
    let cut = rw c.as_slice.ensures.value at c.in_ok-element.ensures.ok in
    let within = content_within c.args.octets.items (octet_of c.in_ok-element.element.tag) c.in_ok-element.element.value.now c.in_ok-element.rest.now cut in
    omega (arith, c.len-2.ensures, ap (length {A = ℕ}) c.value.ensures)

pub returns-clause-ok : goal.returns-clause-ok
returns-clause-ok c =
    let octets : List ℕ = c.args.octets.items in
    let content : List ℕ = c.in_ok-element.element.value.now in
    let cut = rw c.as_slice.ensures.value at c.in_ok-element.ensures.ok in
    let whole = nothing_behind octets (octet_of c.in_ok-element.element.tag) content c.in_ok-element.rest.now cut (eqb-true (length c.in_ok-element.rest.now) 0 (sym c.if-not-is_empty.ensures)) in
    let tail = without_header octets (octet_of c.in_ok-element.element.tag) content whole in
    let count : c.len-2.result - length c.value.result.now ≡ length octets - length content = omega (arith, c.len-2.ensures, ap (length {A = ℕ}) c.value.ensures) in
    let value : c.from.result ≡ content = c.from.ensures ∙ c.drop_front.ensures ∙ ap (λ (n : ℕ). drop n octets) count ∙ tail in
    (whole ∙ sym (λ i. element (octet_of (c.tag-tag.ensures i)) (value i)), omega (arith, c.len.ensures, c.as_u32.ensures.within, c.if-len-as_u32.false))
