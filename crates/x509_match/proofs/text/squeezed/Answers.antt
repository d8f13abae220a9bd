use Rattle.std.proofs.Common.{refl, ap, ◌∙◌, ◌++◌, encode_utf8_all, string_bytes, sym}
use Rattle.x509_match.specs.Prepared.{squeezed}
use Rattle.x509_match.proofs.Texts.{one_space_more, one_other_more}
use Rattle.x509_match.proofs.text.squeezed.Goals as goal

pub loop-rest-init : goal.loop-rest-init
unfolding squeezed
loop-rest-init c = rw c.new-out.ensures.bytes refl

pub loop-rest-preserved-then-is_space : goal.loop-rest-preserved-then-is_space
loop-rest-preserved-then-is_space c =
    let k = one_space_more c.loop-rest.begun c.loop-rest.gap c.loop-rest.rest.now _ _ c.in-len1-up.len_at_least c.c-item.is (sym c.is_space.ensures ∙ c.if-is_space.true) in
    ap (λ x. string_bytes c.loop-rest.out ++ encode_utf8_all x) (sym k) ∙ c.loop-rest.invariant

pub loop-rest-preserved : goal.loop-rest-preserved
loop-rest-preserved c =
    one_other_more c.loop-rest.begun c.loop-rest.gap _ _ c.loop-rest.rest.now _ _ _ c.in-len1-up.len_at_least c.c-item.is (sym c.is_space.ensures ∙ c.if-is_space.false) c.in_ok-push_spaced.ensures c.loop-rest.invariant
