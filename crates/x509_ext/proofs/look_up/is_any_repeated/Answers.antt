use Rattle.std.proofs.Common.{sym, ◌∙◌, refl, subst}
use Rattle.x509_ext.specs.LookUp.{IsRepeated, with_oid}
use Rattle.x509_ext.proofs.Repeats.{met_again}
use Rattle.x509_ext.proofs.look_up.is_any_repeated.Goals as goal

pub returns-then-is_some : goal.returns-then-is_some
returns-then-is_some c =
    let again = met_again c.in-Some.first.now c.in-Some.others.now c.split_first_with.result (λ f. f.0.now) (λ f. with_oid c.in-Some.first.now.extn_id f.1.now) c.split_first_with.ensures (sym c.is_some.ensures ∙ c.if-is_some.true) in
    ((λ is. c.loop-first.invariant.1 (subst IsRepeated (sym c.in-Some.ensures.cases.0) again)), (λ two. refl))
