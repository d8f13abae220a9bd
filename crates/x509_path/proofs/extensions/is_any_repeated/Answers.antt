use Rattle.std.proofs.Common.{refl, subst, length, ◌≡◌, ◌≤◌, []}
use Rattle.x509_ext.specs.LookUp.{with_oid}
use Rattle.x509_path.specs.Lent.{lent_extensions}
use Rattle.x509_path.proofs.Looks.{again, apart}
use Rattle.x509_path.proofs.extensions.is_any_repeated.Goals as goal

pub returns-then-has_any : goal.returns-then-has_any
returns-then-has_any c =
    let oid = c.index-extensions-index.result.extn_id in
    let some = subst (λ es. 1 ≤ length (with_oid oid (lent_extensions es))) c.behind-others.ensures (c.if-has_any.ensures.some refl) in (
      (λ is. c.loop-index.invariant.1 (again c.args.extensions.now c.loop-index.index c.index-extensions-index.result c.loop-index-test.true c.index-extensions-index.is some)),
      (λ two. refl),
    )

pub loop-index-preserved : goal.loop-index-preserved
loop-index-preserved c =
    let oid = c.index-extensions-index.result.extn_id in
    let none = subst (λ es. with_oid oid (lent_extensions es) ≡ []) c.behind-others.ensures (c.if-has_any.ensures.none refl) in
    let same = apart c.args.extensions.now c.loop-index.index c.index-extensions-index.result c.loop-index-test.true c.index-extensions-index.is none in
    ((λ two. same.0 (c.loop-index.invariant.0 two)), (λ two. c.loop-index.invariant.1 (same.1 two)))
