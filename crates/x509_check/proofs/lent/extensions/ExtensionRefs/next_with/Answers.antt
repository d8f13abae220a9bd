use Rattle.std.proofs.Common.{◌≡◌, ◌++◌, ◌∷◌, [], false, true, bytes_eq, length, refl, sym, ap, ◌∙◌, arith}
use Rattle.x509_check.proofs.KnownExtensions as known
use Rattle.x509_check.proofs.LentCertificates.{is_read}
use Rattle.x509_ext.specs.LookUp.{with_oid}
use Rattle.x509_check.proofs.lent.extensions.ExtensionRefs.next_with.Goals as goal

pub loop-octets-init : goal.loop-octets-init
loop-octets-init c = (refl, ([], refl))

pub known_extension-requires : goal.known_extension-requires
known_extension-requires c = is_read _ c.in-Some.ensures.0 c.in-Some.ensures.1

pub returns-then-has_oid-clause-found : goal.returns-then-has_oid-clause-found
returns-then-has_oid-clause-found c =
    let e = c.in-Some.ensures in
    let has : bytes_eq e.0.extn_id c.args.oid.now ≡ true = sym (c.has_oid.ensures e.0 e.1) ∙ c.if-has_oid.true in
    known.is_found c.args.oid.now _ c.loop-octets.invariant.1.0 _ _ e.0 e.2 _ (c.known_extension.ensures e.0 e.1) has c.loop-octets.invariant.0

pub returns-then-has_oid-clause-behind : goal.returns-then-has_oid-clause-behind
returns-then-has_oid-clause-behind c =
    let e = c.in-Some.ensures in
    let before = c.loop-octets.invariant.1 in
    (before.0, known.stands_behind c.args.oid.now _ before.0 _ _ e.0 e.2 _ (c.known_extension.ensures e.0 e.1) before.1)

pub loop-octets-smaller : goal.loop-octets-smaller
loop-octets-smaller c = omega (arith, ap length c.in-Some.ensures.2)

pub loop-octets-preserved : goal.loop-octets-preserved
loop-octets-preserved c =
    let e = c.in-Some.ensures in
    let other : bytes_eq e.0.extn_id c.args.oid.now ≡ false = sym (c.has_oid.ensures e.0 e.1) ∙ c.if-has_oid.false in
    let before = c.loop-octets.invariant.1 in (
      known.goes_past c.args.oid.now _ before.0 _ _ e.0 e.2 other c.loop-octets.invariant.0,
      (before.0 ++ e.0 ∷ [], known.one_further c.args.oid.now _ before.0 _ _ e.0 e.2 before.1),
    )

pub returns-clause-found : goal.returns-clause-found
returns-clause-found c = (sym c.loop-octets.invariant.0 ∙ ap (with_oid c.args.oid.now) c.in_default.ensures.0, c.in_default.ensures.1)
