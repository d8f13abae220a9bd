use Rattle.std.proofs.Common.{◌≡◌, [], ◌∷◌, ◌++◌, true, false, bytes_eq, refl, sym, ap, ◌∙◌, length}
use Rattle.x509_check.proofs.KnownExtensions.{one_further}
use Rattle.x509_check.specs.ExtensionRefs.{extensions_left, lent_extension}
use Rattle.x509_log.proofs.Places.{is_within, none_further, none_yet, place_is, prefix_is}
use Rattle.x509_log.proofs.around.split_around.Goals as goal

pub loop-extension-init : goal.loop-extension-init
loop-extension-init c = ([], refl, refl, none_yet)

pub slice_bounds-result-end : goal.slice_bounds-result-end
slice_bounds-result-end c =
    let inv = c.loop-extension.invariant in
    inv.3 ∙ ap length (sym (prefix_is c.as_bytes-all.result.now _ (extensions_left c.args.list) inv.0 (extensions_left c.loop-extension.rest) c.as_bytes-all.ensures refl inv.1 c.loop-extension.place inv.3))

pub returns-then-has_oid : goal.returns-then-has_oid
returns-then-has_oid c =
    let inv = c.loop-extension.invariant in
    let e = lent_extension c.in-Some.extension in
    let has : bytes_eq e.extn_id c.args.oid.now ≡ true = sym c.has_oid.ensures ∙ c.if-has_oid.true in
    record {
      before = inv.0;
      found = e;
      split = inv.1 ∙ ap (λ l. inv.0 ++ l) c.in-Some.ensures.steps;
      first = inv.2;
      has = has;
      critical = refl;
      value = refl;
      before_is = prefix_is c.as_bytes-all.result.now _ (extensions_left c.args.list) inv.0 (extensions_left c.loop-extension.rest) c.as_bytes-all.ensures refl inv.1 c.loop-extension.place inv.3;
    }

pub overflow_sub-place : goal.overflow_sub-place
overflow_sub-place c =
    let inv = c.loop-extension.invariant in
    let e = lent_extension c.in-Some.extension in
    is_within c.as_bytes-all.result.now c.as_bytes.result.now (extensions_left c.args.list) (inv.0 ++ e ∷ []) (extensions_left c.next.new.self) c.as_bytes-all.ensures c.as_bytes.ensures
    (one_further c.args.oid.now _ inv.0 _ _ e c.in-Some.ensures.steps inv.1)

pub loop-extension-preserved : goal.loop-extension-preserved
loop-extension-preserved c =
    let inv = c.loop-extension.invariant in
    let e = lent_extension c.in-Some.extension in
    let other : bytes_eq e.extn_id c.args.oid.now ≡ false = sym c.has_oid.ensures ∙ c.if-has_oid.false in
    let further = one_further c.args.oid.now _ inv.0 _ _ e c.in-Some.ensures.steps inv.1 in (
      inv.0 ++ e ∷ [],
      further,
      none_further c.args.oid.now inv.0 e inv.2 other,
      place_is c.as_bytes-all.result.now c.as_bytes.result.now (extensions_left c.args.list) (inv.0 ++ e ∷ []) (extensions_left c.next.new.self) c.as_bytes-all.ensures c.as_bytes.ensures further,
    )
