use Rattle.std.proofs.Common.{◌≡◌, ◌≤◌, ◌||◌, Bool, bytes_eq, length, refl, sym, ap, ◌∙◌, arith}
use Rattle.std.proofs.lemmas.Bool.Decides.{nat_tests}
use Rattle.x509_check.proofs.KnownEntries.{not_refused}
use Rattle.x509_check.proofs.KnownExtensions as known
use Rattle.x509_check.specs.ExtensionRefs.{extensions_left}
use Rattle.x509_ext.specs.declared.extension.Extension.{Extension}
use Rattle.x509_check.proofs.lent.extensions.ExtensionRefs.has_critical_or.Goals as goal

pub loop-rest-init : goal.loop-rest-init
loop-rest-init c = record { known = c.args.self.now.are_extensions; same = refl }

pub returns-in_default : goal.returns-in_default
returns-in_default c =
    let some : 1 ≤ length c.loop-rest.rest.now = grind (arith, nat_tests) in
    let piece = known.some_extension c.loop-rest.rest.now some c.loop-rest.invariant.known in
    absurd (not_refused _ _ _ piece.1 c.in_default.ensures.exact c.in_default.ensures.err)

pub returns-then-is_critical_or : goal.returns-then-is_critical_or
returns-then-is_critical_or c =
    let some : 1 ≤ length c.loop-rest.rest.now = grind (arith, nat_tests) in
    let first = known.is_first_of c.loop-rest.rest.now _ c.in-Ok.ensures.exact some c.loop-rest.invariant.known in
    let test : Extension → Bool = λ e. e.critical || bytes_eq e.extn_id c.args.oid.now in
    let asked = ap (λ o. first.first.critical || bytes_eq first.first.extn_id o) (sym c.as_bytes.ensures.octets) in
    known.here test (extensions_left c.args.self.now) c.loop-rest.rest.now _ first (asked ∙ sym (c.is_critical_or.ensures first.first first.read) ∙ c.if-is_critical_or.true) c.loop-rest.invariant.same

pub loop-rest-smaller : goal.loop-rest-smaller
loop-rest-smaller c = omega (arith, c.in-Ok.ensures.within)

pub loop-rest-preserved : goal.loop-rest-preserved
loop-rest-preserved c =
    let some : 1 ≤ length c.loop-rest.rest.now = grind (arith, nat_tests) in
    let first = known.is_first_of c.loop-rest.rest.now _ c.in-Ok.ensures.exact some c.loop-rest.invariant.known in
    let test : Extension → Bool = λ e. e.critical || bytes_eq e.extn_id c.args.oid.now in
    let asked = ap (λ o. first.first.critical || bytes_eq first.first.extn_id o) (sym c.as_bytes.ensures.octets) in record {
      known = first.known;
      same = known.behind test (extensions_left c.args.self.now) c.loop-rest.rest.now _ first (asked ∙ sym (c.is_critical_or.ensures first.first first.read) ∙ c.if-is_critical_or.false) c.loop-rest.invariant.same;
    }

pub returns : goal.returns
returns c =
    let none : length c.loop-rest.rest.now ≡ 0 = grind (arith, nat_tests) in
    let test : Extension → Bool = λ e. e.critical || bytes_eq e.extn_id c.args.oid.now in
    known.nowhere test (extensions_left c.args.self.now) c.loop-rest.rest.now none c.loop-rest.invariant.same
