use Rattle.std.proofs.Common.{◌≡◌, ◌≤◌, List, ◌∷◌, length, refl, sym, subst, arith}
use Rattle.std.proofs.lemmas.Bool.Decides.{nat_tests}
use Rattle.std.specs.Prelude.{◌↔◌, Any}
use Rattle.x509_check.proofs.Checks.{piece_within}
use Rattle.x509_check.proofs.KnownEntries.{not_refused}
use Rattle.x509_check.specs.Lending.{listed}
use Rattle.x509_der.specs.List.{list_reading}
use Rattle.x509_ext.specs.GeneralName.{general_name}
use Rattle.x509_ext.specs.declared.pkix.name.general_name.GeneralName.{GeneralName}
use Rattle.x509_peer.proofs.Anys.{any_further, any_here, any_none}
use Rattle.x509_peer.proofs.Walk.{is_first, no_name, some_name}
use Rattle.x509_peer.specs.Naming.{IsNameOf}
use Rattle.x509_peer.specs.Peer.{named}
use Rattle.x509_peer.proofs.matching.has_name_of.Goals as goal

pub loop-rest-init : goal.loop-rest-init
loop-rest-init c = record { known = c.requires; same = (λ h. h, λ h. h) }

pub returns-in_default : goal.returns-in_default
returns-in_default c =
    let some : 1 ≤ length c.loop-rest.rest.now = grind (arith, nat_tests) in
    let piece = some_name c.loop-rest.rest.now some c.loop-rest.invariant.known in
    absurd (not_refused _ _ _ piece.1 c.in_default.ensures.exact c.in_default.ensures.err)

pub returns-then-is_name_of : goal.returns-then-is_name_of
returns-then-is_name_of c =
    let some : 1 ≤ length c.loop-rest.rest.now = grind (arith, nat_tests) in
    let first = is_first c.loop-rest.rest.now _ c.in-Ok.ensures.exact some c.loop-rest.invariant.known in
    let P : GeneralName → Type 0 = λ name. IsNameOf (named c.args.peer.now) name in
    let is = (c.is_name_of.ensures first.first first.read).0 c.if-is_name_of.true in
    (λ h. c.loop-rest.invariant.same.0 (subst (λ xs. Any P xs) (sym first.list) (any_here P first.first _ is)), λ h. refl)

pub loop-rest-smaller : goal.loop-rest-smaller
loop-rest-smaller c = omega (arith, piece_within c.loop-rest.rest.now _ c.in-Ok.ensures.exact)

pub loop-rest-preserved : goal.loop-rest-preserved
loop-rest-preserved c =
    let some : 1 ≤ length c.loop-rest.rest.now = grind (arith, nat_tests) in
    let first = is_first c.loop-rest.rest.now _ c.in-Ok.ensures.exact some c.loop-rest.invariant.known in
    let P : GeneralName → Type 0 = λ name. IsNameOf (named c.args.peer.now) name in
    let all : Type 0 = Any P (listed (list_reading general_name.reading c.args.names.now)) in
    let other : ¬ (P first.first) = λ p. absurd (let k = (c.is_name_of.ensures first.first first.read).1 p in cc) in record {
      known = first.known;
      same = any_further P first.first _ all other (subst (λ xs. Any P xs ↔ all) first.list c.loop-rest.invariant.same);
    }

pub returns : goal.returns
returns c =
    let none : length c.loop-rest.rest.now ≡ 0 = grind (arith, nat_tests) in
    let P : GeneralName → Type 0 = λ name. IsNameOf (named c.args.peer.now) name in
    (λ h. absurd cc, λ h. absurd (any_none P (subst (λ xs. Any P xs) (no_name c.loop-rest.rest.now none) (c.loop-rest.invariant.same.1 h))))
