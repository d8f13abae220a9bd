use Rattle.std.proofs.Common.{◌≡◌, ◌∙◌, ◌+◌, ◌∷◌, ℕ, List, [], None, true, false, get_or, refl, sym, ap, subst, arith}
use denote.Enum.Bare.{sameb}
use Rattle.std.proofs.lemmas.Bool.{true≢false}
use Rattle.std.proofs.lemmas.Grind.{merely}
use Rattle.x509_der.specs.Form.{Spells}
use Rattle.x509_der.specs.contracts.error.ErrorKind.{the_type}
use Rattle.x509_der.specs.declared.error.ErrorKind.TheVariants.{Memory}
use Rattle.x509_match.specs.declared.key.MatchedName.{MatchedName}
use Rattle.x509_name.specs.Names.{name}
use Rattle.x509_path_steps.specs.declared.trusted.Trusted.{Trusted}
use Rattle.x509_verify.proofs.Gathering.{Gathered, gathered_all, none_more, one_more}
use Rattle.x509_verify.proofs.Keys.{any_default}
use Rattle.x509_verify.proofs.anchors.Anchors.new.Goals as goal
use Rattle.x509_verify.proofs.anchors.Anchors.new.Goals.{in-Ok+in_ok-push-in-Ok, in-Err+else-eq}
use Rattle.x509_verify.specs.Named.{IsNamed, IsUnderName}
use Rattle.x509_verify.specs.declared.keyed.Keyed.{Keyed}

-- what a read of a list answers behind its end
abbrev blank : Trusted
blank = record {
  anchor = record { name = record { ref_ptr = (0, 0); now = [] }; key = record { ref_ptr = (0, 0); now = [] } };
  name_constraints = None;
  max_path_length = None;
  policies = None;
  policy_flags = record { inhibit_policy_mapping = false; require_explicit_policy = false; inhibit_any_policy = false };
}

abbrev value_of : Keyed MatchedName Trusted → Trusted
value_of entry = entry.value

pub loop-one-preserved : goal.loop-one-preserved
loop-one-preserved c =
    let n = c.loop-one.one-index in
    let there = any_default c.args.trusted.now n in
    elim c.match-from_der.branch [
      | in-Ok+in_ok-push-in-Ok w ↦
          let trusted = get_or c.args.trusted.now n blank in
          let (x, spells, key) = w.in-Ok.ensures.named in
          subst (λ (xs : List (Keyed MatchedName Trusted)). Gathered value_of IsNamed IsUnderName c.args.trusted.now (n + 1) xs) (sym (ap (λ v. v.items) w.entries-is ∙ w.in_ok-push-in-Ok.ensures.items))
          (one_more value_of IsNamed IsUnderName c.args.trusted.now n (n + 1) refl c.loop-one.entries.items c.loop-one.invariant (record { key = w.in-Ok.key; value = trusted })
          (x, spells, key) c.loop-one-test.true (there trusted blank c.loop-one-test.true) (x, spells))
      | in-Err+else-eq w ↦
          subst (λ (xs : List (Keyed MatchedName Trusted)). Gathered value_of IsNamed IsUnderName c.args.trusted.now (n + 1) xs) (sym (ap (λ v. v.items) w.entries-is))
          (none_more value_of IsNamed IsUnderName c.args.trusted.now n (n + 1) refl c.loop-one.entries.items c.loop-one.invariant
          (λ one is (x, spells).
          let same : one ≡ get_or c.args.trusted.now n blank = sym is ∙ there one blank c.loop-one-test.true in
          let memory : w.kind.result ≡ Memory = w.kind.ensures ∙ w.in-Err.ensures.err x (subst (λ (t : Trusted). Spells name x t.anchor.name.now) same spells) in
          true≢false (sym (subst (λ k. sameb the_type k Memory ≡ true) (sym memory) refl) ∙ (sym w.eq.ensures ∙ w.if-eq.false))))
    ]

pub invariant_of-result : goal.invariant_of-result
invariant_of-result c =
    let all = gathered_all value_of IsNamed IsUnderName c.args.trusted.now c.loop-one.one-index c.loop-one.entries.items c.in_ok-in_order.field-0.items c.loop-one.invariant c.loop-one-test.false c.in_ok-in_order.ensures.same in
    record { order = c.in_ok-in_order.ensures.order; named = merely all.0 }

pub returns : goal.returns
returns c =
    (gathered_all value_of IsNamed IsUnderName c.args.trusted.now c.loop-one.one-index c.loop-one.entries.items c.in_ok-in_order.field-0.items c.loop-one.invariant c.loop-one-test.false c.in_ok-in_order.ensures.same).1
