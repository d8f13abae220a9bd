use Rattle.std.proofs.Common.{◌≡◌, ◌≢◌, ◌∙◌, ◌+◌, ◌∷◌, ℕ, List, [], get_or, length, map, refl, sym, ap, subst, arith}
use Rattle.std.proofs.Math.Logic.{∥∥₁_map}
use Rattle.std.proofs.lemmas.Bool.{true≢false}
use Rattle.std.proofs.lemmas.List.{get_or-map, length-map}
use Rattle.std.proofs.lemmas.List.Sorted.{All-permutation}
use Rattle.std.proofs.lemmas.Slice.{pushed}
use Rattle.std.specs.List.{All}
use Rattle.x509_match.specs.declared.key.MatchedName.{MatchedName}
use Rattle.x509_verify.specs.Named.{IsUnderSubject}
use Rattle.x509_verify.specs.declared.candidate.Candidate.{Candidate}
use Rattle.x509_verify.specs.declared.keyed.Keyed.{Keyed}
use Rattle.x509_base.proofs.ReadingLemmas.{equal_bytes, other_bytes}
use Rattle.x509_verify.proofs.Gathering.{Gathered, gathered_all, none_more, one_more}
use Rattle.x509_verify.proofs.Remaining.{lent_place, stands_at, under_more}
use Rattle.x509_verify.proofs.pool.Pool.without.Goals as goal
use Rattle.x509_verify.proofs.pool.Pool.without.Goals.{then-ne+in_ok-entry_of+in_ok-push, else-ne}

abbrev Entry : Type 0
Entry = Keyed MatchedName Candidate

abbrev bytes_of : Entry → List ℕ
bytes_of entry = entry.value.certificate.bytes.now

pub loop-place-preserved : goal.loop-place-preserved
loop-place-preserved c =
    let shown = c.as_slice-known.result.now in
    let is : shown ≡ c.args.self.now.entries.items = c.as_slice-known.ensures.value in
    let n = c.loop-place.place in
    let within = c.loop-place-test.true in
    let far = length-map shown bytes_of in
    let is_other : List ℕ → Type 0 = λ bytes. bytes ≢ c.args.certificate.now in
    let was = c.loop-place.invariant in
    let so_far = subst (λ xs. Gathered bytes_of is_other (λ entry. Unit {0}) (map bytes_of xs) n c.loop-place.entries.items) (sym is) was.gathered in
    let known = subst (λ xs. ∥ All IsUnderSubject xs ∥₁) (sym is) c.args.self.now.named in
    elim c.if-ne.branch [
      | then-ne+in_ok-entry_of+in_ok-push w ↦
          let e = w.in_ok-entry_of.field-0 in
          let same = w.in_ok-entry_of.ensures.bytes in
          let more = sym (ap (λ v. v.items) w.entries-is ∙ pushed (e ∷ []) refl w.in_ok-push.was w.push.ensures.items) in record {
            gathered = subst (λ xs. Gathered bytes_of is_other (λ entry. Unit {0}) (map bytes_of xs) (n + 1) c.if-ne.entries.items) is
                (subst (λ (xs : List Entry). Gathered bytes_of is_other (λ entry. Unit {0}) (map bytes_of shown) (n + 1) xs) more
                (one_more bytes_of is_other (λ entry. Unit {0}) (map bytes_of shown) n (n + 1) refl c.loop-place.entries.items so_far e tt (omega (arith, far, within))
                (stands_at shown n _ (bytes_of e) within same) (λ equal. other_bytes c.ne.result c.as_bytes.result.now c.args.certificate.now c.ne.ensures w.if-ne.true (c.as_bytes.ensures.same ∙ sym same ∙ equal))));
            named = subst (λ (xs : List Entry). ∥ All IsUnderSubject xs ∥₁) more
                (under_more shown c.loop-place.entries.items n _ e known was.named within
                w.in_ok-entry_of.ensures.under);
          }
      | else-ne w ↦
          let more = sym (ap (λ v. v.items) w.entries-is) in record {
            gathered = subst (λ xs. Gathered bytes_of is_other (λ entry. Unit {0}) (map bytes_of xs) (n + 1) c.if-ne.entries.items) is
                (subst (λ (xs : List Entry). Gathered bytes_of is_other (λ entry. Unit {0}) (map bytes_of shown) (n + 1) xs) more
                (none_more bytes_of is_other (λ entry. Unit {0}) (map bytes_of shown) n (n + 1) refl c.loop-place.entries.items so_far (λ bytes at other. other (sym (lent_place shown n _ bytes c.as_bytes.result.now within c.as_bytes.ensures.same at) ∙ equal_bytes c.ne.result c.as_bytes.result.now c.args.certificate.now c.ne.ensures w.if-ne.false))));
            named = subst (λ (xs : List Entry). ∥ All IsUnderSubject xs ∥₁) more was.named;
          }
    ]

pub invariant_of-result : goal.invariant_of-result
invariant_of-result c = record {
  order = c.in_ok-in_order.ensures.order;
  named = ∥∥₁_map c.loop-place.invariant.named (λ all. All-permutation IsUnderSubject c.loop-place.entries.items c.in_ok-in_order.field-0.items c.in_ok-in_order.ensures.same all);
}

pub returns : goal.returns
returns c =
    let entries = c.args.self.now.entries.items in
    (gathered_all bytes_of (λ bytes. bytes ≢ c.args.certificate.now) (λ entry. Unit {0}) (map bytes_of entries) c.loop-place.place c.loop-place.entries.items c.in_ok-in_order.field-0.items
    c.loop-place.invariant.gathered (omega (arith, length-map entries bytes_of, ap length c.as_slice-known.ensures.value, c.loop-place-test.false)) c.in_ok-in_order.ensures.same).1
