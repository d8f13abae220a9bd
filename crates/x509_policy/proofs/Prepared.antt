-- The leaves of the tree and the levels say the same behind 6.1.4 (b).
use Rattle.std.proofs.Common.{◌≡◌, ◌∙◌, ◌↔◌, inl, inr, Bool, true, false, List, ◌∷◌, refl, sym, ap, subst}
use Rattle.x509_policy.specs.Values.{Policy, any_policy, is_any, Mapping}
use Rattle.x509_policy.specs.Tree.{subjects}
use Rattle.x509_policy.specs.Leaves.{Leaf, first_of_way}
use Rattle.x509_policy.specs.Levels.{In, Level, IsAt, Expects, IsIssuer, IsMapped, IsUnmapped, Way}
use Rattle.x509_policy.proofs.Leaves.{way_of_any, way_of_other}
use Rattle.x509_policy.proofs.Ends.{is_any-any}
use Rattle.x509_policy.proofs.Steps.{Holds, at_of_leads, way_at, first_any}
use Rattle.x509_policy.proofs.Mappings.{Mem, Nowhere, leaves_mapped, leaves_unmapped, issuer_or_not, NoneFromAny, Behind, In-mapped, mapped-In, In-unmapped, unmapped-In}

-- a way to any-policy goes on as its own
goes_on : (w v : Policy) (b : Bool) → is_any w ≡ b → first_of_way (first_of_way w any_policy) v ≡ first_of_way w v
goes_on w v true is = ap (λ q. first_of_way q v) (way_of_any w any_policy is) ∙ (way_of_any any_policy v is_any-any ∙ sym (way_of_any w v is))
goes_on w v false is = ap (λ q. first_of_way q v) (way_of_other w any_policy is)

module _ (ms : List Mapping) (ls : List Leaf) (level : Level) (levels : List Level) (holds : Holds ls (level ∷ levels)) where
  none_at : (v : Policy) → (IsAt level v → ⊥) → Nowhere ls v
  none_at v nobody l there same = nobody (subst (IsAt level) same (way_at (level ∷ levels) l.first l.valid (holds.to_way l there)))

  at_none : (v : Policy) → Nowhere ls v → IsAt level v → ⊥
  at_none v nobody at =
      let (r, way) = holds.reached v at in
      let (e, there) = holds.to_leaf r v way in
      nobody (record { first = r; valid = v; expected = e }) there refl

  module _ (from_any : NoneFromAny ms) (to_any : (v : Policy) → In any_policy (subjects ms v) → ⊥) (mapped : Level) (is : IsMapped ms level mapped) where
    kept_way : (r v : Policy) → Way (level ∷ levels) r v → Way (mapped ∷ levels) r v
    kept_way r v (u, w, way, lead, from) = (u, w, way, (is.leads u v).1 (inl lead), from)

    new_way : (r v w : Policy) → IsIssuer ms v → Nowhere ls v → Way (level ∷ levels) w any_policy → r ≡ first_of_way w v → Way (mapped ∷ levels) r v
    new_way r v w issuer nobody (u, x, way, lead, from) first =
        (u, x, way, (is.leads u v).1 (inr (issuer, at_none v nobody, lead)), first ∙ (ap (λ q. first_of_way q v) from ∙ goes_on x v (is_any x) refl))

    mapped_way : (r v : Policy) (e : List Policy) → Behind ms ms ls r v e → Way (mapped ∷ levels) r v
    mapped_way r v e (inl (old, there, why)) = kept_way r v (holds.to_way (record { first = r; valid = v; expected = old }) there)
    mapped_way r v e (inr (issuer, nobody, (w, old, there, from), ex)) =
        new_way r v w issuer nobody (holds.to_way (record { first = w; valid = any_policy; expected = old }) there) from

    issuer_expects : (v : Policy) (e : List Policy) → IsIssuer ms v → IsAt mapped v → e ≡ subjects ms v → (x : Policy) → In x e ↔ Expects mapped v x
    issuer_expects v e issuer at ex x =
        let same = is.expects_mapped v x issuer in
        ((λ h. same.1 (at, subst (In x) ex h)), (λ h. subst (In x) (sym ex) (same.0 h).1))

    mapped_expects : (r v : Policy) (e : List Policy) → Behind ms ms ls r v e → (x : Policy) → In x e ↔ Expects mapped v x
    mapped_expects r v e b x = by_case b (way_at (mapped ∷ levels) r v (mapped_way r v e b))
      where
        by_case : Behind ms ms ls r v e → IsAt mapped v → In x e ↔ Expects mapped v x
        by_case (inl (old, there, inl (issuer, ex))) at = issuer_expects v e issuer at ex x
        by_case (inl (old, there, inr (other, ex))) at =
            let before = holds.expects (record { first = r; valid = v; expected = old }) there x in
            let same = is.expects_other v x other in
            ((λ h. same.1 (before.0 (subst (In x) ex h))), (λ h. subst (In x) (sym ex) (before.1 (same.0 h))))
        by_case (inr (issuer, nobody, more, ex)) at = issuer_expects v e issuer at ex x

    mapped_leaf : (r v : Policy) → Way (mapped ∷ levels) r v → (e : List Policy) × Mem (leaves_mapped ms ms ls) r v e
    mapped_leaf r v (u, w, way, lead, from) = elim ((is.leads u v).0 lead) [
      | inl old ↦
          let (e, there) = holds.to_leaf r v (u, w, way, old, from) in
          elim (issuer_or_not ms v) [
            | inl issuer ↦ (subjects ms v, mapped-In ms ms from_any ls r v (subjects ms v) (inl (e, there, inl (issuer, refl))))
            | inr other ↦ (e, mapped-In ms ms from_any ls r v e (inl (e, there, inr (other, refl))))
          ]
      | inr (issuer, nobody, any) ↦
          let (e, there) = holds.to_leaf (first_of_way w any_policy) any_policy (u, w, way, any, refl) in
          (subjects ms v, mapped-In ms ms from_any ls r v (subjects ms v) (inr (issuer, none_at v nobody, (first_of_way w any_policy, e, there, from ∙ sym (goes_on w v (is_any w) refl)), refl)))
    ]

    mapped_reached : (v : Policy) → IsAt mapped v → (r : Policy) × Way (mapped ∷ levels) r v
    mapped_reached v at =
        let (u, lead) = is.follows v at in
        elim ((is.leads u v).0 lead) [
          | inl old ↦ let (r, way) = holds.reached v (at_of_leads level u v old) in (r, kept_way r v way)
          | inr (issuer, nobody, any) ↦
              let (r, way) = holds.reached any_policy (at_of_leads level u any_policy any) in
              (first_of_way r v, new_way (first_of_way r v) v r issuer (none_at v nobody) way refl)
        ]

    mapped_any : (r v : Policy) → Way (mapped ∷ levels) r v → (r ≡ any_policy) ↔ (v ≡ any_policy)
    mapped_any r v (u, w, way, lead, from) = elim ((is.leads u v).0 lead) [
      | inl old ↦ holds.any_first r v (u, w, way, old, from)
      | inr (issuer, nobody, any) ↦ ((λ e. first_any w v (is_any w) refl (sym from ∙ e)), (λ e. absurd (from_any (subst (IsIssuer ms) e issuer))))
    ]

    pub mapped_holds : Holds (leaves_mapped ms ms ls) (mapped ∷ levels)
    mapped_holds = record {
      to_way = λ l h. mapped_way l.first l.valid l.expected (In-mapped ms ms from_any ls l.first l.valid l.expected h);
      expects = λ l h. mapped_expects l.first l.valid l.expected (In-mapped ms ms from_any ls l.first l.valid l.expected h);
      to_leaf = mapped_leaf;
      reached = mapped_reached;
      any_expected = λ v ex. elim (issuer_or_not ms v) [
        | inl issuer ↦ absurd (to_any v ((is.expects_mapped v any_policy issuer).0 ex).1)
        | inr other ↦ holds.any_expected v ((is.expects_other v any_policy other).0 ex)
      ];
      any_first = mapped_any;
    }

  module _ (left : Level) (is : IsUnmapped ms level left) where
    pub unmapped_holds : Holds (leaves_unmapped ms ls) (left ∷ levels)
    unmapped_holds = record {
      to_way = λ l h.
          let (there, other) = In-unmapped ms ls l h in
          let (u, w, way, lead, from) = holds.to_way l there in
          (u, w, way, (is.leads u l.valid).1 (lead, other), from);
      expects = λ l h x.
          let (there, other) = In-unmapped ms ls l h in
          let before = holds.expects l there x in
          let same = is.expects l.valid x in
          ((λ a. same.1 (before.0 a, other)), (λ a. before.1 (same.0 a).0));
      to_leaf = λ r v (u, w, way, lead, from).
          let (old, other) = (is.leads u v).0 lead in
          let (e, there) = holds.to_leaf r v (u, w, way, old, from) in
          (e, unmapped-In ms ls (record { first = r; valid = v; expected = e }) there other);
      reached = λ v at.
          let (u, lead) = is.follows v at in
          let (old, other) = (is.leads u v).0 lead in
          let (r, (x, w, way, led, from)) = holds.reached v (at_of_leads level u v old) in
          (r, (x, w, way, (is.leads x v).1 (led, other), from));
      any_expected = λ v ex. holds.any_expected v ((is.expects v any_policy).0 ex).0;
      any_first = λ r v (u, w, way, lead, from). holds.any_first r v (u, w, way, ((is.leads u v).0 lead).0, from);
    }
