-- The value of the one extension with an identifier.
use Rattle.std.proofs.Common.{◌≡◌, ◌∙◌, ◌⊎◌, inl, inr, ℕ, Bool, true, false, List, [], ◌∷◌, length, Some, None, Result, Ok, Err, bytes_eq, refl, sym, ap, subst, arith}
use Rattle.std.proofs.lemmas.Bool.{cases_lt}
use Rattle.std.proofs.lemmas.List.Elements.{All-head, All-tail}
use Rattle.std.proofs.lemmas.Slice.Eq.{bytes_eq-Decides}
use Rattle.std.specs.List.{All}
use Rattle.x509_der.specs.Element.{limit}
use Rattle.x509_der.specs.Form.{Form, IsForm, Spells, universal, whole_reading}
use Rattle.x509_der.specs.FormLaws.{universal_lawful, whole_complete, whole_sound}
use Rattle.x509_der.specs.List.{list_of}
use Rattle.x509_der.specs.ListLaws.{list_lawful}
use Rattle.x509_der.specs.Round.{rounded_lawful}
use Rattle.x509_der.specs.SpellingLaws.{values}
use Rattle.x509_der.specs.declared.error.ErrorKind.{ErrorKind}
use Rattle.x509_der.specs.declared.tag.Tag.TheVariants.{Sequence}
use Rattle.x509_ext.specs.LookUp.{with_oid}
use Rattle.x509_ext.specs.PolicyMapping.{policy_mapping, policy_mapping_contents, policy_mapping_contents_lawful, policy_mappings, policy_mappings_round}
use Rattle.x509_ext.specs.declared.extension.Extension.{Extension}
use Rattle.x509_path_steps.specs.Says.{IsFound}
use Rattle.x509_path_steps.specs.Steps.{NoneUnreadable}
use Rattle.x509_path_steps.specs.Validation.{IsDecodable, IsSpelled}

pub policy_mappings_lawful : {R : ErrorKind → Type 0} → IsForm R policy_mappings
policy_mappings_lawful = rounded_lawful policy_mappings_round Sequence (universal Sequence (list_of policy_mapping)) (λ v. refl)
    (universal_lawful Sequence _ (list_lawful policy_mapping (universal_lawful Sequence policy_mapping_contents policy_mapping_contents_lawful)))

module _ (P : Extension → Type 0) (oid : List ℕ) where
  first_case : (x : Extension) (es : List Extension) (e : Extension) → P x → (with_oid oid es ≡ e ∷ [] → P e × (e.extn_id ≡ oid)) → (b : Bool) → bytes_eq x.extn_id oid ≡ b → with_oid oid (x ∷ es) ≡ e ∷ [] → P e × (e.extn_id ≡ oid)
  first_case x es e holds more true same h =
      let front : x ∷ with_oid oid es ≡ e ∷ [] = rw same at h in
      let one : x ≡ e = cc in
      (subst P one holds, ap (λ (y : Extension). y.extn_id) (sym one) ∙ (bytes_eq-Decides x.extn_id oid).0 same)
  first_case x es e holds more false other h = more (rw other at h)

  -- the one that is found is one of those
  pub one_of : (es : List Extension) (e : Extension) → All P es → with_oid oid es ≡ e ∷ [] → P e × (e.extn_id ≡ oid)
  one_of [] e all h = absurd cc
  one_of (x ∷ es) e all h = first_case x es e (All-head P x es all) (one_of es e (All-tail P x es all)) (bytes_eq x.extn_id oid) refl h

abbrev pub Never : ErrorKind → Type 0
Never e = ⊥

-- octets spell a value, or none
pub readable : {T : Type 0} (form : Form T) → IsForm Never form → (octets : List ℕ) → ((v : T) × Spells form v octets) ⊎ ((v : T) → Spells form v octets → ⊥)
readable {T} form lawful octets = by_reading (whole_reading form.reading octets) refl
  where
    by_reading : (r : Result T ErrorKind) → whole_reading form.reading octets ≡ r → ((v : T) × Spells form v octets) ⊎ ((v : T) → Spells form v octets → ⊥)
    by_reading (Ok v) read = let (good, is) = whole_sound form lawful octets v read in elim (cases_lt limit (length octets)) [
      | inl long ↦ inr (λ w spells. omega (arith, long, spells.2))
      | inr within ↦ inl (v, (good, is, within))
    ]
    by_reading (Err e) read = inr (λ w spells. let never : Err e ≡ Ok w = sym read ∙ ap (whole_reading form.reading) spells.1 ∙ whole_complete form lawful w spells.0 in cc)

module _ {T : Type 0} (form : Form T) (lawful : IsForm Never form) (oid : List ℕ) (es : List Extension) where
  pub found : (e : Extension) → with_oid oid es ≡ e ∷ [] → (v : T) → Spells form v e.extn_value → IsFound form oid es (Some v)
  found e one v spells value = (
    (λ (f, other, so).
        let lists : e ∷ [] ≡ f ∷ [] = sym one ∙ other in
        let same : f ≡ e = cc in
        ap Some (values form lawful v value e.extn_value spells (subst (λ (x : Extension). Spells form value x.extn_value) same so))),
    (λ is. let same : v ≡ value = cc in (e, one, subst (λ w. Spells form w e.extn_value) same spells)),
  )

  pub not_found : ((e : Extension) → with_oid oid es ≡ e ∷ [] → ⊥) → IsFound form oid es None
  not_found none value = ((λ (e, one, so). absurd (none e one)), (λ is. cc))

-- where no extension is one that can't be read, the one with the identifier can
module _ {T : Type 0} (form : Form T) (lawful : IsForm Never form) (oid : List ℕ) (of_type : (e : Extension) → IsDecodable e → IsSpelled form oid e) (es : List Extension) (spelled : NoneUnreadable es) where
  reads : (e : Extension) → with_oid oid es ≡ e ∷ [] → (v : T) × Spells form v e.extn_value
  reads e one = elim (readable form lawful e.extn_value) [
    | inl is ↦ is
    | inr never ↦ absurd (spelled (λ all.
        let (decodable, same) = one_of (λ (x : Extension). IsDecodable x) oid es e all one in
        let (v, spells) = of_type e decodable same in
        never v spells))
  ]

  pub found_there : (octets : List ℕ) → ((e : Extension) × (with_oid oid es ≡ e ∷ []) × (octets ≡ e.extn_value)) → (v : T) × Spells form v octets × IsFound form oid es (Some v)
  found_there octets (e, one, is) =
      let (v, spells) = reads e one in
      (v, subst (λ o. Spells form v o) (sym is) spells, found form lawful oid es e one v spells)
