-- A list of extensions without its poison, in which the authority key identifier has another value.
use Rattle.std.proofs.Common.{◌≡◌, ◌⊎◌, inl, inr, ℕ, ◌≤◌, true, false, List, [], ◌∷◌, ◌++◌, length, map, bytes_eq, if◌then◌else◌, refl, sym, ap, ◌∙◌, subst, arith, append_assoc}
use Rattle.std.proofs.lemmas.Bool.{cases_Bool}
use Rattle.std.proofs.lemmas.Slice.Eq.{bytes_eq-Decides}
use Rattle.x509_cert.specs.Without.{without_oid}
use Rattle.x509_der.specs.Form.{spelling}
use Rattle.x509_der.specs.List.{joined}
use Rattle.x509_ext.specs.Extension.{extension}
use Rattle.x509_ext.specs.LookUp.{with_oid}
use Rattle.x509_ext.specs.declared.extension.Extension.{Extension}
use Rattle.x509_log.proofs.Cuts.{joined_append, left}
use Rattle.x509_log.specs.Logged.{authority_key_identifier, with_value}
use Rattle.x509_sct.specs.Identifier.{precertificate_poison}

-- ---- which extensions have an OID

-- none among those before and those behind, where there is none among all
pub none_before : (oid : List ℕ) (xs ys : List Extension) → with_oid oid (xs ++ ys) ≡ [] → with_oid oid xs ≡ []
none_before oid [] ys none = refl
none_before oid (x ∷ xs) ys none =
    elim (cases_Bool (bytes_eq x.extn_id oid)) [
      | inl is ↦ absurd (let k = rw is at none in cc)
      | inr other ↦ rw other (none_before oid xs ys (rw other at none))
    ]

none_behind : (oid : List ℕ) (xs ys : List Extension) → with_oid oid (xs ++ ys) ≡ [] → with_oid oid ys ≡ []
none_behind oid [] ys none = none
none_behind oid (x ∷ xs) ys none =
    elim (cases_Bool (bytes_eq x.extn_id oid)) [
      | inl is ↦ absurd (let k = rw is at none in cc)
      | inr other ↦ none_behind oid xs ys (rw other at none)
    ]

none_both : (oid : List ℕ) (xs ys : List Extension) → with_oid oid xs ≡ [] → with_oid oid ys ≡ [] → with_oid oid (xs ++ ys) ≡ []
none_both oid [] ys none behind = behind
none_both oid (x ∷ xs) ys none behind =
    elim (cases_Bool (bytes_eq x.extn_id oid)) [
      | inl is ↦ absurd (let k = rw is at none in cc)
      | inr other ↦ rw other (none_both oid xs ys (rw other at none) behind)
    ]

-- one that has another OID adds none
none_first : (oid : List ℕ) (e : Extension) (xs : List Extension) → bytes_eq e.extn_id oid ≡ false → with_oid oid xs ≡ [] → with_oid oid (e ∷ xs) ≡ []
none_first oid e xs other none = rw other none

none_rest : (oid : List ℕ) (e : Extension) (xs : List Extension) → with_oid oid (e ∷ xs) ≡ [] → with_oid oid xs ≡ []
none_rest oid e xs none =
    elim (cases_Bool (bytes_eq e.extn_id oid)) [
      | inl is ↦ absurd (let k = rw is at none in cc)
      | inr other ↦ rw other at none
    ]

-- ---- another value

pub kept_values : (oid value : List ℕ) (xs : List Extension) → with_oid oid xs ≡ [] → with_value oid value xs ≡ xs
kept_values oid value [] none = refl
kept_values oid value (x ∷ xs) none =
    elim (cases_Bool (bytes_eq x.extn_id oid)) [
      | inl is ↦ absurd (let k = rw is at none in cc)
      | inr other ↦ rw other (ap (λ (l : List Extension). x ∷ l) (kept_values oid value xs (rw other at none)))
    ]

abbrev pub given : Extension → List ℕ → Extension
given e value = record e { extn_value = value }

changed : (oid value : List ℕ) (xs : List Extension) (e : Extension) (ys : List Extension) → with_oid oid xs ≡ [] → bytes_eq e.extn_id oid ≡ true → with_oid oid ys ≡ []
    → with_value oid value (xs ++ e ∷ ys) ≡ xs ++ given e value ∷ ys
changed oid value [] e ys none is alone = rw is (ap (λ (l : List Extension). given e value ∷ l) (kept_values oid value ys alone))
changed oid value (x ∷ xs) e ys none is alone =
    elim (cases_Bool (bytes_eq x.extn_id oid)) [
      | inl same ↦ absurd (let k = rw same at none in cc)
      | inr other ↦ rw other (ap (λ (l : List Extension). x ∷ l) (changed oid value xs e ys (rw other at none) is alone))
    ]

-- ---- the two OIDs

abbrev pub poison : List ℕ
poison = precertificate_poison

abbrev pub key : List ℕ
key = authority_key_identifier

differ : (oid a b : List ℕ) → bytes_eq oid a ≡ true → bytes_eq a b ≡ false → bytes_eq oid b ≡ false
differ oid a b is other = let same : oid ≡ a = (bytes_eq-Decides oid a).0 is in rw same other

key_is_no_poison : (e : Extension) → bytes_eq e.extn_id key ≡ true → bytes_eq e.extn_id poison ≡ false
key_is_no_poison e is = differ e.extn_id key poison is refl

poison_is_no_key : (e : Extension) → bytes_eq e.extn_id poison ≡ true → bytes_eq e.extn_id key ≡ false
poison_is_no_key e is = differ e.extn_id poison key is refl

-- ---- one of them stands behind the other

pub tail_is : (x y : Extension) (xs ys : List Extension) → x ∷ xs ≡ y ∷ ys → xs ≡ ys
tail_is x y xs ys e = cc

head_is : (x y : Extension) (xs ys : List Extension) → x ∷ xs ≡ y ∷ ys → x ≡ y
head_is x y xs ys e = cc

-- two places of one list with different extensions
pub one_is_behind :
    (before : List Extension) (p : Extension) (behind first : List Extension) (k : Extension) (others : List Extension) → before ++ p ∷ behind ≡ first ++ k ∷ others
    → bytes_eq p.extn_id poison ≡ true → bytes_eq k.extn_id key ≡ true → with_oid key behind ≡ [] → with_oid poison others ≡ [] → ⊥
one_is_behind [] p behind [] k others same is_p is_k no_key no_poison =
    let h = head_is p k behind others same in
    let other = poison_is_no_key p is_p in
    let is = subst (λ (e : Extension). bytes_eq e.extn_id key ≡ true) (sym h) is_k in
    absurd (let x = sym other ∙ is in cc)
one_is_behind [] p behind (x ∷ first) k others same is_p is_k no_key no_poison =
    let t = tail_is p x behind (first ++ k ∷ others) same in
    let none = none_behind key first (k ∷ others) (subst (λ (l : List Extension). with_oid key l ≡ []) t no_key) in
    absurd (let n = rw is_k at none in cc)
one_is_behind (x ∷ before) p behind [] k others same is_p is_k no_key no_poison =
    let t = tail_is x k (before ++ p ∷ behind) others same in
    let none = none_behind poison before (p ∷ behind) (subst (λ (l : List Extension). with_oid poison l ≡ []) (sym t) no_poison) in
    absurd (let n = rw is_p at none in cc)
one_is_behind (x ∷ before) p behind (y ∷ first) k others same is_p is_k no_key no_poison =
    one_is_behind before p behind first k others (tail_is x y (before ++ p ∷ behind) (first ++ k ∷ others) same) is_p is_k no_key no_poison

-- ---- the members that are left

-- The identifier is the first of the two. That there is no poison before it, nor behind the one, is known of the whole list.
module _ (value : List ℕ) (all first : List Extension) (k : Extension) (between : List Extension) (p : Extension) (behind : List Extension)
    (split : all ≡ first ++ k ∷ (between ++ p ∷ behind)) (is_k : bytes_eq k.extn_id key ≡ true) (is_p : bytes_eq p.extn_id poison ≡ true)
    (no_key : with_oid key first ≡ []) (key_alone : with_oid key (between ++ p ∷ behind) ≡ []) (no_poison : with_oid poison first ≡ [])
    (poison_between : with_oid poison between ≡ []) (poison_alone : with_oid poison behind ≡ []) where
  identifier_first : without_oid poison (with_value key value all) ≡ first ++ (given k value ∷ (between ++ behind))
  identifier_first =
      let front = first ++ given k value ∷ between in
      let none : with_oid poison front ≡ [] = none_both poison first (given k value ∷ between) no_poison (none_first poison (given k value) between (key_is_no_poison k is_k) poison_between) in
      ap (λ (l : List Extension). without_oid poison (with_value key value l)) split
      ∙ ap (without_oid poison) (changed key value first k (between ++ p ∷ behind) no_key is_k key_alone
      ∙ sym (append_assoc first (given k value ∷ between) (p ∷ behind)))
      ∙ left poison front p behind none is_p poison_alone
      ∙ append_assoc first (given k value ∷ between) behind

  pub octets_identifier_first : joined (spelling extension) (without_oid poison (with_value key value all))
      ≡ joined (spelling extension) first ++ (spelling extension (given k value) ++ (joined (spelling extension) between ++ joined (spelling extension) behind))
  unfolding joined
  octets_identifier_first =
      ap (joined (spelling extension)) identifier_first
      ∙ joined_append (spelling extension) first (given k value ∷ (between ++ behind))
      ∙ ap (λ (o : List ℕ). joined (spelling extension) first ++ (spelling extension (given k value) ++ o)) (joined_append (spelling extension) between behind)

-- the poison is the first of the two
module _ (value : List ℕ) (all before : List Extension) (p : Extension) (between : List Extension) (k : Extension) (behind : List Extension)
    (split : all ≡ before ++ p ∷ (between ++ k ∷ behind)) (is_k : bytes_eq k.extn_id key ≡ true) (is_p : bytes_eq p.extn_id poison ≡ true)
    (no_poison : with_oid poison before ≡ []) (poison_alone : with_oid poison (between ++ k ∷ behind) ≡ []) (no_key : with_oid key before ≡ [])
    (key_between : with_oid key between ≡ []) (key_alone : with_oid key behind ≡ []) where
  poison_first : without_oid poison (with_value key value all) ≡ before ++ (between ++ (given k value ∷ behind))
  poison_first =
      let front = before ++ p ∷ between in
      let none : with_oid key front ≡ [] = none_both key before (p ∷ between) no_key (none_first key p between (poison_is_no_key p is_p) key_between) in
      let others : with_oid poison (between ++ given k value ∷ behind) ≡ [] =
      none_both poison between (given k value ∷ behind) (none_before poison between (k ∷ behind) poison_alone)
      (none_first poison (given k value) behind (key_is_no_poison k is_k) (none_rest poison k behind (none_behind poison between (k ∷ behind) poison_alone))) in
      ap (λ (l : List Extension). without_oid poison (with_value key value l)) (split ∙ sym (append_assoc before (p ∷ between) (k ∷ behind)))
      ∙ ap (without_oid poison) (changed key value front k behind none is_k key_alone ∙ append_assoc before (p ∷ between) (given k value ∷ behind))
      ∙ left poison before p (between ++ given k value ∷ behind) no_poison is_p others

  pub octets_poison_first : joined (spelling extension) (without_oid poison (with_value key value all))
      ≡ joined (spelling extension) before ++ (joined (spelling extension) between ++ (spelling extension (given k value) ++ joined (spelling extension) behind))
  unfolding joined
  octets_poison_first =
      ap (joined (spelling extension)) poison_first
      ∙ joined_append (spelling extension) before (between ++ (given k value ∷ behind))
      ∙ ap (λ (o : List ℕ). joined (spelling extension) before ++ o) (joined_append (spelling extension) between (given k value ∷ behind))

-- ---- what is known of the one from the other

-- Where the first with an OID is alone, none stands before or behind another place that has it.
pub one_alone :
    (oid : List ℕ) (before : List Extension) (e : Extension) (behind xs : List Extension) (f : Extension) (ys : List Extension) → before ++ e ∷ behind ≡ xs ++ f ∷ ys
    → with_oid oid before ≡ [] → with_oid oid behind ≡ [] → bytes_eq f.extn_id oid ≡ true → with_oid oid xs ≡ [] × with_oid oid ys ≡ []
one_alone oid [] e behind [] f ys same none alone is = (refl, subst (λ (l : List Extension). with_oid oid l ≡ []) (tail_is e f behind ys same) alone)
one_alone oid [] e behind (x ∷ xs) f ys same none alone is =
    let t = tail_is e x behind (xs ++ f ∷ ys) same in
    let at = none_behind oid xs (f ∷ ys) (subst (λ (l : List Extension). with_oid oid l ≡ []) t alone) in
    absurd (let n = rw is at at in cc)
one_alone oid (x ∷ before) e behind [] f ys same none alone is =
    let h = head_is x f (before ++ e ∷ behind) ys same in
    let x_is = subst (λ (y : Extension). bytes_eq y.extn_id oid ≡ true) (sym h) is in
    absurd (let n = rw x_is at none in cc)
one_alone oid (x ∷ before) e behind (y ∷ xs) f ys same none alone is =
    let h = head_is x y (before ++ e ∷ behind) (xs ++ f ∷ ys) same in
    let more = one_alone oid before e behind xs f ys (tail_is x y (before ++ e ∷ behind) (xs ++ f ∷ ys) same) (none_rest oid x before none) alone is in
    elim (cases_Bool (bytes_eq x.extn_id oid)) [
      | inl x_is ↦ absurd (let n = rw x_is at none in cc)
      | inr other ↦ (none_first oid y xs (subst (λ (e : Extension). bytes_eq e.extn_id oid ≡ false) h other) more.0, more.1)
    ]
