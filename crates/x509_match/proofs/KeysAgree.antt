-- Keys of RDNs and of names are equal exactly where these match.
use Rattle.std.proofs.Common.{◌≡◌, ◌↔◌, ℕ, zero, suc, IsTrue, Bool, true, false, arith, length-take, List, [], ◌∷◌, ◌++◌, ◌+◌, ◌<◌, length, take, get_or, map, bytes_eq, refl, sym, ap, ◌∙◌, subst}
use Rattle.std.proofs.lemmas.Bool.{and_parts}
use Rattle.std.proofs.lemmas.Cmp.{nat_list_cmp_total}
use Rattle.std.proofs.lemmas.List.Sorted.{IsPermutation-refl, IsPermutation-sym, IsPermutation-trans}
use Rattle.std.proofs.lemmas.List.{take_more}
use Rattle.std.proofs.lemmas.Map.Text.{is_eq-slice_cmp}
use Rattle.std.specs.Cmp.Derive.Mapped.{pointwise-map}
use Rattle.std.specs.Cmp.Lexicographic.{slice_cmp, pointwise, pointwise_decides, bytes_decides}
use Rattle.std.specs.List.Sorted.{IsPermutation}
use Rattle.std.specs.Ordering.{nat_cmp, is_eq}
use Rattle.std.specs.declared.cmp.Ordering.TheVariants.{Equal}
use Rattle.x509_name.specs.declared.attr.type_and_value.AttributeTypeAndValue.{AttributeTypeAndValue}
use Rattle.x509_match.proofs.OneOrder.{one_order}
use Rattle.x509_match.specs.Keys.{attribute_key}
use Rattle.x509_match.specs.Matching.{RdnsMatch, NamesMatch, BeginsWith}
use Rattle.x509_match.specs.NameKeys.{attributes_of, IsRdnKey, AreRdnKeys, IsNameKey}
use Rattle.x509_match.specs.declared.key.RdnKey.{RdnKey}
use Rattle.x509_match.specs.declared.key.MatchedName.{MatchedName}
use Rattle.x509_match.specs.contracts.key.RdnKeyPartialEq.TheImpl as rdn_eq
use Rattle.x509_match.specs.contracts.key.MatchedNamePartialEq.TheImpl as name_eq

exact_bytes : (x y : List ℕ) → slice_cmp nat_cmp x y ≡ Equal → x ≡ y
exact_bytes x y e = (bytes_decides x y).0 (sym (is_eq-slice_cmp x y) ∙ ap is_eq e)

pub rdn_key_eq : (k l : RdnKey) → (rdn_eq.ghosts.eq k l ≡ true) ↔ (attributes_of k ≡ attributes_of l)
rdn_key_eq k l =
    let same : pointwise bytes_eq (attributes_of k) (attributes_of l) ≡ rdn_eq.ghosts.eq k l = pointwise-map (λ a. a.items) bytes_eq k.attributes.items l.attributes.items in
    let says = pointwise_decides bytes_decides (attributes_of k) (attributes_of l) in
    (λ e. says.0 (same ∙ e), λ e. sym same ∙ says.1 e)

pub rdn_keys_agree : (k l : RdnKey) (x y : List AttributeTypeAndValue) → IsRdnKey k x → IsRdnKey l y → (attributes_of k ≡ attributes_of l) ↔ RdnsMatch x y
rdn_keys_agree k l x y h i = (
  λ e. IsPermutation-trans _ _ _ h.same (IsPermutation-sym _ _ (subst (λ z. IsPermutation (map attribute_key y) z) (sym e) i.same)),
  λ e. one_order nat_list_cmp_total exact_bytes (λ a. a.items) k.attributes.items l.attributes.items h.sorted i.sorted (IsPermutation-trans _ _ _ (IsPermutation-sym _ _ h.same) (IsPermutation-trans _ _ _ e i.same)),
)

pub rdn_keys_match : (k l : RdnKey) (x y : List AttributeTypeAndValue) → IsRdnKey k x → IsRdnKey l y → (rdn_eq.ghosts.eq k l ≡ true) ↔ RdnsMatch x y
rdn_keys_match k l x y h i =
    let e = rdn_key_eq k l in
    let m = rdn_keys_agree k l x y h i in
    (λ t. m.0 (e.0 t), λ t. e.1 (m.1 t))

keys_match : (ks ls : List RdnKey) (xs ys : List (List AttributeTypeAndValue)) → AreRdnKeys ks xs → AreRdnKeys ls ys → (pointwise rdn_eq.ghosts.eq ks ls ≡ true) ↔ NamesMatch xs ys
keys_match [] [] [] [] h i = (λ e. tt, λ e. refl)
keys_match [] (l ∷ ls) [] (y ∷ ys) h i = (λ e. absurd cc, λ e. absurd e)
keys_match (k ∷ ks) [] (x ∷ xs) [] h i = (λ e. absurd cc, λ e. absurd e)
keys_match (k ∷ ks) (l ∷ ls) (x ∷ xs) (y ∷ ys) h i =
    let first = rdn_keys_match k l x y h.0 i.0 in
    let rest = keys_match ks ls xs ys h.1 i.1 in (
      λ e. let p = and_parts (rdn_eq.ghosts.eq k l) (pointwise rdn_eq.ghosts.eq ks ls) e in (first.0 p.0, rest.0 p.1),
      λ e. rw (first.1 e.0, rest.1 e.1) refl,
    )
keys_match [] ls (x ∷ xs) ys h i = absurd h
keys_match (k ∷ ks) ls [] ys h i = absurd h
keys_match [] [] [] (y ∷ ys) h i = absurd i
keys_match [] (l ∷ ls) [] [] h i = absurd i
keys_match (k ∷ ks) [] (x ∷ xs) (y ∷ ys) h i = absurd i
keys_match (k ∷ ks) (l ∷ ls) (x ∷ xs) [] h i = absurd i

pub name_keys_match : (m n : MatchedName) (x y : List (List AttributeTypeAndValue)) → IsNameKey m x → IsNameKey n y → (name_eq.ghosts.eq m n ≡ true) ↔ NamesMatch x y
name_keys_match m n x y h i = keys_match m.rdns.items n.rdns.items x y h i

pub keys-push : (ks : List RdnKey) (xs : List (List AttributeTypeAndValue)) (k : RdnKey) (x : List AttributeTypeAndValue) → AreRdnKeys ks xs → IsRdnKey k x → AreRdnKeys (ks ++ k ∷ []) (xs ++ x ∷ [])
keys-push [] [] k x h i = (i, tt)
keys-push (l ∷ ks) (y ∷ xs) k x h i = (h.0, keys-push ks xs k x h.1 i)
keys-push [] (y ∷ xs) k x h i = absurd h
keys-push (l ∷ ks) [] k x h i = absurd h

-- ---- matching is an equivalence

pub names_match-refl : (xs : List (List AttributeTypeAndValue)) → NamesMatch xs xs
names_match-refl [] = tt
names_match-refl (x ∷ xs) = (IsPermutation-refl _, names_match-refl xs)

pub names_match-sym : (xs ys : List (List AttributeTypeAndValue)) → NamesMatch xs ys → NamesMatch ys xs
names_match-sym [] [] h = tt
names_match-sym (x ∷ xs) (y ∷ ys) h = (IsPermutation-sym _ _ h.0, names_match-sym xs ys h.1)
names_match-sym [] (y ∷ ys) h = absurd h
names_match-sym (x ∷ xs) [] h = absurd h

pub names_match-trans : (xs ys zs : List (List AttributeTypeAndValue)) → NamesMatch xs ys → NamesMatch ys zs → NamesMatch xs zs
names_match-trans [] [] [] h i = tt
names_match-trans (x ∷ xs) (y ∷ ys) (z ∷ zs) h i = (IsPermutation-trans _ _ _ h.0 i.0, names_match-trans xs ys zs h.1 i.1)
names_match-trans [] [] (z ∷ zs) h i = absurd i
names_match-trans [] (y ∷ ys) zs h i = absurd h
names_match-trans (x ∷ xs) [] zs h i = absurd h
names_match-trans (x ∷ xs) (y ∷ ys) [] h i = absurd i

-- a key more
pub keys-step : (ks more : List RdnKey) (xs : List (List AttributeTypeAndValue)) (i : ℕ) (k : RdnKey) (x : List AttributeTypeAndValue) → i < length xs → x ≡ get_or xs i x → more ≡ ks ++ k ∷ []
    → AreRdnKeys ks (take i xs) → IsRdnKey k x → AreRdnKeys more (take (i + 1) xs)
keys-step ks more xs i k x lt at e h j =
    let longer : take (i + 1) xs ≡ take i xs ++ x ∷ [] = take_more xs i x lt ∙ ap (λ z. take i xs ++ z ∷ []) (sym at) in
    rw (e, longer) (keys-push ks (take i xs) k x h j)

-- ---- the first RDNs

keys-length : (ks : List RdnKey) (xs : List (List AttributeTypeAndValue)) → AreRdnKeys ks xs → length ks ≡ length xs
keys-length [] [] h = refl
keys-length (k ∷ ks) (x ∷ xs) h = ap suc (keys-length ks xs h.1)
keys-length [] (x ∷ xs) h = absurd h
keys-length (k ∷ ks) [] h = absurd h

keys-take : (n : ℕ) (ks : List RdnKey) (xs : List (List AttributeTypeAndValue)) → AreRdnKeys ks xs → AreRdnKeys (take n ks) (take n xs)
keys-take zero ks xs h = tt
keys-take (suc n) [] [] h = tt
keys-take (suc n) (k ∷ ks) (x ∷ xs) h = (h.0, keys-take n ks xs h.1)
keys-take (suc n) [] (x ∷ xs) h = absurd h
keys-take (suc n) (k ∷ ks) [] h = absurd h

names_match-length : (xs ys : List (List AttributeTypeAndValue)) → NamesMatch xs ys → length xs ≡ length ys
names_match-length [] [] h = refl
names_match-length (x ∷ xs) (y ∷ ys) h = ap suc (names_match-length xs ys h.1)
names_match-length [] (y ∷ ys) h = absurd h
names_match-length (x ∷ xs) [] h = absurd h

pub too_short : (ks ls : List RdnKey) (x y : List (List AttributeTypeAndValue)) → AreRdnKeys ks x → AreRdnKeys ls y → length ks < length ls → IsTrue false ↔ BeginsWith x y
too_short ks ls x y h i lt = (
  λ e. absurd cc,
  λ m.
      let same = names_match-length (take (length y) x) y m in
      let own = keys-length ks x h in
      let other = keys-length ls y i in
      let less = length-take (length y) x in
      absurd (omega arith),
)

pub first_keys : (ks ls front : List RdnKey) (r : Bool) (x y : List (List AttributeTypeAndValue)) → AreRdnKeys ks x → AreRdnKeys ls y → front ≡ take (length ls) ks → r ≡ pointwise rdn_eq.ghosts.eq front ls
    → IsTrue r ↔ BeginsWith x y
first_keys ks ls front r x y h i same e =
    let long : length ls ≡ length y = keys-length ls y i in
    let are : AreRdnKeys front (take (length y) x) = rw (same, long) (keys-take (length y) ks x h) in
    let k = keys_match front ls (take (length y) x) y are i in
    (λ t. k.0 (sym e ∙ t), λ m. e ∙ k.1 m)
