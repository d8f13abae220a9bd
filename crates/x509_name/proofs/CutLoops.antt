-- The loops that cut a text: what stands in front of an index, and what is left from it on.
use Rattle.std.proofs.Common.{◌+◌, ◌-◌, ◌<◌, ◌≤◌, ◌≡◌, ◌≢◌, ℕ, Bool, true, false, eqb, List, [], ◌∷◌, ◌++◌, length, get_or, take, drop, Some, refl, sym, ap, ◌∙◌, arith, eq-eqb, add-one, drop-cons}
use Rattle.std.specs.List.{onto_first}
use Rattle.std.proofs.lemmas.Bool.{ne_eqb}
use Rattle.std.proofs.lemmas.List.{take_more, take_all, take-append-drop, drop_all, take_rest}
use Rattle.x509_name.specs.Cutting.{passes, cut}
use Rattle.x509_name.proofs.Cuts.{passes-append, cut_one, cut_first, cut_some}

-- ---- no separator stands in front of the index

module _ (separator : ℕ) (text : List ℕ) (i : ℕ) (lt : i < length text) where
  pub passes_escaped : passes separator (take i text) false ≡ Some true → passes separator (take (i + 1) text) false ≡ Some false
  passes_escaped so_far = rw (take_more text i 0 lt) (passes-append separator (take i text) (get_or text i 0 ∷ []) false true so_far)

  pub passes_other : passes separator (take i text) false ≡ Some false → get_or text i 0 ≢ separator → passes separator (take (i + 1) text) false ≡ Some (eqb (get_or text i 0) 92)
  passes_other so_far other =
      rw (take_more text i 0 lt)
      (passes-append separator (take i text) (get_or text i 0 ∷ []) false false so_far ∙ rw (ne_eqb (get_or text i 0) separator other) refl)

  split_here : text ≡ take i text ++ get_or text i 0 ∷ drop (i + 1) text
  split_here = sym (ap (λ (t : List ℕ). take i text ++ t) (rw add-one (sym (drop-cons text i 0 lt))) ∙ take-append-drop i text)

  pub cut_here : passes separator (take i text) false ≡ Some false → get_or text i 0 ≡ separator
      → cut separator text false ≡ take i text ∷ cut separator (take (length text - (i + 1)) (drop (i + 1) text)) false
  cut_here so_far is =
      ap (λ (t : List ℕ). cut separator t false) (split_here ∙ ap (λ (byte : ℕ). take i text ++ byte ∷ drop (i + 1) text) is)
      ∙ cut_first separator (take i text) (drop (i + 1) text) false so_far
      ∙ ap (λ (t : List ℕ). take i text ∷ cut separator t false) (sym (take_rest text (i + 1)))

pub cut_none : (separator : ℕ) (text : List ℕ) (i : ℕ) (escaped : Bool) → length text ≤ i → passes separator (take i text) false ≡ Some escaped → cut separator text false ≡ text ∷ []
cut_none separator text i escaped ge so_far =
    cut_one separator text false escaped (ap (λ (t : List ℕ). passes separator t false) (sym (take_all i text ge)) ∙ so_far)

-- ---- how many parts are left

onto_count : (byte : ℕ) (parts : List (List ℕ)) → 0 < length parts → length (onto_first byte parts) ≡ length parts
onto_count byte [] some = absurd (omega arith)
onto_count byte (part ∷ parts) some = refl

module _ (separator : ℕ) (text : List ℕ) (i : ℕ) (lt : i < length text) where
  opened : (escaped : Bool) → cut separator (drop i text) escaped ≡ cut separator (get_or text i 0 ∷ drop (i + 1) text) escaped
  opened escaped = rw (add-one, drop-cons text i 0 lt) refl

  pub count_escaped : length (cut separator (drop i text) true) ≡ length (cut separator (drop (i + 1) text) false)
  unfolding cut
  count_escaped = ap (λ (t : List (List ℕ)). length t) (opened true) ∙ onto_count (get_or text i 0) _ (cut_some separator (drop (i + 1) text) false)

  pub count_separator : get_or text i 0 ≡ separator → length (cut separator (drop i text) false) ≡ length (cut separator (drop (i + 1) text) false) + 1
  unfolding cut
  count_separator is =
      let step : cut separator (drop i text) false ≡ [] ∷ cut separator (drop (i + 1) text) false = opened false ∙ rw (eq-eqb (get_or text i 0) separator is) refl in
      omega (arith, ap (λ (t : List (List ℕ)). length t) step)

  pub count_other : get_or text i 0 ≢ separator → length (cut separator (drop i text) false) ≡ length (cut separator (drop (i + 1) text) (eqb (get_or text i 0) 92))
  unfolding cut
  count_other other =
      ap (λ (t : List (List ℕ)). length t) (opened false ∙ rw (ne_eqb (get_or text i 0) separator other) refl)
      ∙ onto_count (get_or text i 0) _ (cut_some separator (drop (i + 1) text) (eqb (get_or text i 0) 92))

pub count_none : (separator : ℕ) (text : List ℕ) (i : ℕ) (escaped : Bool) → length text ≤ i → length (cut separator (drop i text) escaped) ≡ 1
unfolding cut
count_none separator text i escaped ge = rw (drop_all i text ge) refl
