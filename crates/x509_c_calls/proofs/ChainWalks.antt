-- What is left of a chain from a place on, and the certificate that stands at its front.
use Rattle.std.proofs.Common.{◌≡◌, ℕ, ◌+◌, ◌-◌, ◌≤◌, ◌<◌, ◌⊎◌, List, [], ◌∷◌, ◌++◌, length, take, drop, Ok, Err, Result, refl, sym, ap, ◌∙◌, subst, inl, inr, arith, length-append, append_assoc}
use Rattle.std.proofs.lemmas.List.{append-nil, drop_at, take-append-drop}
use Rattle.x509_c_calls.specs.ChainWalk.{IsChainLeft, IsNextCertificate}
use Rattle.x509_sct.specs.FieldReading.{counted_at}
use Rattle.x509_sct.specs.Form.{AreOctets, Begins, IsForm, counted}
use Rattle.x509_sct.specs.FormLaws.{counted_lawful}
use Rattle.x509_sct.specs.Numbers.{uint24, uint24_lawful, vector24}
use Rattle.x509_sct.specs.Outcome.{IsRefusal}
use Rattle.x509_sct.specs.Uniqueness.{one_front}
use Rattle.x509_sct.specs.declared.tls.error.TlsError.{TlsError}
use Rattle.x509_sct.specs.declared.tls.error.TlsError.TheVariants.{EndOfStream}

abbrev pub lawful : IsForm (counted uint24)
lawful = counted_lawful uint24 uint24_lawful

-- ---- the vector at the front of bytes, by reading it

pub is_front : (bytes octets rest : List ℕ) → AreOctets bytes → counted_at uint24.reading bytes ≡ Ok (octets, rest) → Begins (counted uint24) octets rest bytes
is_front bytes octets rest o read = lawful.sound bytes octets rest o read

pub no_front : (bytes octets rest : List ℕ) (e : TlsError) → IsRefusal e (counted_at uint24.reading bytes) → e ≡ EndOfStream → (counted uint24).good octets
    → bytes ≡ (counted uint24).bytes octets ++ rest → ⊥
no_front bytes octets rest e refused ends good is =
    let read : counted_at uint24.reading bytes ≡ Err EndOfStream = subst (λ (d : TlsError). IsRefusal d (counted_at uint24.reading bytes)) ends refused in
    let ok = ap (λ (b : List ℕ). counted_at uint24.reading b) is ∙ lawful.complete octets rest good in
    let x = sym read ∙ ok in absurd cc

-- ---- a place in a chain

module _ (bytes left : List ℕ) (at : ℕ) (l : IsChainLeft bytes at left) where
  abbrev all : List ℕ
  all = l.passed ++ left

  pub is_chain : bytes ≡ (counted uint24).bytes all ++ []
  is_chain = l.whole ∙ sym (append-nil ((counted uint24).bytes all))

  pub same_chain : (list rest : List ℕ) → (counted uint24).good list → bytes ≡ (counted uint24).bytes list ++ rest → (all ≡ list) × ([] ≡ rest)
  same_chain list rest good e = one_front (counted uint24) lawful all list [] rest l.short good (sym is_chain ∙ e)

  chain_len : length bytes ≡ 3 + length all
  chain_len = omega (arith, ap length l.whole, length-append (uint24.bytes (length all)) all)

  pub in_chain : (at ≡ 0) ⊎ ((3 ≤ at) × (at ≤ length bytes))
  in_chain = elim l.place [
    | inl begin ↦ inl begin.0
    | inr place ↦ inr (omega (arith, chain_len, place, length-append l.passed left), omega (arith, place))
  ]

  pub not_in_chain : (at ≡ 0 → ⊥) → (at < 3) ⊎ (length bytes < at) → ⊥
  not_in_chain some out = elim in_chain [
    | inl zero ↦ some zero
    | inr within ↦ elim out [ inl low ↦ absurd (omega (arith, within.0, low)) | inr high ↦ absurd (omega (arith, within.1, high)) ]
  ]

pub whole_chain : (bytes list rest : List ℕ) → bytes ≡ (counted uint24).bytes list ++ rest → rest ≡ [] → bytes ≡ (counted uint24).bytes list
whole_chain bytes list rest e none = e ∙ ap (λ (x : List ℕ). (counted uint24).bytes list ++ x) none ∙ append-nil ((counted uint24).bytes list)

pub list_len : (bytes list : List ℕ) → bytes ≡ (counted uint24).bytes list → length bytes ≡ 3 + length list
list_len bytes list e = omega (arith, ap length e, length-append (uint24.bytes (length list)) list)

pub from_the_place : (bytes list back : List ℕ) (at n : ℕ) → bytes ≡ (counted uint24).bytes list → (counted uint24).good list → back ≡ drop n list → at + length back ≡ length bytes
    → IsChainLeft bytes at back
from_the_place bytes list back at n e good is place =
    let whole : list ≡ take n list ++ back = sym (ap (λ (x : List ℕ). take n list ++ x) is ∙ take-append-drop n list) in
    record { passed = take n list; whole = e ∙ ap (λ (x : List ℕ). (counted uint24).bytes x) whole; short = rw (sym whole) good; place = inr place }

pub from_the_begin : (bytes list : List ℕ) (at : ℕ) → bytes ≡ (counted uint24).bytes list → (counted uint24).good list → at ≡ 0 → IsChainLeft bytes at list
from_the_begin bytes list at e good zero = record { passed = []; whole = e; short = good; place = inl (zero, refl) }

-- ---- the certificate at the front of what is left

module _ (bytes left : List ℕ) (at : ℕ) (l : IsChainLeft bytes at left) (octets more : List ℕ) (good : vector24.good octets) (e : left ≡ vector24.bytes octets ++ more) where
  abbrev front : List ℕ
  front = uint24.bytes (length (l.passed ++ left)) ++ (l.passed ++ uint24.bytes (length octets))

  split : bytes ≡ front ++ (octets ++ more)
  split = l.whole ∙ again
    where
      again : (counted uint24).bytes (l.passed ++ left) ≡ front ++ (octets ++ more)
      again = ap (λ (x : List ℕ). uint24.bytes (length (l.passed ++ left)) ++ (l.passed ++ x)) e ∙ simp append_assoc refl

  total : length bytes ≡ length front + (length octets + length more)
  total = omega (arith, ap length split, length-append front (octets ++ more), length-append octets more)

  pub more_fits : length more ≤ length bytes
  more_fits = omega (arith, total)

  pub octets_fit : length octets ≤ length bytes - length more
  octets_fit = omega (arith, total)

  pub is_next : IsNextCertificate bytes at (length bytes - length more) octets more (record { place = length bytes - length more - length octets; len = length octets })
  is_next = record {
    left = rw (sym e) l;
    good = good;
    stands = (ap (drop (length bytes - length more - length octets)) split ∙ drop_at front (octets ++ more) (length bytes - length more - length octets) (omega (arith, total)), refl, omega (arith, total));
    behind = omega (arith, total);
  }

-- ---- where no certificate stands

pub no_octets_first : (octets octets2 rest rest2 : List ℕ) → (counted uint24).good octets → octets ≡ [] → vector24.good octets2
    → (counted uint24).bytes octets ++ rest ≡ vector24.bytes octets2 ++ rest2 → ⊥
no_octets_first octets octets2 rest rest2 good none filled e =
    let same = one_front (counted uint24) lawful octets octets2 rest rest2 good filled.1 e in
    let len : length octets2 ≡ 0 = ap length (sym same.0 ∙ none) in
    absurd (omega (arith, len, filled.0))
