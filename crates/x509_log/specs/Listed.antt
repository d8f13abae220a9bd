-- A vector of items: how many bytes they have, and the items (RFC 5246 4.3).
use Rattle.std.proofs.Common.{◌≡◌, ℕ, ◌⊎◌, inl, inr, List, ◌++◌, length, Result, Ok, refl, subst}
use Rattle.x509_sct.specs.FieldReading.{Reading, counted_at}
use Rattle.x509_sct.specs.Form.{Form, AreOctets, Behind, IsForm, counted}
use Rattle.x509_sct.specs.Items.{AreGood, ItemsFault, items_reading, joined}
use Rattle.x509_sct.specs.ItemsLaws.{IsItems}
use Rattle.x509_sct.specs.Outcome.{◌>>=◌}
use Rattle.x509_sct.specs.Steps.{bind_err, bind_ok, octets_behind, octets_front, ok_is}
use Rattle.x509_sct.specs.declared.tls.error.TlsError.{TlsError}

abbrev pub items_of : {X : Type 0} → Reading X → List ℕ × List ℕ → Result (List X × List ℕ) TlsError
items_of read x = items_reading read x.0 >>= λ xs. Ok (xs, x.1)

unfoldable pub listed_at : {X : Type 0} → Reading ℕ → Reading X → Reading (List X)
listed_at count read input = counted_at count input >>= items_of read

-- T<..>: the items in a vector
abbrev pub listed : {X : Type 0} → Form ℕ → Form X → Form (List X)
listed count item = record {
  bytes = λ values. (counted count).bytes (joined item values);
  good = λ values. AreGood item values × (counted count).good (joined item values);
  fault = λ input e. (counted count).fault input e ⊎ Behind (counted count) (λ body rest. ItemsFault item body e) input;
  reading = listed_at count.reading item.reading;
}

pub octets_of : (count : Form ℕ) (input body rest : List ℕ) → input ≡ (count.bytes (length body) ++ body) ++ rest → AreOctets input → AreOctets body
octets_of count input body rest is o = octets_behind (count.bytes (length body)) body (octets_front (count.bytes (length body) ++ body) rest (subst AreOctets is o))

pub listed_lawful : {X : Type 0} (count : Form ℕ) (item : Form X) → IsForm (counted count) → IsItems item → IsForm (listed count item)
unfolding listed_at
listed_lawful {X} count item is h = record {
  sound = λ input values rest o e.
      let a = bind_ok ((counted count).reading input) (items_of item.reading) (values, rest) e in
      let s = is.sound input a.0.0 a.0.1 o a.1 in
      let b = bind_ok (items_reading item.reading a.0.0) (λ xs. Ok (xs, a.0.1)) (values, rest) a.2 in
      let t = h.sound a.0.0 b.0 (octets_of count input a.0.0 a.0.1 s.1 o) b.1 in
      let body : a.0.0 ≡ joined item b.0 = t.1 in
      subst (λ (y : List X × List ℕ). (AreGood item y.0 × count.good (length (joined item y.0))) × (input ≡ (count.bytes (length (joined item y.0)) ++ joined item y.0) ++ y.1)) (ok_is (b.0, a.0.1) (values, rest) b.2)
      (subst (λ (o : List ℕ). (AreGood item b.0 × count.good (length o)) × (input ≡ (count.bytes (length o) ++ o) ++ a.0.1)) body ((t.0, s.0), s.1));
  complete = λ values rest good. rw (is.complete (joined item values) rest good.1, h.complete values good.0) refl;
  faulty = λ input e o r.
      elim (bind_err ((counted count).reading input) (items_of item.reading) e r) [
        | inl j ↦ inl (is.faulty input e o j)
        | inr j ↦
            let s = is.sound input j.0.0 j.0.1 o j.1 in
            elim (bind_err (items_reading item.reading j.0.0) (λ xs. Ok (xs, j.0.1)) e j.2) [
              | inl k ↦ inr (record { value = j.0.0; rest = j.0.1; begins = s; behind = h.faulty j.0.0 e (octets_of count input j.0.0 j.0.1 s.1 o) k })
              | inr k ↦ absurd (let x = k.2 in cc)
            ]
      ];
  first = λ input e. elim [
    | inl j ↦ rw (is.first input e j) refl
    | inr j ↦ rw (j.begins.1, is.complete j.value j.rest j.begins.0, h.first j.value e j.behind) refl
  ];
}
