-- The laws of lists.
use Rattle.std.proofs.Common.{◌≡◌, ℕ, inl, inr, List, [], ◌∷◌, ◌++◌, length, Ok, Err, refl, sym, ap, subst, ◌∙◌}
use Rattle.std.proofs.lemmas.List.{append-nil}
use Rattle.x509_sct.specs.declared.tls.error.TlsError.{TlsError}
use Rattle.x509_sct.specs.declared.tls.error.TlsError.TheVariants.{TrailingData}
use Rattle.x509_sct.specs.Form.{Form, AreOctets, IsForm, counted}
use Rattle.x509_sct.specs.Items.{joined, AreGood}
use Rattle.x509_sct.specs.ItemsLaws.{IsItems}
use Rattle.x509_sct.specs.Lists.{IsList, BodyFault, ListFault, body_reading, list_reading}
use Rattle.x509_sct.specs.AnswerLaws.{IsReading}
use Rattle.x509_sct.specs.Steps.{ok_is, bind_ok, bind_err, octets_behind, octets_front}

body_ok : {X : Type 0} (item : Form X) → IsItems item → (body rest : List ℕ) (vs : List X) → AreOctets body → body_reading item.reading (body, rest) ≡ Ok vs → (rest ≡ []) × (AreGood item vs × (body ≡ joined item vs))
body_ok item h body [] vs o e = (refl, h.sound body vs o e)
body_ok item h body (b ∷ rest) vs o e = absurd (let k = e in cc)

body_err : {X : Type 0} (item : Form X) → IsItems item → (body rest : List ℕ) (e : TlsError) → AreOctets body → body_reading item.reading (body, rest) ≡ Err e → BodyFault item e body rest
body_err item h body [] e o r = h.faulty body e o r
body_err item h body (b ∷ rest) e o r = let k : TrailingData ≡ e = cc in sym k

body_first : {X : Type 0} (item : Form X) → IsItems item → (body rest : List ℕ) (e : TlsError) → BodyFault item e body rest → body_reading item.reading (body, rest) ≡ Err e
body_first item h body [] e f = h.first body e f
body_first item h body (b ∷ rest) e f = rw f refl

list_sound : {X : Type 0} (count : Form ℕ) (item : Form X) → IsForm (counted count) → IsItems item → (input : List ℕ) → AreOctets input → (vs : List X) → list_reading count.reading item.reading input ≡ Ok vs → IsList count item vs input
unfolding list_reading
list_sound {X} count item is h input o vs e =
    let a = bind_ok ((counted count).reading input) (body_reading item.reading) vs e in
    let s = is.sound input a.0.0 a.0.1 o a.1 in
    let front : input ≡ (count.bytes (length a.0.0) ++ a.0.0) ++ a.0.1 = s.1 in
    let ob : AreOctets a.0.0 = octets_behind (count.bytes (length a.0.0)) a.0.0 (octets_front (count.bytes (length a.0.0) ++ a.0.0) a.0.1 (subst AreOctets s.1 o)) in
    let b = body_ok item h a.0.0 a.0.1 vs ob a.2 in
    let whole : input ≡ count.bytes (length a.0.0) ++ a.0.0 = front ∙ rw b.0 (append-nil (count.bytes (length a.0.0) ++ a.0.0)) in
    let body : a.0.0 ≡ joined item vs = b.1.1 in
    (b.1.0, (rw (← body) s.0, rw (← body) whole))

pub list_complete : {X : Type 0} (count : Form ℕ) (item : Form X) → IsForm (counted count) → IsItems item → (input : List ℕ) (vs : List X) → IsList count item vs input → list_reading count.reading item.reading input ≡ Ok vs
unfolding list_reading
list_complete {X} count item is h input vs t =
    let d : (counted count).reading input ≡ Ok (joined item vs, []) = ap (counted count).reading (t.1.1 ∙ sym (append-nil (count.bytes (length (joined item vs)) ++ joined item vs))) ∙ is.complete (joined item vs) [] t.1.0 in
    rw d (h.complete vs t.0)

pub one_list : {X : Type 0} (count : Form ℕ) (item : Form X) → IsForm (counted count) → IsItems item → (vs ws : List X) (input : List ℕ) → IsList count item vs input → IsList count item ws input → vs ≡ ws
one_list count item is h vs ws input s t = ok_is vs ws (sym (list_complete count item is h input vs s) ∙ list_complete count item is h input ws t)

pub list_lawful : {X : Type 0} (count : Form ℕ) (item : Form X) → IsForm (counted count) → IsItems item → (input : List ℕ) → AreOctets input → IsReading (λ vs. IsList count item vs input) (ListFault count item input) (list_reading count.reading item.reading input)
unfolding list_reading
list_lawful {X} count item is h input o = record {
  sound = list_sound count item is h input o;
  complete = list_complete count item is h input;
  faulty = λ e r.
      elim (bind_err ((counted count).reading input) (body_reading item.reading) e r) [
        | inl j ↦ inl (is.faulty input e o j)
        | inr j ↦
            let s = is.sound input j.0.0 j.0.1 o j.1 in
            let ob : AreOctets j.0.0 = octets_behind (count.bytes (length j.0.0)) j.0.0 (octets_front (count.bytes (length j.0.0) ++ j.0.0) j.0.1 (subst AreOctets s.1 o)) in
            inr (record { value = j.0.0; rest = j.0.1; begins = s; behind = body_err item h j.0.0 j.0.1 e ob j.2 })
      ];
  first = λ e. elim [
    | inl j ↦ rw (is.first input e j) refl
    | inr j ↦ rw (j.begins.1, is.complete j.value j.rest j.begins.0) (body_first item h j.value j.rest e j.behind)
  ];
}
