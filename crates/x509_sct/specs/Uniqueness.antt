-- What the laws of a form say of inputs: one value or one fault.
use Rattle.std.proofs.Common.{◌≡◌, ℕ, ◌⊎◌, inl, inr, List, ◌++◌, Result, Ok, Err, refl, sym, ap, ◌∙◌}
use Rattle.x509_sct.specs.declared.tls.error.TlsError.{TlsError}
use Rattle.x509_sct.specs.Form.{Form, AreOctets, Begins, IsForm}
use Rattle.x509_sct.specs.Steps.{made, ok_is, err_is, not_refused}

pub one_front : {X : Type 0} (form : Form X) → IsForm form → (v w : X) (x y : List ℕ) → form.good v → form.good w → form.bytes v ++ x ≡ form.bytes w ++ y → (v ≡ w) × (x ≡ y)
one_front {X} form h v w x y gv gw same =
    let both : made (v, x) ≡ made (w, y) = sym (h.complete v x gv) ∙ ap form.reading same ∙ h.complete w y gw in
    let s = ok_is (v, x) (w, y) both in
    (ap (λ (z : X × List ℕ). z.0) s, ap (λ (z : X × List ℕ). z.1) s)

pub no_fault_in_front : {X : Type 0} (form : Form X) → IsForm form → (input : List ℕ) (v : X) (rest : List ℕ) (e : TlsError) → Begins form v rest input → form.fault input e → ⊥
no_fault_in_front form h input v rest e b f = not_refused (v, rest) e (sym (h.complete v rest b.0) ∙ ap form.reading (sym b.1) ∙ h.first input e f)

pub one_fault : {X : Type 0} (form : Form X) → IsForm form → (input : List ℕ) (d e : TlsError) → form.fault input d → form.fault input e → d ≡ e
one_fault form h input d e p q = err_is (form.reading input) d e (h.first input d p) (h.first input e q)

either_read : {X : Type 0} (form : Form X) → IsForm form → (input : List ℕ) → AreOctets input → (r : Result (X × List ℕ) TlsError) → form.reading input ≡ r
    → ((x : X × List ℕ) × Begins form x.0 x.1 input) ⊎ ((e : TlsError) × form.fault input e)
either_read form h input o (Ok x) r = inl (x, h.sound input x.0 x.1 o r)
either_read form h input o (Err e) r = inr (e, h.faulty input e o r)

pub value_or_fault : {X : Type 0} (form : Form X) → IsForm form → (input : List ℕ) → AreOctets input → ((x : X × List ℕ) × Begins form x.0 x.1 input) ⊎ ((e : TlsError) × form.fault input e)
value_or_fault form h input o = either_read form h input o (form.reading input) refl
