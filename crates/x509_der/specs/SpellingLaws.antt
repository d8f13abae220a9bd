-- No spelling begins another, and none is that of two values.
use Rattle.std.proofs.Common.{Ok, ◌≡◌, ℕ, List, ◌++◌, sym, ap, ◌∙◌}
use Rattle.x509_der.specs.declared.error.ErrorKind.{ErrorKind}
use Rattle.x509_der.specs.Element.{element}
use Rattle.x509_der.specs.FrontLaws.{elements, element_is}
use Rattle.x509_der.specs.OutcomeLaws.{ok_is}
use Rattle.x509_der.specs.Form.{Form, IsForm, spelling, Spells}

pub spellings : {X Y : Type 0} (f : Form X) (g : Form Y) (v : X) (w : Y) (x y : List ℕ) → spelling f v ++ x ≡ spelling g w ++ y → (spelling f v ≡ spelling g w) × (x ≡ y)
spellings f g v w x y e =
    let k = elements (f.tag v) (g.tag w) (f.content v) (g.content w) x y e in
    (ap (λ (t : ℕ). element t (f.content v)) k.0 ∙ ap (λ (c : List ℕ). element (g.tag w) c) k.1, k.2)

pub read_value : {X : Type 0} {R : ErrorKind → Type 0} (f : Form X) → IsForm R f → (t : ℕ) (c : List ℕ) (v : X) → f.good v → element t c ≡ spelling f v → f.reading t c ≡ Ok v
read_value f h t c v g e =
    let k = element_is t (f.tag v) c (f.content v) e in
    ap (λ (u : ℕ). f.reading u c) k.0 ∙ ap (λ (d : List ℕ). f.reading (f.tag v) d) k.1 ∙ h.complete v g

-- no two good values have one element
pub one_spelled : {X : Type 0} {R : ErrorKind → Type 0} (f : Form X) → IsForm R f → (v w : X) → f.good v → f.good w → spelling f v ≡ spelling f w → v ≡ w
one_spelled f h v w g k e = ok_is v w (sym (h.complete v g) ∙ read_value f h (f.tag v) (f.content v) w k e)

pub values : {X : Type 0} {R : ErrorKind → Type 0} (f : Form X) → IsForm R f → (v w : X) (b : List ℕ) → Spells f v b → Spells f w b → v ≡ w
values f h v w b p q = one_spelled f h v w p.0 q.0 (sym p.1 ∙ q.1)
