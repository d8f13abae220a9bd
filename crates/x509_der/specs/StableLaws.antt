-- What is written once more is as it was, where it is so of the one field that is respelled; and where it is so, values
-- that are written alike are respelled alike.
use Rattle.std.specs.Prelude.{◌≡◌, Option, Some, None, IfSome, refl}
use Rattle.std.proofs.Common.{sym, ◌∙◌}
use Rattle.x509_der.specs.declared.error.ErrorKind.{ErrorKind}
use Rattle.x509_der.specs.Form.{Form, IsForm, spelling}
use Rattle.x509_der.specs.SpellingLaws.{one_spelled}
use Rattle.x509_der.specs.Writing.{Writing, plain, respelling, writes, with_field, in_option, first, IsStable, RespellsAlike}

-- where neither of two is refused
pub first_none : (p q : Option ErrorKind) → first p q ≡ None → (p ≡ None) × (q ≡ None)
first_none None q e = (refl, e)
first_none (Some k) q e = absurd cc

pub plain_stable : {X : Type 0} {good : X → Type 0} → IsStable good plain
plain_stable = record { kept = λ value g free. g; again = λ value g free. refl }

-- A struct with one field of its own writing: put changes that field alone, and any good field is good there.
pub with_field_stable : {X Y : Type 0} {good : X → Type 0} {field_good : Y → Type 0} (get : X → Y) (put : X → Y → X) (writing : Writing Y)
    → ((x : X) (y : Y) → get (put x y) ≡ y)
    → ((x : X) (y z : Y) → put (put x y) z ≡ put x z)
    → ((x : X) → good x → field_good (get x))
    → ((x : X) (y : Y) → good x → field_good y → good (put x y))
    → IsStable field_good writing → IsStable good (with_field get put writing)
with_field_stable get put plain got last field whole stable = plain_stable
with_field_stable get put (respelling by) got last field whole stable = record {
  kept = λ x g free. whole x (by (get x)).value g (stable.kept (get x) (field x g) free);
  again = λ x g free.
      let y = (by (get x)).value in
      rw (got x y, stable.again (get x) (field x g) free, last x y y) refl;
}

kept_in_option : {X : Type 0} (good : X → Type 0) (writing : Writing X) → IsStable good writing → (value : Option X) → IfSome value good → (writes (in_option writing) value).refusal ≡ None → IfSome (writes (in_option writing) value).value good
kept_in_option good plain stable value g free = g
kept_in_option good (respelling by) stable None g free = tt
kept_in_option good (respelling by) stable (Some x) g free = stable.kept x g free

again_in_option : {X : Type 0} (good : X → Type 0) (writing : Writing X) → IsStable good writing → (value : Option X) → IfSome value good → (writes (in_option writing) value).refusal ≡ None → writes (in_option writing) (writes (in_option writing) value).value ≡ record { value = (writes (in_option writing) value).value; refusal = None }
again_in_option good plain stable value g free = refl
again_in_option good (respelling by) stable None g free = refl
again_in_option good (respelling by) stable (Some x) g free = rw (stable.again x g free) refl

-- a value that may be left out
pub in_option_stable : {X : Type 0} {good : X → Type 0} (writing : Writing X) → IsStable good writing → IsStable (λ (value : Option X). IfSome value good) (in_option writing)
in_option_stable {X} {good} writing stable = record { kept = kept_in_option good writing stable; again = again_in_option good writing stable }

-- ---- values that are written alike

-- of a form that spells each value as a lawful one does, and may call fewer of them good
pub spelled_alike : {X : Type 0} {R : ErrorKind → Type 0} (f g : Form X) → IsForm R g → ((v : X) → spelling f v ≡ spelling g v) → (writing : Writing X) → IsStable g.good writing → RespellsAlike f g.good writing
spelled_alike f g h same writing stable v w a b free clear e =
    one_spelled g h _ _ (stable.kept v a free) (stable.kept w b clear) (sym (same (writes writing v).value) ∙ e ∙ same (writes writing w).value)
