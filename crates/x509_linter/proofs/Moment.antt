-- The moment that a text names is the one that is read of it.
use Rattle.std.proofs.Common.{◌≡◌, ℕ, List, Some, None, Ok, Err, ◌&&◌, bytes_eq, refl, sym, ap, ◌∙◌, inl, inr}
use Rattle.std.proofs.lemmas.Bool.{cases_Bool, and_parts}
use Rattle.std.proofs.lemmas.Slice.Eq.{bytes_eq-Decides}
use Rattle.x509_base.specs.CivilTime.{CivilTime, IsDateTime}
use Rattle.x509_base.specs.TimeLaws.{is_date_time-Decides, named_by_text-text}
use Rattle.x509_base.specs.TimeReading.{Reads, is_date_time, named_by_text}
use Rattle.x509_base.specs.TimeText.{date_time_text}
use Rattle.x509_der.specs.declared.error.Error.{Error}
use Rattle.x509_der.specs.declared.error.ErrorKind.TheVariants.{Failed}
use Rattle.x509_linter.specs.Linter.{date_time_named, date_time_with}

named : (text : List ℕ) (m : CivilTime) → IsDateTime m → text ≡ date_time_text m → date_time_with text m ≡ Some m
named text m h e = rw ((is_date_time-Decides m).1 h, (bytes_eq-Decides (date_time_text m) text).1 (sym e)) refl

unnamed : (text : List ℕ) (m : CivilTime) → (IsDateTime m → text ≡ date_time_text m → ⊥) → date_time_with text m ≡ None
unnamed text m bad =
    elim (cases_Bool (is_date_time m && bytes_eq (date_time_text m) text)) [
      | inl good ↦
          let parts = and_parts (is_date_time m) (bytes_eq (date_time_text m) text) good in
          absurd (bad ((is_date_time-Decides m).0 parts.0) (sym ((bytes_eq-Decides (date_time_text m) text).0 parts.1)))
      | inr other ↦ rw other refl
    ]

pub read : (text : List ℕ) (m : CivilTime) → Reads IsDateTime date_time_text Failed text (Ok m) → date_time_named text ≡ Some m
read text m h =
    let again : named_by_text text ≡ m = ap named_by_text h.found.1 ∙ named_by_text-text m h.found.0 in
    ap (date_time_with text) again ∙ named text m h.found.0 h.found.1

pub unread : (text : List ℕ) (e : Error) → Reads IsDateTime date_time_text Failed text (Err e) → date_time_named text ≡ None
unread text e h =
    unnamed text (named_by_text text) (λ good same. let is = h.every (named_by_text text) good same in absurd cc)
