use Rattle.std.proofs.Common.{◌≡◌, true, inl, inr}
use Rattle.std.specs.Prelude.{bytes_eq}
use Rattle.std.proofs.lemmas.Bool.{cases_Bool}
use Rattle.std.proofs.lemmas.Slice.Eq.{bytes_eq-Decides}
use Rattle.x509_check.proofs.lent.extension.is_same.Goals as goal

pub returns-then-not-is_like : goal.returns-then-not-is_like
returns-then-not-is_like c =
    elim (cases_Bool (bytes_eq c.args.one.now c.args.other.now)) [
      | inl same ↦ let like : c.is_like.result ≡ true = c.is_like.ensures ((bytes_eq-Decides c.args.one.now c.args.other.now).0 same) in cc
      | inr differ ↦ cc
    ]
