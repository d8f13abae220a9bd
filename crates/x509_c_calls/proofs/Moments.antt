-- The texts of moments are UTF-8.
use Rattle.std.proofs.Common.{◌≡◌, ◌<◌, ◌∙◌, ℕ, false, List, sym, subst, arith}
use Rattle.std.proofs.lemmas.List.Elements.{All-from_recursion}
use Rattle.std.proofs.lemmas.Str.{IsUtf8-from_ascii}
use Rattle.std.proofs.lemmas.Str.Ascii.{IsAscii-from_all}
use Rattle.std.specs.List.{AllByRecursion}
use Rattle.std.specs.Str.{IsUtf8, is_utf8}
use Rattle.x509_base.proofs.CalendarLemmas.{days_in_month_bound}
use Rattle.x509_base.specs.CivilTime.{CivilTime, IsDateTime}
use Rattle.x509_base.specs.TimeText.{date_time_text}
use Rattle.x509_c_calls.proofs.NameTexts.{is_text}

abbrev IsLow : ℕ → Type 0
IsLow octet = octet < 128

low : (c : CivilTime) → IsDateTime c → AllByRecursion IsLow (date_time_text c)
unfolding date_time_text
low c good =
    (omega (arith, good.0.1), (omega arith, (omega arith, (omega arith, (omega arith, (omega (arith, good.1.1), (omega arith, (omega arith, (omega (arith, good.2.1, days_in_month_bound c.year c.month), (omega arith, (omega arith, (omega (arith, good.3), (omega arith, (omega arith, (omega (arith, good.4), (omega arith, (omega arith, (omega (arith, good.5), (omega arith, (omega arith, tt))))))))))))))))))))

-- so bytes that aren't are the text of none
pub no_moment : (text : List ℕ) → (IsUtf8 text → ⊥) → (c : CivilTime) → IsDateTime c → text ≡ date_time_text c → ⊥
no_moment text bad c good is = bad (subst IsUtf8 (sym is) (IsUtf8-from_ascii (date_time_text c) (IsAscii-from_all (date_time_text c) (All-from_recursion IsLow (date_time_text c) (low c good)))))

pub no_text : {Q : Type 0} (text : List ℕ) → is_utf8 text ≡ false → IsUtf8 text → Q
no_text text bad is = let k = sym (is_text text is) ∙ bad in absurd (let j = k in cc)
