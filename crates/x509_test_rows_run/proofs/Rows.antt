-- Which lines are rows.
use Rattle.std.proofs.Common.{◌≡◌, ℕ, List, ◌∷◌, ◌++◌, None, sym, ◌∙◌, subst}
use Rattle.std.specs.Str.{IsUtf8}
use Rattle.x509_codec.specs.declared.profile_name.ProfileName.{ProfileName}
use Rattle.x509_codec.specs.ProfileNames.{profile_of}
use Rattle.x509_test_rows_run.specs.Row.{Lacks, IsRow}
use Rattle.x509_test_rows_run.proofs.Bytes.{no_cut, one_cut}

-- a line with no space is no row
pub no_space : (line name text : List ℕ) (profile : ProfileName) → Lacks 32 line → IsRow line name profile text → ⊥
no_space line name text profile lacks h = no_cut 32 line name (h.0 ++ 32 ∷ text) lacks h.1

-- the name of a row, and what follows it
pub row_front : (line n rest name text : List ℕ) (profile : ProfileName) → line ≡ n ++ 32 ∷ rest → Lacks 32 n → (h : IsRow line name profile text) → (n ≡ name) × (rest ≡ h.0 ++ 32 ∷ text)
row_front line n rest name text profile is lacks h = one_cut 32 n rest name (h.0 ++ 32 ∷ text) lacks h.2 (sym is ∙ h.1)

-- a line with one space is no row
pub one_space : (line n rest name text : List ℕ) (profile : ProfileName) → line ≡ n ++ 32 ∷ rest → Lacks 32 n → Lacks 32 rest → IsRow line name profile text → ⊥
one_space line n rest name text profile is lacks none h =
    no_cut 32 rest h.0 text none (row_front line n rest name text profile is lacks h).1

-- a line whose second word names no profile is no row
pub no_profile : (line n rest w t name text : List ℕ) (profile : ProfileName) → line ≡ n ++ 32 ∷ rest → Lacks 32 n → rest ≡ w ++ 32 ∷ t → Lacks 32 w → profile_of w ≡ None → IsRow line name profile text → ⊥
no_profile line n rest w t name text profile is lacks parts none unnamed h =
    let word = one_cut 32 w t h.0 text none h.4 (sym parts ∙ (row_front line n rest name text profile is lacks h).1) in
    let same : profile_of h.0 ≡ None = subst (λ x. profile_of x ≡ None) word.0 unnamed in
    let named = h.5 in
    absurd (cc)

-- a line whose first word isn't UTF-8 is no row
pub no_name : (line n rest name text : List ℕ) (profile : ProfileName) → line ≡ n ++ 32 ∷ rest → Lacks 32 n → (IsUtf8 n → ⊥) → IsRow line name profile text → ⊥
no_name line n rest name text profile is lacks bad h =
    bad (subst IsUtf8 (sym (row_front line n rest name text profile is lacks h).0) h.3)
