-- Runs of characters that stand for themselves: where they end, and that they are shown as they are.
use Rattle.std.proofs.Common.{◌≡◌, ◌<◌, ◌≤◌, ◌+◌, ◌/◌, ◌%◌, ℕ, suc, Bool, true, false, ltb, List, [], ◌∷◌, ◌++◌, length, take, drop, refl, sym, ap, ◌∙◌, inl, inr, arith, append_assoc, append-nil, length-append}
use Rattle.std.specs.Prelude.{slice_index}
use Rattle.std.specs.Char.{encode_utf8}
use Rattle.std.specs.List.{flat_map}
use Rattle.std.specs.Str.{IsUtf8, IsCharBoundary}
use Rattle.std.proofs.Math.Seq.{take-append-add, drop-append-add}
use Rattle.std.proofs.Math.Utf8.{scalar, scalars, encodes}
use Rattle.std.proofs.lemmas.Bool.{cases_Bool, and_parts, ltb-true, ltb-false}
use Rattle.std.proofs.lemmas.Bool.Decides.{nat_tests}
use Rattle.std.proofs.lemmas.Str.{length-encode, len_utf8_bounds, chars-nil, chars_past_char}
use Rattle.x509_text.specs.declared.line.Style.{Style}
use Rattle.x509_text.specs.declared.line.Style.TheVariants.{Text, Json}
use Rattle.x509_text.specs.Lines.{is_hidden, is_quoted, shown_char, shown}
use Rattle.x509_text.specs.Runs.{ends_run, run_len}

-- ---- bytes

-- a run ends in front of a whole character
end_is_lead : (style : Style) (first second third : ℕ) → ends_run style first second third ≡ true → 128 ≤ first → 192 ≤ first
unfolding ends_run
end_is_lead Text first second third ends beyond = grind (arith, nat_tests)
end_is_lead Json first second third ends beyond = grind (arith, nat_tests)

-- and goes on within one
within : (style : Style) (first second third : ℕ) → 128 ≤ first → first < 192 → ends_run style first second third ≡ false
unfolding ends_run
within Text first second third ge lt = grind (arith, nat_tests)
within Json first second third ge lt = grind (arith, nat_tests)

pub run_nothing : (style : Style) → run_len style [] ≡ 0
unfolding run_len
run_nothing style = refl

pub run_ended : (style : Style) (byte : ℕ) (bytes : List ℕ) → ends_run style byte (slice_index bytes 0) (slice_index bytes 1) ≡ true → run_len style (byte ∷ bytes) ≡ 0
unfolding run_len
run_ended style byte bytes ends = rw ends refl

pub run_goes_on : (style : Style) (byte : ℕ) (bytes : List ℕ) → ends_run style byte (slice_index bytes 0) (slice_index bytes 1) ≡ false → run_len style (byte ∷ bytes) ≡ suc (run_len style bytes)
unfolding run_len
run_goes_on style byte bytes more = rw more refl

run_within : (style : Style) (byte : ℕ) (bytes : List ℕ) → 128 ≤ byte → byte < 192 → run_len style (byte ∷ bytes) ≡ suc (run_len style bytes)
run_within style byte bytes ge lt = run_goes_on style byte bytes (within style byte (slice_index bytes 0) (slice_index bytes 1) ge lt)

pub run_boundary : (style : Style) (bytes : List ℕ) → IsCharBoundary bytes (run_len style bytes)
unfolding run_len
run_boundary style [] = (omega arith, λ lt. absurd (omega arith))
run_boundary style (byte ∷ bytes) =
    elim (cases_Bool (ends_run style byte (slice_index bytes 0) (slice_index bytes 1))) [
      | inl ends ↦ rw ends (omega arith, λ lt beyond. end_is_lead style byte (slice_index bytes 0) (slice_index bytes 1) ends beyond)
      | inr more ↦ let rest = run_boundary style bytes in rw more (omega arith, λ lt. rest.1 (omega arith))
    ]

-- ---- characters

encode_one : (c : ℕ) → ltb c 128 ≡ true → encode_utf8 c ≡ c ∷ []
unfolding encode_utf8
encode_one c one = rw one refl

encode_two : (c : ℕ) → ltb c 128 ≡ false → ltb c 2048 ≡ true → encode_utf8 c ≡ (192 + c / 64) ∷ (128 + c % 64) ∷ []
unfolding encode_utf8
encode_two c one two = rw (one, two) refl

encode_three : (c : ℕ) → ltb c 128 ≡ false → ltb c 2048 ≡ false → ltb c 65536 ≡ true → encode_utf8 c ≡ (224 + c / 4096) ∷ (128 + c / 64 % 64) ∷ (128 + c % 64) ∷ []
unfolding encode_utf8
encode_three c one two three = rw (one, two, three) refl

encode_four : (c : ℕ) → ltb c 128 ≡ false → ltb c 2048 ≡ false → ltb c 65536 ≡ false → encode_utf8 c ≡ (240 + c / 262144) ∷ (128 + c / 4096 % 64) ∷ (128 + c / 64 % 64) ∷ (128 + c % 64) ∷ []
unfolding encode_utf8
encode_four c one two three = rw (one, two, three) refl

-- a character that is neither hidden nor quoted stands for itself
shown_plain : (style : Style) (c : ℕ) → is_hidden c ≡ false → is_quoted style c ≡ false → shown_char style c ≡ encode_utf8 c
unfolding shown_char
shown_plain style c plain bare = rw (plain, bare) refl

bare_beyond : (style : Style) (c : ℕ) → 128 ≤ c → is_quoted style c ≡ false
bare_beyond Text c ge = refl
bare_beyond Json c ge = grind (arith, nat_tests)

plain_one : (style : Style) (c second third : ℕ) → c < 128 → ends_run style c second third ≡ false → (is_hidden c ≡ false) × (is_quoted style c ≡ false)
unfolding ends_run
plain_one Text c second third lt more = (grind (arith, nat_tests), refl)
plain_one Json c second third lt more = (grind (arith, nat_tests), grind (arith, nat_tests))

plain_two : (style : Style) (c third : ℕ) → 128 ≤ c → c < 2048 → ends_run style (192 + c / 64) (128 + c % 64) third ≡ false → is_hidden c ≡ false
unfolding ends_run is_hidden
plain_two style c third ge lt more = grind (arith, nat_tests)

plain_three : (style : Style) (c : ℕ) → 2048 ≤ c → c < 65536 → ends_run style (224 + c / 4096) (128 + c / 64 % 64) (128 + c % 64) ≡ false → is_hidden c ≡ false
unfolding ends_run is_hidden
plain_three style c ge lt more = grind (arith, nat_tests)

plain_four : (c : ℕ) → 65536 ≤ c → is_hidden c ≡ false
unfolding is_hidden
plain_four c ge = grind (arith, nat_tests)

-- what holds of a character that a run goes on over
abbrev OfRun : Style → ℕ → List ℕ → List ℕ → Type 0
OfRun style c first rest = (run_len style (first ++ rest) ≡ length first + run_len style rest) × (shown_char style c ≡ first)

abbrev ends_at : Style → List ℕ → Bool
ends_at style bytes = ends_run style (slice_index bytes 0) (slice_index bytes 1) (slice_index bytes 2)

over_two : (style : Style) (c : ℕ) (rest : List ℕ) → 128 ≤ c → c < 2048 → encode_utf8 c ≡ (192 + c / 64) ∷ (128 + c % 64) ∷ []
    → ends_at style ((192 + c / 64) ∷ (128 + c % 64) ∷ rest) ≡ false → OfRun style c ((192 + c / 64) ∷ (128 + c % 64) ∷ []) rest
over_two style c rest ge lt is more = (
  run_goes_on style (192 + c / 64) ((128 + c % 64) ∷ rest) more
      ∙ ap suc (run_within style (128 + c % 64) rest (omega arith) (omega arith))
      ∙ omega arith,
  shown_plain style c (plain_two style c (slice_index rest 0) ge lt more) (bare_beyond style c ge) ∙ is,
)

over_one : (style : Style) (c : ℕ) (rest : List ℕ) → c < 128 → encode_utf8 c ≡ c ∷ [] → ends_at style (c ∷ rest) ≡ false → OfRun style c (c ∷ []) rest
over_one style c rest lt is more =
    let plain = plain_one style c (slice_index rest 0) (slice_index rest 1) lt more in
    (run_goes_on style c rest more ∙ omega arith, shown_plain style c plain.0 plain.1 ∙ is)

over_three : (style : Style) (c : ℕ) (rest : List ℕ) → 2048 ≤ c → c < 65536 → encode_utf8 c ≡ (224 + c / 4096) ∷ (128 + c / 64 % 64) ∷ (128 + c % 64) ∷ []
    → ends_at style ((224 + c / 4096) ∷ (128 + c / 64 % 64) ∷ (128 + c % 64) ∷ rest) ≡ false
    → OfRun style c ((224 + c / 4096) ∷ (128 + c / 64 % 64) ∷ (128 + c % 64) ∷ []) rest
over_three style c rest ge lt is more = (
  run_goes_on style (224 + c / 4096) ((128 + c / 64 % 64) ∷ (128 + c % 64) ∷ rest) more
      ∙ ap suc (run_within style (128 + c / 64 % 64) ((128 + c % 64) ∷ rest) (omega arith) (omega arith)
      ∙ ap suc (run_within style (128 + c % 64) rest (omega arith) (omega arith)))
      ∙ omega arith,
  shown_plain style c (plain_three style c ge lt more) (bare_beyond style c (omega arith)) ∙ is,
)

over_four : (style : Style) (c : ℕ) (rest : List ℕ) → 65536 ≤ c → encode_utf8 c ≡ (240 + c / 262144) ∷ (128 + c / 4096 % 64) ∷ (128 + c / 64 % 64) ∷ (128 + c % 64) ∷ []
    → ends_at style ((240 + c / 262144) ∷ (128 + c / 4096 % 64) ∷ (128 + c / 64 % 64) ∷ (128 + c % 64) ∷ rest) ≡ false
    → OfRun style c ((240 + c / 262144) ∷ (128 + c / 4096 % 64) ∷ (128 + c / 64 % 64) ∷ (128 + c % 64) ∷ []) rest
over_four style c rest ge is more = (
  run_goes_on style (240 + c / 262144) ((128 + c / 4096 % 64) ∷ (128 + c / 64 % 64) ∷ (128 + c % 64) ∷ rest) more
      ∙ ap suc (run_within style (128 + c / 4096 % 64) ((128 + c / 64 % 64) ∷ (128 + c % 64) ∷ rest) (omega arith) (omega arith)
      ∙ ap suc (run_within style (128 + c / 64 % 64) ((128 + c % 64) ∷ rest) (omega arith) (omega arith)
      ∙ ap suc (run_within style (128 + c % 64) rest (omega arith) (omega arith))))
      ∙ omega arith,
  shown_plain style c (plain_four c ge) (bare_beyond style c (omega arith)) ∙ is,
)

-- a run goes on over a whole character, which stands for itself
run_over : (style : Style) (c : ℕ) (rest : List ℕ) → ends_at style (encode_utf8 c ++ rest) ≡ false → OfRun style c (encode_utf8 c) rest
run_over style c rest more =
    elim (cases_Bool (ltb c 128)) [
      | inl one ↦ let is = encode_one c one in rw is (over_one style c rest (ltb-true c 128 one) is (rw is at more))
      | inr one ↦ elim (cases_Bool (ltb c 2048)) [
        | inl two ↦ let is = encode_two c one two in rw is (over_two style c rest (ltb-false c 128 one) (ltb-true c 2048 two) is (rw is at more))
        | inr two ↦ elim (cases_Bool (ltb c 65536)) [
          | inl three ↦ let is = encode_three c one two three in rw is (over_three style c rest (ltb-false c 2048 two) (ltb-true c 65536 three) is (rw is at more))
          | inr three ↦ let is = encode_four c one two three in rw is (over_four style c rest (ltb-false c 65536 three) is (rw is at more))
        ]
      ]
    ]

run_none : (style : Style) (bytes : List ℕ) → ends_at style bytes ≡ true → run_len style bytes ≡ 0
unfolding run_len
run_none style [] ends = refl
run_none style (byte ∷ bytes) ends = rw ends refl

-- the first character of a text
pub shown_first : (style : Style) (c : ℕ) (bytes rest : List ℕ) → IsUtf8 bytes → bytes ≡ encode_utf8 c ++ rest → shown style bytes ≡ shown_char style c ++ shown style rest
unfolding shown
shown_first style c bytes rest utf8 is = ap (flat_map (shown_char style)) (chars_past_char bytes rest c utf8 is)

-- a text is shown as its run, and what is shown of the rest
abbrev ByRun : Style → List ℕ → Type 0
ByRun style bytes = shown style bytes ≡ take (run_len style bytes) bytes ++ shown style (drop (run_len style bytes) bytes)

over_more : (style : Style) (c : ℕ) (rest : List ℕ) → IsUtf8 (encode_utf8 c ++ rest) → OfRun style c (encode_utf8 c) rest → ByRun style rest → ByRun style (encode_utf8 c ++ rest)
over_more style c rest utf8 over so =
    let first : List ℕ = encode_utf8 c in
    let len : ℕ = run_len style rest in
    rw (over.0, take-append-add first rest len, drop-append-add first rest len)
    (shown_first style c (first ++ rest) rest utf8 refl
    ∙ ap (λ (t : List ℕ). t ++ shown style rest) over.1
    ∙ ap (λ (t : List ℕ). first ++ t) so
    ∙ sym (append_assoc first (take len rest) (shown style (drop len rest))))

shown_run_of : (style : Style) (cs : List ℕ) → scalars cs ≡ true → ByRun style (encodes cs)
unfolding run_len
shown_run_of style [] all = refl
shown_run_of style (c ∷ cs) all =
    let rest : List ℕ = encodes cs in
    elim (cases_Bool (ends_at style (encode_utf8 c ++ rest))) [
      | inl ends ↦ rw (run_none style (encode_utf8 c ++ rest) ends) refl
      | inr more ↦ over_more style c rest (c ∷ cs, (all, refl)) (run_over style c rest more) (shown_run_of style cs (and_parts (scalar c) (scalars cs) all).1)
    ]

pub shown_run : (style : Style) (bytes : List ℕ) → IsUtf8 bytes → ByRun style bytes
shown_run style bytes utf8 = rw (← utf8.1.1) (shown_run_of style utf8.0 utf8.1.0)

-- ---- what is written

shown_nothing : (style : Style) (bytes : List ℕ) → length bytes ≡ 0 → shown style bytes ≡ []
unfolding shown
shown_nothing style [] none = rw chars-nil refl
shown_nothing style (byte ∷ bytes) none = absurd (omega arith)

pub written_all : (style : Style) (before rest whole : List ℕ) → length rest ≡ 0 → before ++ shown style rest ≡ whole → before ≡ whole
written_all style before rest whole none so_far = sym (append-nil before) ∙ ap (λ (t : List ℕ). before ++ t) (sym (shown_nothing style rest none)) ∙ so_far

-- a character is written, and the rest is left
pub char_written : (style : Style) (c : ℕ) (before out bytes rest whole : List ℕ) → IsUtf8 bytes → bytes ≡ encode_utf8 c ++ rest → before ++ shown style bytes ≡ whole → out ≡ before ++ shown_char style c → out ++ shown style rest ≡ whole
char_written style c before out bytes rest whole utf8 is so_far written =
    ap (λ (t : List ℕ). t ++ shown style rest) written
    ∙ append_assoc before (shown_char style c) (shown style rest)
    ∙ ap (λ (t : List ℕ). before ++ t) (sym (shown_first style c bytes rest utf8 is))
    ∙ so_far

pub char_shorter : (c : ℕ) (bytes rest : List ℕ) → bytes ≡ encode_utf8 c ++ rest → length rest < length bytes
char_shorter c bytes rest is = rw is (omega (arith, length-append (encode_utf8 c) rest, length-encode c, len_utf8_bounds c))

module _ (style : Style) (before out rest run others whole : List ℕ) (utf8 : IsUtf8 rest) (front : run ≡ take (run_len style rest) rest) (back : others ≡ drop (run_len style rest) rest) (so_far : before ++ shown style rest ≡ whole) (written : out ≡ before ++ run) where
  -- a run is written, and the others are left
  pub run_written : out ++ shown style others ≡ whole
  run_written =
      ap (λ (t : List ℕ). t ++ shown style others) written
      ∙ append_assoc before run (shown style others)
      ∙ ap (λ (t : List ℕ). before ++ t) (rw (front, back) (sym (shown_run style rest utf8)))
      ∙ so_far

  -- the run is the last of the text
  pub last_run_written : length others ≡ 0 → out ≡ whole
  last_run_written none = written_all style out others whole none run_written
