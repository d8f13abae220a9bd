-- Bytes that are tested together: a mask over them, and a run that goes on behind them.
use Rattle.std.proofs.Common.{◌≡◌, ◌<◌, ◌≤◌, ◌+◌, ◌-◌, ◌%◌, ◌^◌, ℕ, zero, suc, Bool, true, false, cond, ltb, eqb, List, [], ◌∷◌, length, take, drop, take_all, length-drop, get_or, map, replicate, Fits, w8, refl, sym, ap, ap₂, ◌∙◌, inl, inr, arith, bit_or}
use Rattle.std.specs.Bool.{OnTrue}
use Rattle.std.specs.Prelude.{slice_index}
use Rattle.std.proofs.lemmas.Bool.{agree_below_at, cases_Bool, eqb-true}
use Rattle.std.proofs.lemmas.Bool.Decides.{nat_tests}
use Rattle.std.proofs.lemmas.List.{length-map, length-take-le, get_or-take, get_or-drop}
use Rattle.std.proofs.lemmas.Simd.{zip2_splat, mask_l-mod, none_from_empty_mask, length-chunk, chunk-fits}
use lib.Lanes.{Each1, zip2, chunk, mask_l, top}
use Rattle.x509_text.specs.declared.line.Style.{Style}
use Rattle.x509_text.specs.declared.line.Style.TheVariants.{Text, Json}
use Rattle.x509_text.specs.Lines.{is_hidden}
use Rattle.x509_text.specs.Runs.{is_special, ends_run, run_len}
use Rattle.x509_text.proofs.Runs.{run_nothing, run_ended, run_goes_on, run_boundary}

-- ---- runs

-- what isn't special stands for itself in both styles
goes_on : (style : Style) (first second third : ℕ) → is_special first ≡ false → ends_run style first second third ≡ false
unfolding ends_run is_hidden
goes_on Text first second third plain = grind (arith, nat_tests)
goes_on Json first second third plain = grind (arith, nat_tests)

pub run_of_plain : (style : Style) (n : ℕ) (bytes : List ℕ) → n ≤ length bytes → ((k : ℕ) → k < n → is_special (get_or bytes k 0) ≡ false) → n ≤ run_len style bytes
run_of_plain style zero bytes room plain = omega arith
run_of_plain style (suc n) [] room plain = absurd (omega arith)
run_of_plain style (suc n) (byte ∷ bytes) room plain =
    let more = run_goes_on style byte bytes (goes_on style byte (slice_index bytes 0) (slice_index bytes 1) (plain 0 (omega arith))) in
    let rest = run_of_plain style n bytes (omega arith) (λ k lt. plain (suc k) (omega arith)) in
    omega arith

run_from : (style : Style) (n : ℕ) (bytes : List ℕ) → n ≤ run_len style bytes → run_len style bytes ≡ n + run_len style (drop n bytes)
run_from style zero bytes within = omega arith
run_from style (suc n) [] within = absurd (omega (arith, run_nothing style))
run_from style (suc n) (byte ∷ bytes) within =
    elim (cases_Bool (ends_run style byte (slice_index bytes 0) (slice_index bytes 1))) [
      | inl ends ↦ absurd (omega (arith, run_ended style byte bytes ends))
      | inr more ↦
          let one = run_goes_on style byte bytes more in
          let rest = run_from style n bytes (omega arith) in
          omega arith
    ]

pub run_bound : (style : Style) (bytes : List ℕ) → run_len style bytes ≤ length bytes
run_bound style bytes = (run_boundary style bytes).0

-- a run that isn't done behind some bytes
pub run_behind : (style : Style) (n : ℕ) (bytes : List ℕ) → n ≤ run_len style bytes → run_len style bytes ≡ n + run_len style (take (length bytes - n) (drop n bytes))
run_behind style n bytes within =
    let all : take (length bytes - n) (drop n bytes) ≡ drop n bytes = take_all (length bytes - n) (drop n bytes) (omega (arith, length-drop n bytes)) in
    rw all (run_from style n bytes within)

pub rest_len : (n : ℕ) (bytes : List ℕ) → n ≤ length bytes → length (take (length bytes - n) (drop n bytes)) ≡ length bytes - n
rest_len n bytes within = length-take-le (length bytes - n) (drop n bytes) (omega (arith, length-drop n bytes))

-- where no byte of the last block is special, a run into it is the whole
pub run_to_end : (style : Style) (at : ℕ) (bytes : List ℕ) → 16 ≤ length bytes → at ≤ run_len style bytes → length bytes < at + 16
    → ((k : ℕ) → k < 16 → is_special (get_or (take (length bytes - (length bytes - 16)) (drop (length bytes - 16) bytes)) k 0) ≡ false) → length bytes ≡ run_len style bytes
run_to_end style at bytes room within last plain =
    let start : ℕ = length bytes - 16 in
    let rest : List ℕ = take (length bytes - at) (drop at bytes) in
    let bound = run_bound style bytes in
    let size : length rest ≡ length bytes - at = rest_len at bytes (omega arith) in
    let all : (k : ℕ) → k < length rest → is_special (get_or rest k 0) ≡ false =
    λ k lt.
    let of_rest : get_or rest k 0 ≡ get_or bytes (at + k) 0 = get_or-take (length bytes - at) (drop at bytes) k 0 (omega arith) ∙ get_or-drop at bytes k 0 in
    let place : start + (at + k - start) ≡ at + k = omega arith in
    let of_block : get_or (take (length bytes - start) (drop start bytes)) (at + k - start) 0 ≡ get_or bytes (at + k) 0 =
    get_or-take (length bytes - start) (drop start bytes) (at + k - start) 0 (omega arith) ∙ get_or-drop start bytes (at + k - start) 0 ∙ ap (λ (n : ℕ). get_or bytes n 0) place in
    ap is_special (of_rest ∙ sym of_block) ∙ plain (at + k - start) (omega arith) in
    let more = run_of_plain style (length rest) rest (omega arith) all in
    let whole = run_behind style at bytes within in
    omega arith

-- ---- masks

abbrev above : ℕ → ℕ → ℕ
above a b = cond (ltb a b) 255 0

abbrev hit : ℕ → ℕ → ℕ
hit a b = cond (eqb a b) 255 0

-- the lanes of the test of a byte
abbrev lane : ℕ → ℕ
lane byte = bit_or (bit_or (above byte 32) (above 126 byte)) (bit_or (hit byte 34) (hit byte 92))

zip_maps : (f g : ℕ → ℕ) (xs : List ℕ) → zip2 bit_or (map f xs) (map g xs) ≡ map (λ x. bit_or (f x) (g x)) xs
zip_maps f g [] = refl
zip_maps f g (x ∷ xs) = ap (λ rest. bit_or (f x) (g x) ∷ rest) (zip_maps f g xs)

either : (f g : ℕ → ℕ) (xs : List ℕ) {a b : List ℕ} → a ≡ map f xs → b ≡ map g xs → zip2 bit_or a b ≡ map (λ x. bit_or (f x) (g x)) xs
either f g xs p q = ap₂ (zip2 bit_or) p q ∙ zip_maps f g xs

splat_first : (h : ℕ → ℕ → ℕ) (xs : List ℕ) (n y : ℕ) → length xs ≡ n → zip2 h (replicate n y) xs ≡ map (h y) xs
splat_first h [] zero y is = refl
splat_first h [] (suc n) y is = absurd (omega arith)
splat_first h (x ∷ xs) zero y is = absurd (omega arith)
splat_first h (x ∷ xs) (suc n) y is = ap (λ rest. h y x ∷ rest) (splat_first h xs n y (omega arith))

special_lane : (byte : ℕ) → byte < 256 → top 7 (lane byte) ≡ is_special byte
special_lane byte small = agree_below_at (λ (b : ℕ). top 7 (lane b)) is_special 256 byte refl small

special_lanes : (xs : List ℕ) → Each1 (Fits w8) xs → map (top 7) (map lane xs) ≡ map is_special xs
special_lanes [] fits = refl
special_lanes (x ∷ xs) fits = ap₂ (λ a b. a ∷ b) (special_lane x fits.0.fits) (special_lanes xs fits.1)

on_true : (b : Bool) (P : Type 0) → (b ≡ true → P) → OnTrue b P
on_true true P f = f refl
on_true false P f = tt

pub plain_block : (bytes : List ℕ) → 16 ≤ length bytes → ((k : ℕ) → Fits w8 (get_or bytes k 0))
    → OnTrue (eqb (mask_l (map (top 7) (zip2 bit_or
    (zip2 bit_or (zip2 above (chunk 0 16 bytes) (replicate 16 32)) (zip2 above (replicate 16 126) (chunk 0 16 bytes)))
    (zip2 bit_or (zip2 hit (chunk 0 16 bytes) (replicate 16 34)) (zip2 hit (chunk 0 16 bytes) (replicate 16 92))))) % 2 ^ 64) 0)
    ((k : ℕ) → k < 16 → is_special (get_or bytes k 0) ≡ false)
plain_block bytes room fits =
    let v : List ℕ = chunk 0 16 bytes in
    let long : length v ≡ 16 = length-chunk 0 16 bytes room in
    let lanes = either (λ x. bit_or (above x 32) (above 126 x)) (λ x. bit_or (hit x 34) (hit x 92)) v
    (either (λ x. above x 32) (above 126) v (zip2_splat above v 16 32 long) (splat_first above v 16 126 long))
    (either (λ x. hit x 34) (λ x. hit x 92) v (zip2_splat hit v 16 34 long) (zip2_splat hit v 16 92 long)) in
    let mask = ap (λ (l : List ℕ). mask_l (map (top 7) l) % 2 ^ 64) lanes
    ∙ ap (λ (l : List Bool). mask_l l % 2 ^ 64) (special_lanes v (chunk-fits w8 0 16 bytes fits))
    ∙ mask_l-mod (map is_special v) 64 (omega (arith, length-map v is_special)) in
    on_true _ ((k : ℕ) → k < 16 → is_special (get_or bytes k 0) ≡ false)
    (λ empty. λ k lt. none_from_empty_mask is_special bytes 0 16 0 room (sym mask ∙ eqb-true _ 0 empty) k (omega arith) lt)
