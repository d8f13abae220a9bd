-- Inputs that are read piece by piece.
use Rattle.std.proofs.Common.{Result, Ok, Err, OnErr, OnOk, ◌≡◌, ◌≢◌, ◌<◌, ◌≤◌, ◌+◌, ◌-◌, ◌^◌, ◌⊎◌, inl, inr, ℕ, Bool, true, false, max, min, List, [], ◌∷◌, ◌++◌, length, map, take, drop, get_or, Option, Some, None, refl, sym, ap, ◌∙◌, subst, arith, append_assoc, append-nil, length-append, length-drop, if◌then◌else◌}
use Rattle.std.specs.List.{All, flat_map, after_first, before_first, position, position_or_len}
use Rattle.std.specs.Option.{option_to_list}
use Rattle.std.specs.Result.{is_ok}
use Rattle.std.proofs.lemmas.Grind.{common_steps, flat_map-append}
use Rattle.std.proofs.lemmas.List.{map_push, take_all}
use Rattle.std.proofs.lemmas.List.Elements.{All-append}
use Rattle.std.proofs.lemmas.List.Sums.{fails_before_first, passes_at_first, split_at_first}
use Rattle.std.proofs.lemmas.List.Splits.{slice_split_none, slice_split_at}
use Rattle.x509_der.specs.Form.{whole_reading}
use Rattle.x509_object_run.specs.Object.{Item, Steps, Subject, item_of, objects_of_item, text_bytes}
use Rattle.x509_object_run.specs.Program.{AreCutShort, AreItemsDone, AreNumberedDone, Gave, IsOver, IsSourceDone, IsStopped, IsCalledDone, IsItemDone, IsNumberedDone, Outputs, Writes, input_items, items_from, items_of, last_items, number_of}
use Rattle.x509_object_run.specs.Reading.{AreTallied, AreTold, IsFedUp, IsFinished, IsFrontTold, IsHeld, IsReason, IsSplit, IsUnderway, IsWithin, pending_of}
use Rattle.x509_object_run.specs.declared.fault.Fault.{Fault}
use Rattle.x509_object_run.specs.declared.fault.Fault.TheVariants.{Unopened, Unreadable, TooLong, Unarmoured, NoObject, Unwritten, Memory}
use Rattle.x509_object_run.specs.Objects.{AreLeft, IsNext}
use Rattle.x509_object_run.specs.declared.objects.Objects.{Objects}
use Rattle.x509_object_run.specs.declared.lines.Held.{Held}
use Rattle.x509_tool_run.specs.Input.{input_limit}
use Rattle.x509_object_run.specs.declared.heading.Headed.{Headed}
use Rattle.x509_object_run.proofs.InputsShown.{numbered_further}
use Rattle.x509_object_run.specs.SignedData.{content_info, else_whole, found_in}
use Rattle.x509_tool_run.specs.Pem.{ends_line, label_of, lines_of}
use Rattle.x509_tool_run.specs.Scan.{Mark, Text, after, after_line, begun_or, closed, ended, ended_by, is_border, is_pem, mark_from, mark_of, start, texts_from}
use Rattle.x509_tool_run.specs.declared.scan.Stage.{Stage}
use Rattle.x509_tool_run.specs.declared.scan.Stage.TheVariants.{Before, Binary, Between, Within}

-- ---- answers

pub on_err : {T E : Type 0} (result : Result T E) {X : Type 0} → X → OnErr result X
on_err (Ok x) h = tt
on_err (Err e) h = h

-- what is so where a call has succeeded
pub ok_if : {T E A : Type 0} (result : Result T E) {Y : Type 0} (value one other : A) → value ≡ (if is_ok result then one else other) → (value ≡ one → Y) → OnOk result Y
ok_if (Ok x) value one other h f = f h
ok_if (Err e) value one other h f = tt

-- what is left of a list behind its front, as a slice of it
pub slice_rest : (count : ℕ) (rest : List ℕ) → take (length rest - count) (drop count rest) ≡ drop count rest
slice_rest count rest = take_all _ _ (rw length-drop (omega arith))

-- ---- lines

-- one line more
pub mark_further : (m : Mark) (lines : List (List ℕ)) (line : List ℕ) → mark_from m (lines ++ line ∷ []) ≡ after (mark_from m lines) line
mark_further m [] line = refl
mark_further m (other ∷ lines) line = mark_further (after m other) lines line

texts_further : (m : Mark) (lines : List (List ℕ)) (line : List ℕ) → texts_from m (lines ++ line ∷ []) ≡ texts_from m lines ++ option_to_list (ended (mark_from m lines) line)
texts_further m [] line = append-nil (option_to_list (ended m line))
texts_further m (other ∷ lines) line =
    ap (λ texts. option_to_list (ended m other) ++ texts) (texts_further (after m other) lines line)
    ∙ sym (append_assoc (option_to_list (ended m other)) (texts_from (after m other) lines) (option_to_list (ended (mark_from (after m other) lines) line)))

-- that ends no text
pub items_none : (lines : List (List ℕ)) (line : List ℕ) → ended (mark_from start lines) line ≡ None → items_from (lines ++ line ∷ []) ≡ items_from lines
items_none lines line none =
    ap items_of (texts_further start lines line ∙ ap (λ text. texts_from start lines ++ option_to_list text) none ∙ append-nil (texts_from start lines))

items_push : (texts : List Text) (text : Text) → items_of (texts ++ text ∷ []) ≡ items_of texts ++ objects_of_item (item_of text)
items_push texts text =
    ap (flat_map objects_of_item) (map_push item_of texts text)
    ∙ flat_map-append objects_of_item (map item_of texts) (item_of text ∷ [])
    ∙ ap (λ objects. items_of texts ++ objects) (append-nil (objects_of_item (item_of text)))

-- that ends one
pub items_some : (lines : List (List ℕ)) (line : List ℕ) (text : Text) → ended (mark_from start lines) line ≡ Some text → items_from (lines ++ line ∷ []) ≡ items_from lines ++ objects_of_item (item_of text)
items_some lines line text some =
    ap items_of (texts_further start lines line ∙ ap (λ found. texts_from start lines ++ option_to_list found) some)
    ∙ items_push (texts_from start lines) text

-- ---- what is PEM stays so

begun_stays : (m : Mark) (found : Option (List ℕ)) → is_pem m.stage ≡ true → is_pem (begun_or m found).stage ≡ true
begun_stays m None h = h
begun_stays m (Some label) h = refl

choice_stays : (b : Bool) (m n : Mark) → is_pem m.stage ≡ true → is_pem n.stage ≡ true → is_pem (if b then m else n).stage ≡ true
choice_stays true m n h k = h
choice_stays false m n h k = k

line_stays : (stage : Stage) (m : Mark) (line : List ℕ) → is_pem stage ≡ true → is_pem m.stage ≡ true → is_pem (after_line stage m line).stage ≡ true
line_stays Before m line h k = absurd cc
line_stays Binary m line h k = absurd cc
line_stays Between m line h k = begun_stays m _ k
line_stays Within m line h k =
    choice_stays (is_border line) (begun_or closed (label_of line)) (record { stage = Within; label = m.label; digits = m.digits ++ line }) (begun_stays closed (label_of line) refl) refl

pub stays : (m : Mark) (line : List ℕ) → is_pem m.stage ≡ true → is_pem (after m line).stage ≡ true
stays m line h = line_stays m.stage m _ h h

stay : (m : Mark) (lines : List (List ℕ)) → is_pem m.stage ≡ true → is_pem (mark_from m lines).stage ≡ true
stay m [] h = h
stay m (line ∷ lines) h = stay (after m line) lines (stays m line h)

ends_none : (stage : Stage) (m : Mark) (line : List ℕ) → is_pem stage ≡ false → ended_by stage m line ≡ None
ends_none Before m line h = refl
ends_none Binary m line h = refl
ends_none Between m line h = absurd cc
ends_none Within m line h = absurd cc

not_before : (m : Mark) (lines : List (List ℕ)) (b : Bool) → is_pem m.stage ≡ b → is_pem (mark_from m lines).stage ≡ false → is_pem m.stage ≡ false
not_before m lines true is h = absurd (cc (stay m lines is))
not_before m lines false is h = is

no_texts : (m : Mark) (lines : List (List ℕ)) → is_pem (mark_from m lines).stage ≡ false → texts_from m lines ≡ []
no_texts m [] h = refl
no_texts m (line ∷ lines) h =
    let none : ended m line ≡ None = ends_none m.stage m _ (not_before m (line ∷ lines) _ refl h) in
    rw (none, no_texts (after m line) lines h) refl

-- where no text has begun there are no items
pub no_items : (lines : List (List ℕ)) → is_pem (mark_from start lines).stage ≡ false → items_from lines ≡ []
no_items lines h = ap items_of (no_texts start lines h)

-- what is kept of octets of which none begin a text
pub kept_further : (was is : Bool) (kept before bytes chunk : List ℕ) → (was ≡ true → is ≡ true) → (was ≡ false → kept ≡ before ++ chunk) → (was ≡ false → before ≡ bytes) → is ≡ false → kept ≡ bytes ++ chunk
kept_further true is kept before bytes chunk stays more so none = absurd (cc (stays refl))
kept_further false is kept before bytes chunk stays more so none = more refl ∙ ap (λ xs. xs ++ chunk) (so refl)

kept_before : (was : Bool) (kept bytes : List ℕ) → (was ≡ true → ⊥) → (was ≡ false → kept ≡ bytes) → kept ≡ bytes
kept_before true kept bytes never so = absurd (never refl)
kept_before false kept bytes never so = so refl

-- what is kept of an input whose last line is read, too
pub still_kept : (m n : Mark) (line kept bytes : List ℕ) → n ≡ after m line → (is_pem m.stage ≡ false → kept ≡ bytes) → is_pem n.stage ≡ false → kept ≡ bytes
still_kept m n line kept bytes goes so none = kept_before (is_pem m.stage) kept bytes (λ pem. cc (ap (λ x. is_pem x.stage) goes ∙ stays m line pem)) so

-- ---- splits

-- no octet in front of the first that ends a line ends one
before_unended : (xs : List ℕ) → All (λ octet. ends_line octet ≡ false) (before_first ends_line xs)
before_unended xs = λ k d m. let earlier = fails_before_first ends_line xs k d (grind (arith, common_steps)) in grind (arith, common_steps)

none_unended : (xs : List ℕ) → position ends_line xs ≡ None → All (λ octet. ends_line octet ≡ false) xs
none_unended xs none =
    let all : length xs ≤ position_or_len ends_line xs = grind (arith, common_steps) in
    λ k d m. let earlier = fails_before_first ends_line xs k d (omega (arith, all, m)) in grind (arith, common_steps)

-- before the first octet
pub split_start : IsSplit [] [] [] [] []
split_start = record { so = λ future. refl; unended = λ k d m. absurd (omega (arith, m)) }

module _ (bytes : List ℕ) (lines : List (List ℕ)) (line : List ℕ) where
  -- more octets are ahead
  pub split_ahead : (chunk : List ℕ) → IsSplit bytes [] lines line [] → IsSplit bytes chunk lines line chunk
  split_ahead chunk h = record { so = λ future. h.so (chunk ++ future); unended = h.unended }

  -- all lines, of which the last isn't ended
  pub split_whole : IsSplit bytes [] lines line [] → lines_of bytes ≡ lines ++ line ∷ []
  split_whole h =
      ap lines_of (sym (append-nil bytes)) ∙ h.so [] ∙ ap (λ octets. lines ++ lines_of octets) (append-nil line)
      ∙ ap (λ others. lines ++ others) (slice_split_none ends_line line h.unended)

  -- the first lines
  pub split_front : (ahead rest : List ℕ) → IsSplit bytes ahead lines line rest → lines_of (bytes ++ ahead) ≡ lines ++ lines_of (line ++ (rest ++ []))
  split_front ahead rest h = ap (λ octets. lines_of (bytes ++ octets)) (sym (append-nil ahead)) ∙ h.so []

  -- a line that ends
  pub split_line : (ahead rest : List ℕ) (at : ℕ) → IsSplit bytes ahead lines line rest → position ends_line rest ≡ Some at → IsSplit bytes ahead (lines ++ (line ++ take at rest) ∷ []) [] (drop (at + 1) rest)
  split_line ahead rest at h found =
      let place : position_or_len ends_line rest ≡ at = grind (arith, common_steps) in
      let inside : position_or_len ends_line rest < length rest = grind (arith, common_steps) in
      let front : List ℕ = before_first ends_line rest in
      let octet : ℕ = get_or rest (position_or_len ends_line rest) 0 in
      let behind : List ℕ = after_first ends_line rest in
      let open_line : All (λ x. ends_line x ≡ false) (line ++ front) = All-append (λ x. ends_line x ≡ false) line front h.unended (before_unended rest) in
      let parts : (future : List ℕ) → line ++ (rest ++ future) ≡ (line ++ front) ++ octet ∷ (behind ++ future) =
      λ future. ap (λ xs. line ++ (xs ++ future)) (split_at_first ends_line rest 0 inside)
      ∙ ap (λ xs. line ++ xs) (append_assoc front (octet ∷ behind) future)
      ∙ sym (append_assoc line front (octet ∷ (behind ++ future))) in
      let cut : (future : List ℕ) → lines_of (line ++ (rest ++ future)) ≡ (line ++ front) ∷ lines_of (behind ++ future) =
      λ future. ap lines_of (parts future) ∙ slice_split_at ends_line (line ++ front) octet (behind ++ future) open_line (passes_at_first ends_line rest 0 inside) in
      let so : (future : List ℕ) → lines_of (bytes ++ (ahead ++ future)) ≡ (lines ++ (line ++ front) ∷ []) ++ lines_of (behind ++ future) =
      λ future. h.so future ∙ ap (λ xs. lines ++ xs) (cut future) ∙ sym (append_assoc lines ((line ++ front) ∷ []) (lines_of (behind ++ future))) in
      subst (λ n. IsSplit bytes ahead (lines ++ (line ++ take n rest) ∷ []) [] (drop (n + 1) rest)) place (record { so = so; unended = λ k d m. absurd (omega (arith, m)) })

  -- no more lines end
  pub split_end : (ahead rest : List ℕ) → IsSplit bytes ahead lines line rest → position ends_line rest ≡ None → IsSplit (bytes ++ ahead) [] lines (line ++ rest) []
  split_end ahead rest h none = record {
    so = λ future. ap lines_of (append_assoc bytes ahead future) ∙ h.so future ∙ ap (λ xs. lines ++ lines_of xs) (sym (append_assoc line rest future));
    unended = All-append (λ x. ends_line x ≡ false) line rest h.unended (none_unended rest none);
  }

-- ---- items

some_of : (bytes : List ℕ) (found : List (List ℕ)) → 0 < length {A = Item} (map (λ object. Ok object) (else_whole bytes found))
some_of bytes [] = omega arith
some_of bytes (object ∷ objects) = omega arith

-- an item stands for one object at least
some_objects : (item : Item) → 0 < length (objects_of_item item)
some_objects (Ok bytes) = some_of bytes (found_in (whole_reading content_info.reading bytes))
some_objects (Err fault) = omega arith

module _ {W E : Type 0} (program : List ℕ) (subject : Subject) (by : Writes W E) (label : List ℕ) where
  -- one object more is done
  pub tallied : (done : List Item) (object : Item) (count worst status : ℕ) (first old new : Outputs W E) → AreTallied program subject by label done count worst first old → IsCalledDone program subject by label (min (count + 1) (2 ^ 64 - 1)) object old new status → AreTallied program subject by label (done ++ object ∷ []) (min (count + 1) (2 ^ 64 - 1)) (max worst status) first new
  tallied done object count worst status first old new so called =
      let many : length (done ++ object ∷ []) ≡ length done + 1 = length-append done (object ∷ []) in
      let number : min (count + 1) (2 ^ 64 - 1) ≡ number_of (0 + length done + 1) = rw so.0 (omega arith) in
      let all : min (count + 1) (2 ^ 64 - 1) ≡ number_of (length (done ++ object ∷ [])) = rw (so.0, many) (omega arith) in
      let here : IsNumberedDone program subject by label (0 + length done + 1) object old new status = subst (λ n. IsCalledDone program subject by label n object old new status) number called in
      (all, numbered_further program subject by label 0 done object first old new worst status so.1 here)

  -- of the objects that bytes stand for one more is done
  pub object_told : (objects told left : List (List ℕ)) (object : List ℕ) (next : Objects) (count worst middle_count middle_worst new_count new_worst : ℕ) (old middle new : Outputs W E) → objects ≡ told ++ left → IsNext left (Some object) next
      → ((done : List Item) → (first : Outputs W E) → AreTallied program subject by label done count worst first old → AreTallied program subject by label (done ++ map (λ o. Ok o) told) middle_count middle_worst first middle)
      → ((done : List Item) → (first : Outputs W E) → AreTallied program subject by label done middle_count middle_worst first middle → AreTallied program subject by label (done ++ Ok object ∷ []) new_count new_worst first new)
      → (told : List (List ℕ)) × (left : List (List ℕ)) × (objects ≡ told ++ left) × AreLeft next left
      × ((done : List Item) → (first : Outputs W E) → AreTallied program subject by label done count worst first old → AreTallied program subject by label (done ++ map (λ o. Ok o) told) new_count new_worst first new)
  object_told objects told [] object next count worst middle_count middle_worst new_count new_worst old middle new is taken before goes = absurd (let none : Some object ≡ None = taken in cc)
  object_told objects told (o ∷ left) object next count worst middle_count middle_worst new_count new_worst old middle new is taken before goes =
      let same : object ≡ o = (let both : Some object ≡ Some o = taken.0 in cc) in
      let split : objects ≡ (told ++ object ∷ []) ++ left = is ∙ ap (λ x. told ++ x ∷ left) (sym same) ∙ sym (append_assoc told (object ∷ []) left) in
      let item : List ℕ → Item = λ x. Ok x in (
        told ++ object ∷ [],
        left,
        split,
        taken.1,
        λ done first so.
            let all : done ++ map item (told ++ object ∷ []) ≡ (done ++ map item told) ++ Ok object ∷ [] =
            ap (λ items. done ++ items) (map_push item told object) ∙ sym (append_assoc done (map item told) (Ok object ∷ [])) in
            rw all (goes (done ++ map item told) first (before done first so)),
      )

  -- and all are
  pub objects_told : (objects told left : List (List ℕ)) (taken : Option (List ℕ)) (next : Objects) (count worst new_count new_worst : ℕ) (old new : Outputs W E) → objects ≡ told ++ left → IsNext left taken next → taken ≡ None
      → ((done : List Item) → (first : Outputs W E) → AreTallied program subject by label done count worst first old → AreTallied program subject by label (done ++ map (λ o. Ok o) told) new_count new_worst first new)
      → (done : List Item) → (first : Outputs W E) → AreTallied program subject by label done count worst first old → AreTallied program subject by label (done ++ map (λ o. Ok o) objects) new_count new_worst first new
  objects_told objects told [] taken next count worst new_count new_worst old new is none end so = rw (is ∙ append-nil told) so
  objects_told objects told (o ∷ left) taken next count worst new_count new_worst old new is some end so = absurd (let both : Some o ≡ None = sym some.0 ∙ end in cc)

  -- the item that is pending is done
  pub flushed : (items : List Item) (item : Item) (count worst new_count new_worst : ℕ) (first old new : Outputs W E) → AreTold program subject by label items (Some item) count worst first old
      → ((done : List Item) → (first : Outputs W E) → AreTallied program subject by label done count worst first old → AreTallied program subject by label (done ++ objects_of_item item) new_count new_worst first new)
      → AreTallied program subject by label items new_count new_worst first new
  flushed items item count worst new_count new_worst first old new told goes = rw told.1 (goes told.0 first told.2)

  pub flushed_none : (items : List Item) (count worst : ℕ) (first now : Outputs W E) → AreTold program subject by label items None count worst first now → AreTallied program subject by label items count worst first now
  flushed_none items count worst first now told = rw (told.0, told.1) (refl, (told.3, told.2))

  -- one more is pending
  pub put : (items : List Item) (item : Item) (count worst : ℕ) (first now : Outputs W E) → AreTallied program subject by label items count worst first now → AreTold program subject by label (items ++ objects_of_item item) (Some item) count worst first now
  put items item count worst first now so = (items, refl, so)

  -- the only one is called as the input
  pub alone : (headed : Headed) (items : List Item) (item object : Item) (count worst status : ℕ) (first old new : Outputs W E) → AreTold program subject by label items (Some item) count worst first old → count ≡ 0 → objects_of_item item ≡ object ∷ [] → IsItemDone program subject by headed label object old new status → AreItemsDone program subject by headed label items first new status
  alone headed items item object count worst status first old new ([], is, (many, before)) none one done =
      rw (is ∙ one) (subst (λ o. IsItemDone program subject by headed label object o new status) before.0 done)
  alone headed items item object count worst status first old new (other ∷ others, is, (many, before)) none one done =
      absurd (omega (arith, many, none))

  pub not_one : (items : List Item) (item : Item) (count worst : ℕ) (first now : Outputs W E) → AreTold program subject by label items (Some item) count worst first now → (count ≢ 0) ⊎ (length (objects_of_item item) ≢ 1) → length items ≢ 1
  not_one items item count worst first now told several = λ one.
      let all : length items ≡ length told.0 + length (objects_of_item item) = ap length told.1 ∙ length-append told.0 (objects_of_item item) in
      let some : 0 < length (objects_of_item item) = some_objects item in
      let none : length told.0 ≡ 0 = omega (arith, all, one, some) in
      let alone : length (objects_of_item item) ≡ 1 = omega (arith, all, one, none) in
      elim several [ inl more ↦ absurd (more (told.2.0 ∙ ap number_of none)) | inr other ↦ absurd (other alone) ]

  pub nothing_done : (headed : Headed) (items : List Item) (count worst : ℕ) (first now : Outputs W E) → AreTold program subject by label items None count worst first now → AreItemsDone program subject by headed label items first now worst
  nothing_done headed items count worst first now told = rw told.0 (told.3, told.2)

  -- several have numbers, and of none nothing is done
  pub several : (headed : Headed) (items : List Item) (status : ℕ) (first new : Outputs W E) → length items ≢ 1 → AreNumberedDone program subject by label 0 items first new status → AreItemsDone program subject by headed label items first new status
  several headed [] status first new other done = done
  several headed (item ∷ []) status first new other done = absurd (other refl)
  several headed (item ∷ next ∷ items) status first new other done = done

-- ---- reading

module _ {W E : Type 0} (program : List ℕ) (subject : Subject) (by : Writes W E) (label : List ℕ) (first : Outputs W E) (bytes : List ℕ) where
  -- before the first octet
  pub unread : (line : List ℕ) (mark : Mark) (pending : Option Item) (count worst : ℕ) → line ≡ [] → mark ≡ start → pending ≡ None → count ≡ 0 → worst ≡ 0 → IsUnderway program subject by label first [] line mark pending count worst first
  unread line mark pending count worst no_line at none zero least =
      rw (no_line, at, none, zero, least) ([], split_start, refl, (refl, refl, refl, refl))

  -- more octets are ahead
  pub go_ahead : (chunk line : List ℕ) (mark : Mark) (pending : Option Item) (count worst : ℕ) (now : Outputs W E) → IsUnderway program subject by label first bytes line mark pending count worst now → IsWithin program subject by label first bytes chunk chunk line mark pending count worst now
  go_ahead chunk line mark pending count worst now h = (h.0, split_ahead bytes h.0 line chunk h.1, h.2, h.3)

  -- a line that ends in them
  pub line_read : (ahead rest line : List ℕ) (mark new_mark : Mark) (pending new_pending : Option Item) (count worst new_count new_worst : ℕ) (now new : Outputs W E) (at : ℕ) → IsWithin program subject by label first bytes ahead rest line mark pending count worst now → position ends_line rest ≡ Some at → new_mark ≡ after mark (line ++ take at rest) → ((lines : List (List ℕ)) → mark ≡ mark_from start lines → AreTold program subject by label (items_from lines) pending count worst first now → AreTold program subject by label (items_from (lines ++ (line ++ take at rest) ∷ [])) new_pending new_count new_worst first new) → IsWithin program subject by label first bytes ahead (drop (at + 1) rest) [] new_mark new_pending new_count new_worst new
  line_read ahead rest line mark new_mark pending new_pending count worst new_count new_worst now new at h found goes told = (
    h.0 ++ (line ++ take at rest) ∷ [],
    split_line bytes h.0 line ahead rest at h.1 found,
    goes ∙ ap (λ m. after m (line ++ take at rest)) h.2 ∙ sym (mark_further start h.0 (line ++ take at rest)),
    told h.0 h.2 h.3,
  )

  -- no more end in them
  pub chunk_read : (ahead rest line : List ℕ) (mark : Mark) (pending : Option Item) (count worst : ℕ) (now : Outputs W E) → IsWithin program subject by label first bytes ahead rest line mark pending count worst now → position ends_line rest ≡ None → IsUnderway program subject by label first (bytes ++ ahead) (line ++ rest) mark pending count worst now
  chunk_read ahead rest line mark pending count worst now h none = (h.0, split_end bytes h.0 line ahead rest h.1 none, h.2, h.3)

  -- the lines so far
  pub front_told : (ahead rest line : List ℕ) (mark : Mark) (pending : Option Item) (count worst : ℕ) (now : Outputs W E) → IsWithin program subject by label first bytes ahead rest line mark pending count worst now → IsFrontTold program subject by label first (bytes ++ ahead) pending count worst now
  front_told ahead rest line mark pending count worst now h = (h.0, lines_of (line ++ (rest ++ [])), split_front bytes h.0 line ahead rest h.1, h.3)

  -- all lines, behind the last of which there is nothing
  pub last_read : (line : List ℕ) (mark new_mark : Mark) (pending new_pending : Option Item) (count worst new_count new_worst : ℕ) (now new : Outputs W E) → IsUnderway program subject by label first bytes line mark pending count worst now → new_mark ≡ after mark line → ((lines : List (List ℕ)) → mark ≡ mark_from start lines → AreTold program subject by label (items_from lines) pending count worst first now → AreTold program subject by label (items_from (lines ++ line ∷ [])) new_pending new_count new_worst first new) → (new_mark ≡ mark_from start (lines_of bytes)) × AreTold program subject by label (items_from (lines_of bytes)) new_pending new_count new_worst first new
  last_read line mark new_mark pending new_pending count worst new_count new_worst now new h goes told =
      let whole : lines_of bytes ≡ h.0 ++ line ∷ [] = split_whole bytes h.0 line h.1 in
      rw whole (goes ∙ ap (λ m. after m line) h.2 ∙ sym (mark_further start h.0 line), told h.0 h.2 h.3)

  -- why memory is refused at the end
  pub unfinished : (line : List ℕ) (mark : Mark) (pending : Option Item) (count worst : ℕ) (now : Outputs W E) → IsUnderway program subject by label first bytes line mark pending count worst now → IsFrontTold program subject by label first bytes pending count worst now
  unfinished line mark pending count worst now h = (h.0, line ∷ [], split_whole bytes h.0 line h.1, h.3)

  -- the items of PEM that is read whole
  pub pem_items : (mark : Mark) → mark ≡ mark_from start (lines_of bytes) → is_pem mark.stage ≡ true → items_from (lines_of bytes) ++ last_items mark.stage ≡ input_items bytes
  pem_items mark at pem = rw (at, rw at at pem) refl

  -- and what isn't PEM, before which there are none
  pub other_items : (mark : Mark) (kept : List ℕ) → mark ≡ mark_from start (lines_of bytes) → is_pem mark.stage ≡ false → kept ≡ text_bytes bytes → items_from (lines_of bytes) ++ objects_of_item (Ok kept) ≡ input_items bytes
  other_items mark kept at none is =
      let empty : items_from (lines_of bytes) ≡ [] = no_items (lines_of bytes) (rw at at none) in
      rw (empty, is, rw at at none) refl

module _ {W E : Type 0} (program : List ℕ) (subject : Subject) (by : Writes W E) (label : List ℕ) where
  -- the same, of any octets
  pub fronts : {Under : List ℕ → Outputs W E → Type 0} (chunk rest line : List ℕ) (mark : Mark) (pending : Option Item) (count worst : ℕ) (now : Outputs W E) → ((bytes : List ℕ) → (first : Outputs W E) → Under bytes first → IsWithin program subject by label first bytes chunk rest line mark pending count worst now) → (bytes : List ℕ) → (first : Outputs W E) → Under bytes first → IsFrontTold program subject by label first (bytes ++ chunk) pending count worst now
  fronts chunk rest line mark pending count worst now within =
      λ bytes first under. front_told program subject by label first bytes chunk rest line mark pending count worst now (within bytes first under)

  pub reads : {Under : List ℕ → Outputs W E → Type 0} (chunk rest line new_line : List ℕ) (mark : Mark) (pending : Option Item) (count worst : ℕ) (now : Outputs W E) → ((bytes : List ℕ) → (first : Outputs W E) → Under bytes first → IsWithin program subject by label first bytes chunk rest line mark pending count worst now) → position ends_line rest ≡ None → new_line ≡ line ++ rest → (bytes : List ℕ) → (first : Outputs W E) → Under bytes first → IsUnderway program subject by label first (bytes ++ chunk) new_line mark pending count worst now
  reads chunk rest line new_line mark pending count worst now within none is =
      λ bytes first under. rw is (chunk_read program subject by label first bytes chunk rest line mark pending count worst now (within bytes first under) none)

  pub held_fronts : (chunk : List ℕ) (held : Held) (now : Outputs W E) → (bytes : List ℕ) → (first : Outputs W E) → IsHeld program subject by label first bytes held now → IsFrontTold program subject by label first (bytes ++ chunk) (pending_of held.shown) held.shown.count held.shown.worst now
  held_fronts chunk held now =
      λ bytes first under. front_told program subject by label first bytes chunk chunk held.line.items (mark_of held.scan) (pending_of held.shown) held.shown.count held.shown.worst now
      (go_ahead program subject by label first bytes chunk held.line.items (mark_of held.scan) (pending_of held.shown) held.shown.count held.shown.worst now under.0)

over : (bytes : List ℕ) (lines : List (List ℕ)) (line kept : List ℕ) (mark : Mark) → mark ≡ mark_from start lines → (is_pem mark.stage ≡ false → kept ≡ bytes) → ((is_pem mark.stage ≡ false) × (input_limit < length kept)) ⊎ ((input_limit < length mark.digits) ⊎ (input_limit < length line)) → IsOver bytes lines (line ∷ [])
over bytes lines line kept mark at keeps (inl h) = inl (subst (λ xs. input_limit < length xs) (keeps h.0) h.1)
over bytes lines line kept mark at keeps (inr (inl h)) = inr (inl (subst (λ m. input_limit < length m.digits) at h))
over bytes lines line kept mark at keeps (inr (inr h)) = inr (inr (line, refl, h))

-- ---- a whole input

module _ {W E : Type 0} (program : List ℕ) (subject : Subject) (by : Writes W E) (label : List ℕ) (first : Outputs W E) (bytes : List ℕ) where
  -- more is held than may be
  pub fed_up : (held : Held) (now : Outputs W E) → IsHeld program subject by label first bytes held now → ((is_pem held.scan.stage ≡ false) × (input_limit < length held.kept.items)) ⊎ ((input_limit < length (mark_of held.scan).digits) ⊎ (input_limit < length held.line.items)) → IsFedUp program subject by label first bytes TooLong held now
  fed_up held now h much = (
    h.0.0,
    held.line.items ∷ [],
    split_whole bytes h.0.0 held.line.items h.0.1,
    over bytes h.0.0 held.line.items held.kept.items (mark_of held.scan) h.0.2 h.1 much,
    h.0.3,
  )

  module _ {R : Type 0} (gives : Steps R) (from : R) where
    -- the end came
    pub source_finished : (middle to : R) (headed : Headed) (new : Outputs W E) (status : ℕ) → Gave gives from bytes middle → gives middle (Some []) to → IsFinished program subject by headed label bytes first new status → IsSourceDone program subject by gives headed label from to first new status
    source_finished middle to headed new status gave end (inl done) = inl (bytes, middle, gave, end, done)
    source_finished middle to headed new status gave end (inr cut) = inr (bytes, cut.0, cut.1, Memory, inr (middle, gave, end), cut.2, cut.3)

    stopped_by : (to : R) (lines others : List (List ℕ)) (fault : Fault) → Gave gives from bytes to → IsReason bytes lines others fault → IsStopped gives from bytes lines others to fault
    stopped_by to lines others Memory gave why = inl gave
    stopped_by to lines others TooLong gave why = (gave, why)
    stopped_by to lines others Unreadable gave why = absurd why
    stopped_by to lines others (Unopened e) gave why = absurd why
    stopped_by to lines others (Unarmoured e) gave why = absurd why
    stopped_by to lines others (NoObject looks) gave why = absurd why
    stopped_by to lines others Unwritten gave why = absurd why

    -- no more is read
    pub source_fed_up : (to : R) (headed : Headed) (fault : Fault) (held : Held) (now new : Outputs W E) (status : ℕ) → Gave gives from bytes to → IsFedUp program subject by label first bytes fault held now → ((items : List Item) → (start : Outputs W E) → AreTold program subject by label items (pending_of held.shown) held.shown.count held.shown.worst start now → AreCutShort program subject by headed label items fault start new status) → IsSourceDone program subject by gives headed label from to first new status
    source_fed_up to headed fault held now new status gave fed stop =
        inr (bytes, fed.0, fed.1, fault, stopped_by to fed.0 fed.1 fault gave fed.3, fed.2, stop (items_from fed.0) first fed.4)

    -- a read fails
    pub source_unread : (middle to : R) (headed : Headed) (held : Held) (now new : Outputs W E) (status : ℕ) → Gave gives from bytes middle → gives middle None to → IsHeld program subject by label first bytes held now → ((items : List Item) → (start : Outputs W E) → AreTold program subject by label items (pending_of held.shown) held.shown.count held.shown.worst start now → AreCutShort program subject by headed label items Unreadable start new status) → IsSourceDone program subject by gives headed label from to first new status
    source_unread middle to headed held now new status gave none h stop =
        let front = unfinished program subject by label first bytes held.line.items (mark_of held.scan) (pending_of held.shown) held.shown.count held.shown.worst now h.0 in
        inr (bytes, front.0, front.1, Unreadable, (middle, gave, none), front.2, stop (items_from front.0) first front.3)

    -- the end doesn't come
    pub source_endless : (to : R) (headed : Headed) (held : Held) (now new : Outputs W E) (status : ℕ) → Gave gives from bytes to → input_limit < length bytes → IsHeld program subject by label first bytes held now → ((items : List Item) → (start : Outputs W E) → AreTold program subject by label items (pending_of held.shown) held.shown.count held.shown.worst start now → AreCutShort program subject by headed label items TooLong start new status) → IsSourceDone program subject by gives headed label from to first new status
    source_endless to headed held now new status gave much h stop =
        let front = unfinished program subject by label first bytes held.line.items (mark_of held.scan) (pending_of held.shown) held.shown.count held.shown.worst now h.0 in
        inr (bytes, front.0, front.1, TooLong, (gave, inl much), front.2, stop (items_from front.0) first front.3)
