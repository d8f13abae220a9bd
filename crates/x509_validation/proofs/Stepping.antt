-- Going down a path that is validated.
use Rattle.std.proofs.Common.{◌≡◌, ◌≢◌, ◌↔◌, ◌∙◌, ℕ, zero, suc, ◌+◌, ◌<◌, Bool, true, false, List, [], ◌∷◌, ◌++◌, length, drop, slice_get, get_or, map, Bor, Option, Some, Ok, Err, refl, sym, ap, subst, append_assoc, append-nil, length-append, arith}
use Rattle.std.specs.Option.{option_to_list}
use Rattle.std.proofs.Math.Seq.{drop-cons}
use Rattle.std.proofs.lemmas.Bool.{true≢false}
use Rattle.std.proofs.lemmas.Option.{slice_get_within, get_or_from_slice_get}
use Rattle.std.proofs.lemmas.Slice.Zip.{AllZip-long}
use Rattle.x509_base.specs.CivilTime.{CivilTime}
use Rattle.x509_der.specs.Any.{any}
use Rattle.x509_ext.specs.declared.pkix.name_constraints.NameConstraints.{NameConstraints}
use Rattle.x509_match.specs.Matching.{NamesMatch}
use Rattle.x509_path.proofs.Along.{Reached, local, no_fault, reached_first, reached_next, zip_push}
use Rattle.x509_path.proofs.Firsts.{first_along, wrong}
use Rattle.x509_path.proofs.PathLengths.{begins, too_many}
use Rattle.x509_path.specs.Certificates.{Accepting, Certificate, IsOver}
use Rattle.x509_path.specs.Lent.{LendsAnchor}
use Rattle.x509_path.specs.Path.{IsFirst, is_empty, subject_of}
use Rattle.x509_path.specs.PathLength.{Leaves}
use Rattle.x509_path.specs.declared.anchor.Anchor.{Anchor}
use Rattle.x509_path_steps.proofs.AllowedNames.{collected}
use Rattle.x509_path_steps.proofs.LeftPurposes.{at_first}
use Rattle.x509_path_steps.proofs.WorkingKeys.{one_behind}
use Rattle.x509_path_steps.specs.Inputs.{Inputs, LendsInputs, SpellsOption, purposes_of, uses_of}
use Rattle.x509_path_steps.specs.Keys.{key_behind, parameters_of, working_key}
use Rattle.x509_path_steps.specs.Steps.{AreConstraintsOf, AreLeft, Holds, HoldsKey, Starts, asked_before, left_at}
use Rattle.x509_path_steps.specs.Validation.{Answers, AnswersUnreadable, AreOf, AreParameters, AreUnusable, Breaks, HasFault, IsFault, IsFirstFault, IsUnder, Standing, faults_at, reasons}
use Rattle.x509_path_steps.specs.declared.above.Above.{Above}
use Rattle.x509_path_steps.specs.declared.asked.Asked.{Asked}
use Rattle.x509_path_steps.specs.declared.settings.PathSettings.{PathSettings}
use Rattle.x509_path_steps.specs.declared.trusted.Trusted.{Trusted}
use Rattle.x509_path_steps.specs.declared.validation_fault.ValidationFault.{ValidationFault}
use Rattle.x509_path_steps.specs.declared.validation_fault.ValidationFault.TheVariants.{Memory, Empty, Initial, At}
use Rattle.x509_path_steps.specs.declared.validation_fault.ValidationReason.{ValidationReason}
use Rattle.x509_path_steps.specs.declared.validation_fault.ValidationReason.TheVariants.{Decode, PathLen}
use Rattle.x509_policy.specs.Values.{Policy}
use Rattle.x509_policy.specs.declared.state.PolicyState.{PolicyState}
use Rattle.x509_validation.specs.Judging.{Carries, EndsUnder, Judges, Stands, standing}

-- ---- a path, and its last input

pub not_empty : (front : List (List ℕ)) (last : List ℕ) → front ++ last ∷ [] ≢ []
not_empty [] last none = cc
not_empty (x ∷ front) last none = cc

-- what is answered to what can't be read
pub unreadable : (front : List (List ℕ)) (last : List ℕ) → AnswersUnreadable (front ++ last ∷ []) (Err Initial)
unreadable [] last = refl
unreadable (x ∷ front) last = refl

some_left : (front : List (List ℕ)) (last : List ℕ) → is_empty (front ++ last ∷ []) ≡ false
some_left [] last = refl
some_left (x ∷ front) last = refl

-- another input follows one that isn't the last
pub some_behind : (front : List (List ℕ)) (last : List ℕ) (i : ℕ) → i < length front → is_empty (drop (suc i) (front ++ last ∷ [])) ≡ false
some_behind [] last i less = absurd (omega (arith, less))
some_behind (x ∷ front) last zero less = some_left front last
some_behind (x ∷ front) last (suc i) less = some_behind front last i (omega (arith, less))

pub none_behind : (front : List (Bor (List ℕ))) (last : List ℕ) → is_empty (drop (suc (length front)) (map (λ input. input.now) front ++ last ∷ [])) ≡ true
none_behind [] last = refl
none_behind (x ∷ front) last = none_behind front last

pub at_front : (front : List (Bor (List ℕ))) (last : List ℕ) (i : ℕ) (d : Bor (List ℕ)) → i < length front → slice_get (map (λ input. input.now) front ++ last ∷ []) i ≡ Some (get_or front i d).now
at_front [] last i d less = absurd (omega (arith, less))
at_front (x ∷ front) last zero d less = refl
at_front (x ∷ front) last (suc i) d less = at_front front last i d (omega (arith, less))

pub at_last : (front : List (Bor (List ℕ))) (last : List ℕ) → slice_get (map (λ input. input.now) front ++ last ∷ []) (length front) ≡ Some last
at_last [] last = refl
at_last (x ∷ front) last = at_last front last

pub whole_length : (front : List (Bor (List ℕ))) (last : List ℕ) → length (map (λ input. input.now) front ++ last ∷ []) ≡ length front + 1
whole_length [] last = refl
whole_length (x ∷ front) last = omega (arith, whole_length front last)

-- ---- the last of the inputs

some_more : (path : List (List ℕ)) → is_empty path ≡ false → 0 < length path
some_more [] is = absurd (true≢false is)
some_more (x ∷ path) is = omega arith

none_left : (path : List (List ℕ)) → is_empty path ≡ true → path ≡ []
none_left [] is = refl
none_left (x ∷ path) is = absurd (true≢false (sym is))

module _ (accepts : Accepting) (inputs : Inputs) (path : List (List ℕ)) where
  -- what holds before the input at a place is judged: what is carried to it, and what is left of the path stands behind those before it
  pub record Passed (i : ℕ) (moment : CivilTime) (lent : Above) (max_path_length : Option ℕ) (sets : Asked) (state : PolicyState) : Type 0 where
    pub above : Anchor
    pub before : List Certificate
    pub done : List (List ℕ)
    pub parts : path ≡ done ++ drop i path
    pub place : length done ≡ i
    pub are : AreOf before done
    pub carries : Carries inputs (length path) before state
    pub stands : Stands inputs above before moment lent max_path_length sets
    pub reached : Reached (faults_at accepts inputs) inputs.trust.anchor path i above before

  pub starting : (trusted : Trusted) (settings : PathSettings) (lent : Above) (sets : Asked) (state : PolicyState) → LendsInputs trusted settings inputs → LendsAnchor lent.anchor inputs.trust.anchor
      → HoldsKey lent inputs.trust.anchor.key → Starts inputs (Ok sets.names) → left_at sets ≡ purposes_of settings → sets.uses ≡ uses_of settings → Carries inputs (length path) [] state → Passed 0 settings.moment lent trusted.max_path_length sets state
  starting trusted settings lent sets state lends anchor key starts left uses carries = record {
    above = inputs.trust.anchor;
    before = [];
    done = [];
    parts = refl;
    place = refl;
    are = tt;
    carries = carries;
    stands = record {
      constraints = starts.0.0;
      at = lends.moment;
      lends = anchor;
      key = key;
      leaves = subst (λ m. Leaves NamesMatch inputs.trust.max_path_length [] m) lends.trust.max_path_length (begins NamesMatch inputs.trust.max_path_length);
      applied = starts.0.1;
      collects = starts.0.2;
      uses = lends.uses ∙ sym uses;
      purposes = at_first inputs.purposes inputs.uses.is_chained (left_at sets) (lends.purposes ∙ sym left);
    };
    reached = reached_first (faults_at accepts inputs) inputs.trust.anchor path;
  }

  module _ (i : ℕ) (moment : CivilTime) (lent : Above) (max_path_length : Option ℕ) (sets : Asked) (state : PolicyState) (bytes : List ℕ) (is_last : Bool)
      (passed : Passed i moment lent max_path_length sets state) (input : slice_get path i ≡ Some bytes) (last : is_empty (drop (suc i) path) ≡ is_last) where
    within : i < length path
    within = slice_get_within path i bytes input

    front : drop i path ≡ bytes ∷ drop (suc i) path
    front = drop-cons path i bytes within ∙ ap (λ b. b ∷ drop (suc i) path) (get_or_from_slice_get path i bytes bytes input)

    split : path ≡ passed.done ++ (bytes ∷ drop (suc i) path)
    split = passed.parts ∙ ap (λ rest. passed.done ++ rest) front

    -- how many there are
    whole : length passed.before + suc (length (drop (suc i) path)) ≡ length path
    whole = omega (arith, AllZip-long _ passed.before passed.done passed.are, ap length split, length-append passed.done (bytes ∷ drop (suc i) path))

    -- where the input stands
    abbrev pub here : Standing
    here = standing passed.above passed.before is_last (length path)

    abbrev At_last : Bool → ℕ → ValidationReason → Type 0
    At_last l n r = HasFault accepts inputs path i r ↔ IsFault accepts inputs (standing passed.above passed.before l n) bytes r

    there : (r : ValidationReason) → HasFault accepts inputs path i r ↔ IsFault accepts inputs here bytes r
    there r =
        let stands = local (faults_at accepts inputs) inputs.trust.anchor path i passed.above passed.before bytes passed.reached input r in
        subst (λ n. At_last is_last n r) whole (subst (λ l. At_last l (length passed.before + suc (length (drop (suc i) path))) r) last stands)

    -- how many were passed, where another one follows or none does
    pub early : is_last ≡ false → length passed.before + 1 < length path
    early more = omega (arith, whole, some_more (drop (suc i) path) (last ∙ more))

    pub late : is_last ≡ true → length path ≡ suc (length passed.before)
    late none = omega (arith, whole, ap length (none_left (drop (suc i) path) (last ∙ none)))

    first_fault : (r : ValidationReason) → IsFirst (Decode ∷ reasons) (IsFault accepts inputs here bytes) r → IsFirstFault accepts inputs path i r
    first_fault r h = record {
      first = first_along (IsFault accepts inputs here bytes) (HasFault accepts inputs path i) (Decode ∷ reasons) r (there r).1 (λ s. (there s).0) h;
      lowest = passed.reached.clean;
    }

    -- what is answered where it is refused
    pub refused : (e : ValidationFault) → path ≢ [] → (AreUnusable inputs → ⊥) → Judges accepts inputs here bytes i (Err e) → Answers accepts inputs path (Err e)
    refused Memory some usable h = some
    refused Empty some usable h = absurd h
    refused Initial some usable h = absurd h
    refused (At p r) some usable h = rw h.0 (usable, first_fault r h.1)

    module _ (c : Certificate) (judged : Judges accepts inputs here bytes i (Ok c)) where
      reached : Reached (faults_at accepts inputs) inputs.trust.anchor path (i + 1) (subject_of c) (passed.before ++ c ∷ [])
      reached = reached_next (faults_at accepts inputs) inputs.trust.anchor path i passed.above passed.before bytes passed.reached input c judged.0
          (λ r fault. judged.1 r (wrong Decode (Breaks accepts inputs here bytes) bytes c judged.0 r ((there r).0 fault)))

      -- the inputs up to this one are those of the certificates
      are_here : AreOf (passed.before ++ c ∷ []) (passed.done ++ bytes ∷ [])
      are_here = zip_push _ passed.before passed.done c bytes passed.are judged.0

      parts_here : path ≡ (passed.done ++ bytes ∷ []) ++ drop (suc i) path
      parts_here = split ∙ sym (append_assoc passed.done (bytes ∷ []) (drop (suc i) path))

      whole_are : is_last ≡ true → AreOf (passed.before ++ c ∷ []) path
      whole_are none = subst (AreOf (passed.before ++ c ∷ [])) (sym (parts_here ∙ ap (λ rest. (passed.done ++ bytes ∷ []) ++ rest) (none_left (drop (suc i) path) (last ∙ none)) ∙ append-nil (passed.done ++ bytes ∷ []))) are_here

      pub under : is_last ≡ true → (found : List Policy) → EndsUnder inputs (passed.before ++ c ∷ []) found → IsUnder inputs path found
      under none found ends = record {
        certificates = passed.before ++ c ∷ [];
        said = ends.said;
        settings = ends.settings;
        are = whole_are none;
        say = ends.say;
        at_start = ends.at_start;
        outcome = ends.outcome;
        once = ends.once;
      }

      pub with_its_parameters : is_last ≡ true → (parameters : Option (Bor (List ℕ)))
          → SpellsOption (λ l. l.now) any parameters (parameters_of (key_behind inputs.trust.anchor.key (passed.before ++ c ∷ []))) → AreParameters inputs path parameters
      with_its_parameters none parameters lends = record { certificates = passed.before ++ c ∷ []; are = whole_are none; lends = lends }

      module _ (names : Option NameConstraints) (next_lent : Above) (next_length : Option ℕ) (next_sets : Asked) (next_state : PolicyState) where
        next_stands : is_last ≡ false → AreConstraintsOf c names → LendsAnchor next_lent.anchor (subject_of c)
            → HoldsKey next_lent (working_key (key_behind inputs.trust.anchor.key passed.before) c.tbs_certificate.subject_public_key_info)
            → ((IsOver NamesMatch max_path_length (c ∷ []) → ⊥) → Leaves NamesMatch inputs.trust.max_path_length (passed.before ++ c ∷ []) next_length)
            → Holds next_sets.names (passed.stands.constraints ++ option_to_list names) → next_sets.uses ≡ sets.uses
            → AreLeft inputs.purposes (asked_before inputs.uses.is_chained (passed.before ++ c ∷ [])) (left_at next_sets) → Stands inputs (subject_of c) (passed.before ++ c ∷ []) moment next_lent next_length next_sets
        next_stands early of_names lends key leaves applied uses left = record {
          constraints = passed.stands.constraints ++ option_to_list names;
          at = passed.stands.at;
          lends = lends;
          key = subst (HoldsKey next_lent) (sym (one_behind inputs.trust.anchor.key passed.before c)) key;
          leaves = leaves (λ over. judged.1 PathLen (early, (too_many NamesMatch inputs.trust.max_path_length passed.before max_path_length c passed.stands.leaves).1 over));
          applied = applied;
          collects = collected inputs passed.before c passed.stands.constraints names passed.stands.collects of_names;
          uses = passed.stands.uses ∙ sym uses;
          purposes = left;
        }

        pub further : is_last ≡ false → AreConstraintsOf c names → LendsAnchor next_lent.anchor (subject_of c)
            → HoldsKey next_lent (working_key (key_behind inputs.trust.anchor.key passed.before) c.tbs_certificate.subject_public_key_info)
            → ((IsOver NamesMatch max_path_length (c ∷ []) → ⊥) → Leaves NamesMatch inputs.trust.max_path_length (passed.before ++ c ∷ []) next_length)
            → Holds next_sets.names (passed.stands.constraints ++ option_to_list names) → next_sets.uses ≡ sets.uses
            → AreLeft inputs.purposes (asked_before inputs.uses.is_chained (passed.before ++ c ∷ [])) (left_at next_sets) → Carries inputs (length path) (passed.before ++ c ∷ []) next_state
            → Passed (i + 1) moment next_lent next_length next_sets next_state
        further early of_names lends key leaves applied uses left carries = record {
          above = subject_of c;
          before = passed.before ++ c ∷ [];
          done = passed.done ++ bytes ∷ [];
          parts = let next : suc i ≡ i + 1 = omega arith in subst (λ n. path ≡ (passed.done ++ bytes ∷ []) ++ drop n path) next parts_here;
          place = omega (arith, length-append passed.done (bytes ∷ []), passed.place);
          are = are_here;
          carries = carries;
          stands = next_stands early of_names lends key leaves applied uses left;
          reached = reached;
        }

      -- it is the last one
      pub none : length path ≡ i + 1 → (place : ℕ) (r : ValidationReason) → HasFault accepts inputs path place r → ⊥
      none all = no_fault (faults_at accepts inputs) inputs.trust.anchor path (i + 1) (subject_of c) (passed.before ++ c ∷ []) reached (omega (arith, all))
