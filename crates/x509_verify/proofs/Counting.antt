-- What a search takes.
use Rattle.std.proofs.Common.{◌≡◌, ◌∙◌, ◌⊎◌, inl, inr, ℕ, zero, suc, ◌+◌, ◌-◌, ◌*◌, ◌<◌, ◌≤◌, Bor, Bool, true, false, List, [], ◌∷◌, ◌++◌, length, take, drop, get_or, sum_by, bytes_eq, ◌||◌, if◌then◌else◌, IsErrAnd, Option, Some, None, Result, Ok, Err, refl, sym, ap, subst, arith}
use Rattle.std.specs.Cmp.Lexicographic.{bytes_decides}
use Rattle.std.specs.List.{Contains, list_any}
use Rattle.std.proofs.Math.Nat.{add-zero, mul-le-mul_right, suc-mul, zero-mul}
use Rattle.std.proofs.Math.Seq.{get_or-append_right}
use Rattle.std.proofs.lemmas.Bool.{cases_lt, true≢false}
use Rattle.std.proofs.lemmas.List.{length-map, get_or-drop, get_or-take, get_or_append_left, length-append, length-drop, length-take-le, take-append-drop}
use Rattle.std.proofs.lemmas.List.Sorted.{Contains-permutation, IsPermutation-append_comm}
use Rattle.std.proofs.lemmas.List.Sums.{sum_by-append, sum_by-take-drop, sum_by_more, sum_by_more_le}
use Rattle.std.specs.List.Sorted.{IsPermutation}
use Rattle.x509_verify.proofs.Keys.{at_behind}
use Rattle.x509_verify.specs.Effort.{Effort, anchored, bytes_of, effort, effort_below, is_there, named, nothing, plus, weigh}
use Rattle.x509_verify.specs.Found.{octets}
use Rattle.x509_verify.specs.Progress.{Lacks, Spends, Takes}
use Rattle.x509_verify.specs.declared.anchors.Anchors.{Anchors}
use Rattle.x509_verify.specs.declared.candidate.Candidate.{Candidate}
use Rattle.x509_verify.specs.declared.keyed.Keyed.{Keyed}
use Rattle.x509_verify.specs.declared.pool.Pool.{Pool}
use Rattle.x509_verify.specs.declared.found.Found.{Found}
use Rattle.x509_verify.specs.declared.progress.Stop.{Stop}
use Rattle.x509_verify.specs.declared.progress.Stop.TheVariants.{Memory, Limit}
use Rattle.x509_match.specs.declared.key.MatchedName.{MatchedName}

-- ---- what is taken, and what is lacking

pub takes_nothing : (p : Effort) → Takes p p nothing
takes_nothing p = record { steps = omega arith; paths = omega arith; signatures = omega arith }

pub takes_more : (a b c : Effort) (e f : Effort) → Takes a b e → Takes b c f → Takes a c (plus e f)
takes_more a b c e f first next = record {
  steps = omega (arith, first.steps, next.steps);
  paths = omega (arith, first.paths, next.paths);
  signatures = omega (arith, first.signatures, next.signatures);
}

-- each number is the same
pub record AreSame (e f : Effort) : Type 0 where
  pub steps : e.steps ≡ f.steps
  pub paths : e.paths ≡ f.paths
  pub signatures : e.signatures ≡ f.signatures

-- or no more
pub record IsUpTo (e f : Effort) : Type 0 where
  pub steps : e.steps ≤ f.steps
  pub paths : e.paths ≤ f.paths
  pub signatures : e.signatures ≤ f.signatures

pub takes_same : (a b : Effort) (e f : Effort) → AreSame e f → Takes a b e → Takes a b f
takes_same a b e f same takes = record {
  steps = omega (arith, takes.steps, same.steps);
  paths = omega (arith, takes.paths, same.paths);
  signatures = omega (arith, takes.signatures, same.signatures);
}

pub lacks_up_to : (a : Effort) (e f : Effort) → IsUpTo e f → Lacks a e → Lacks a f
lacks_up_to a e f up (inl steps) = inl (omega (arith, steps, up.steps))
lacks_up_to a e f up (inr (inl paths)) = inr (inl (omega (arith, paths, up.paths)))
lacks_up_to a e f up (inr (inr signatures)) = inr (inr (omega (arith, signatures, up.signatures)))

pub lacks_more : (a b : Effort) (e f : Effort) → Takes a b e → Lacks b f → Lacks a (plus e f)
lacks_more a b e f first (inl steps) = inl (omega (arith, first.steps, steps))
lacks_more a b e f first (inr (inl paths)) = inr (inl (omega (arith, first.paths, paths)))
lacks_more a b e f first (inr (inr signatures)) = inr (inr (omega (arith, first.signatures, signatures)))

-- ---- how it stops

-- what a search that goes on into another one stops with is what that one does
pub spends_stop : (a b : Effort) (e : Effort) (result : Result (Option Found) Stop) (stop : Stop) → IsErrAnd result (λ it. it ≡ stop) → Spends a b e (Err stop) → Spends a b e result
spends_stop a b e (Ok found) stop is spends = absurd is
spends_stop a b e (Err it) stop is spends = subst (λ s. Spends a b e (Err s)) (sym is) spends

pub stops_later : (a b c d : Effort) (e f all : Effort) (stop : Stop) → Takes a b e → IsUpTo (plus e f) all → Spends b c f (Err stop) → Spends a d all (Err stop)
stops_later a b c d e f all Memory first up spends = tt
stops_later a b c d e f all Limit first up spends = lacks_up_to a (plus e f) all up (lacks_more a b e f first spends)

-- ---- one step more

abbrev pub one_step : Effort
one_step = record { steps = 1; paths = 0; signatures = 0 }

module _ (before between : Effort) (steps : between.steps + 1 ≡ before.steps) (paths : between.paths ≡ before.paths) (signatures : between.signatures ≡ before.signatures) where
  pub step_takes : (after : Effort) (e : Effort) → Takes between after e → Takes before after (plus one_step e)
  step_takes after e takes = record {
    steps = omega (arith, takes.steps, steps);
    paths = omega (arith, takes.paths, paths);
    signatures = omega (arith, takes.signatures, signatures);
  }

  pub step_stops : (after later : Effort) (e : Effort) (stop : Stop) → Spends between after e (Err stop) → Spends before later (plus one_step e) (Err stop)
  step_stops after later e Memory spends = tt
  step_stops after later e Limit (inl lacks) = inl (omega (arith, lacks, steps))
  step_stops after later e Limit (inr (inl lacks)) = inr (inl (omega (arith, lacks, paths)))
  step_stops after later e Limit (inr (inr lacks)) = inr (inr (omega (arith, lacks, signatures)))

-- no step is left
pub no_step : (a b : Effort) (e : Effort) (stop : Stop) → a.steps ≡ 0 → Spends a b (plus one_step e) (Err stop)
no_step a b e Memory none = tt
no_step a b e Limit none = inl (omega (arith, none))

-- ---- anchors

-- so many paths of that length are tried
abbrev pub attempts : ℕ → ℕ → Effort
attempts count whole = record { steps = 0; paths = count; signatures = count * whole }

pub attempts_none : (whole : ℕ) → AreSame nothing (attempts 0 whole)
attempts_none whole = record { steps = refl; paths = refl; signatures = sym (zero-mul whole) }

pub one_attempt_more : (count whole : ℕ) → AreSame (plus (attempts count whole) (record { steps = 0; paths = 1; signatures = whole })) (attempts (count + 1) whole)
one_attempt_more count whole = record {
  steps = refl;
  paths = refl;
  signatures = let more = suc-mul count whole in let is : count + 1 ≡ suc count = omega arith in sym more ∙ ap (λ n. n * whole) (sym is);
}

pub attempts_up_to : (count all whole : ℕ) → count < all → IsUpTo (plus (attempts count whole) (record { steps = 0; paths = 1; signatures = whole })) (attempts all whole)
attempts_up_to count all whole less = record {
  steps = omega arith;
  paths = omega (arith, less);
  signatures = let more = suc-mul count whole in let le : suc count * whole ≤ all * whole = mul-le-mul_right {m = suc count} {n = all} whole less in omega (arith, more, le);
}

-- ---- the end of a chain

pub weighed_at_end : (each : ℕ) (last : MatchedName → ℕ) (candidates : List (Keyed MatchedName Candidate)) (path : List (List ℕ)) (issuer : MatchedName)
    → weigh each last candidates zero path issuer ≡ last issuer
unfolding weigh
weighed_at_end each last candidates path issuer = refl

pub effort_at_end : (anchors : Anchors) (pool : Pool) (left : ℕ) (path : List (List ℕ)) (issuer : MatchedName) (whole : ℕ) → left ≡ 0
    → AreSame (attempts (anchored anchors issuer) whole) (effort anchors pool (whole + left) left path issuer)
effort_at_end anchors pool left path issuer whole none =
    subst (λ n. AreSame (attempts (anchored anchors issuer) whole) (effort anchors pool (whole + n) n path issuer)) (sym none) (record {
      steps = sym (weighed_at_end 1 (λ key. 0) pool.entries.items path issuer);
      paths = sym (weighed_at_end 0 (anchored anchors) pool.entries.items path issuer);
      signatures = ap (λ n. anchored anchors issuer * n) (sym (add-zero whole)) ∙ sym (weighed_at_end 0 (λ key. anchored anchors key * (whole + 0)) pool.entries.items path issuer);
    })

pub same_up_to : (e f : Effort) → AreSame e f → IsUpTo e f
same_up_to e f same = record { steps = omega (arith, same.steps); paths = omega (arith, same.paths); signatures = omega (arith, same.signatures) }

pub spends_same : (a b : Effort) (e f : Effort) (result : Result (Option Found) Stop) → AreSame e f → Spends a b e result → Spends a b f result
spends_same a b e f (Ok None) same spends = takes_same a b e f same spends
spends_same a b e f (Ok (Some found)) same spends = tt
spends_same a b e f (Err Memory) same spends = tt
spends_same a b e f (Err Limit) same spends = lacks_up_to a e f (same_up_to e f same) spends

-- ---- candidates in turn

-- from one on, and then those before it
abbrev pub turned : {X : Type 0} → ℕ → List X → List X
turned start xs = drop start xs ++ take start xs

module _ {X : Type 0} (xs : List X) (start : ℕ) (within : start ≤ length xs) where
  pub turned_length : length (turned start xs) ≡ length xs
  turned_length = omega (arith, length-append (drop start xs) (take start xs), length-drop start xs, length-take-le start xs within, within)

  pub turned_at : (place index : ℕ) (d : X) → place < length xs → (place < length xs - start → index ≡ start + place) → (length xs - start ≤ place → index ≡ place - (length xs - start))
      → get_or (turned start xs) place d ≡ get_or xs index d
  turned_at place index d less early_is late_is = elim (cases_lt place (length xs - start)) [
    | inl early ↦
        get_or_append_left (drop start xs) (take start xs) d place (omega (arith, early, length-drop start xs)) ∙ (get_or-drop start xs place d ∙ ap (λ n. get_or xs n d) (sym (early_is early)))
    | inr late ↦
        let behind : length (drop start xs) ≡ length xs - start = length-drop start xs in
        get_or-append_right (drop start xs) (take start xs) place d (omega (arith, late, behind)) ∙ (ap (λ n. get_or (take start xs) (place - n) d) behind
        ∙ (get_or-take start xs (place - (length xs - start)) d (omega (arith, late, less, within)) ∙ ap (λ n. get_or xs n d) (sym (late_is late))))
  ]

  pub turned_every : (x : X) → Contains xs x → Contains (turned start xs) x
  turned_every x among = Contains-permutation (take start xs ++ drop start xs) (turned start xs) x (IsPermutation-append_comm (take start xs) (drop start xs))
      (subst (λ ys. Contains ys x) (sym (take-append-drop start xs)) among)

  pub turned_sum : (f : X → ℕ) → sum_by f (turned start xs) ≡ sum_by f xs
  turned_sum f = let all = sum_by-append f (drop start xs) (take start xs) in let parts = sum_by-take-drop f xs start in omega (arith, all, parts)

-- ---- candidates

cost : ℕ → (MatchedName → ℕ) → List (Keyed MatchedName Candidate) → ℕ → List (List ℕ) → Keyed MatchedName Candidate → ℕ
cost each last candidates left path entry = if is_there path entry then 0 else each + weigh each last candidates left (bytes_of entry ∷ path) entry.value.issuer

weighed : (each : ℕ) (last : MatchedName → ℕ) (candidates : List (Keyed MatchedName Candidate)) (left : ℕ) (path : List (List ℕ)) (issuer : MatchedName)
    → weigh each last candidates (suc left) path issuer ≡ sum_by (cost each last candidates left path) (named issuer candidates)
unfolding weigh cost
weighed each last candidates left path issuer = refl

cost_there : (each : ℕ) (last : MatchedName → ℕ) (candidates : List (Keyed MatchedName Candidate)) (left : ℕ) (path : List (List ℕ)) (entry : Keyed MatchedName Candidate)
    → is_there path entry ≡ true → cost each last candidates left path entry ≡ 0
unfolding cost
cost_there each last candidates left path entry there =
    ap (λ b. if b then 0 else each + weigh each last candidates left (bytes_of entry ∷ path) entry.value.issuer) there

cost_new : (each : ℕ) (last : MatchedName → ℕ) (candidates : List (Keyed MatchedName Candidate)) (left : ℕ) (path : List (List ℕ)) (entry : Keyed MatchedName Candidate)
    → is_there path entry ≡ false → cost each last candidates left path entry ≡ each + weigh each last candidates left (bytes_of entry ∷ path) entry.value.issuer
unfolding cost
cost_new each last candidates left path entry new =
    ap (λ b. if b then 0 else each + weigh each last candidates left (bytes_of entry ∷ path) entry.value.issuer) new

module _ (anchors : Anchors) (pool : Pool) (whole left : ℕ) (path : List (List ℕ)) where
  -- what it takes to try these above the path
  pub spent : List (Keyed MatchedName Candidate) → Effort
  spent entries = record {
    steps = sum_by (cost 1 (λ key. 0) pool.entries.items left path) entries;
    paths = sum_by (cost 0 (anchored anchors) pool.entries.items left path) entries;
    signatures = sum_by (cost 0 (λ key. anchored anchors key * whole) pool.entries.items left path) entries;
  }

  pub spent_none : AreSame nothing (spent [])
  unfolding spent
  spent_none = record { steps = refl; paths = refl; signatures = refl }

  module _ (entries : List (Keyed MatchedName Candidate)) (k : ℕ) (entry : Keyed MatchedName Candidate) (less : k < length entries) (here : get_or entries k entry ≡ entry) where
    -- one that stands in the path takes nothing
    pub one_there : is_there path entry ≡ true → AreSame (spent (take k entries)) (spent (take (k + 1) entries))
    unfolding spent
    one_there there = record {
      steps = same 1 (λ key. 0);
      paths = same 0 (anchored anchors);
      signatures = same 0 (λ key. anchored anchors key * whole);
    } where
      same : (each : ℕ) (last : MatchedName → ℕ) → sum_by (cost each last pool.entries.items left path) (take k entries) ≡ sum_by (cost each last pool.entries.items left path) (take (k + 1) entries)
      same each last =
          let f = cost each last pool.entries.items left path in
          let more = sum_by_more f entries k entry less in
          let none = ap f here ∙ cost_there each last pool.entries.items left path entry there in
          omega (arith, more, none)

    -- another one a step, and what it takes with it above the path
    abbrev pub with_one : Effort
    with_one = plus one_step (effort anchors pool whole left (bytes_of entry ∷ path) entry.value.issuer)

    pub one_new : is_there path entry ≡ false → AreSame (plus (spent (take k entries)) with_one) (spent (take (k + 1) entries))
    unfolding spent
    one_new new = record {
      steps = same 1 (λ key. 0);
      paths = same 0 (anchored anchors);
      signatures = same 0 (λ key. anchored anchors key * whole);
    } where
      same : (each : ℕ) (last : MatchedName → ℕ) → sum_by (cost each last pool.entries.items left path) (take k entries) + (each + weigh each last pool.entries.items left (bytes_of entry ∷ path) entry.value.issuer)
          ≡ sum_by (cost each last pool.entries.items left path) (take (k + 1) entries)
      same each last =
          let f = cost each last pool.entries.items left path in
          let more = sum_by_more f entries k entry less in
          let this = ap f here ∙ cost_new each last pool.entries.items left path entry new in
          omega (arith, more, this)

    pub one_up_to : is_there path entry ≡ false → IsUpTo (plus (spent (take k entries)) with_one) (spent entries)
    unfolding spent
    one_up_to new = record {
      steps = up 1 (λ key. 0);
      paths = up 0 (anchored anchors);
      signatures = up 0 (λ key. anchored anchors key * whole);
    } where
      up : (each : ℕ) (last : MatchedName → ℕ) → sum_by (cost each last pool.entries.items left path) (take k entries) + (each + weigh each last pool.entries.items left (bytes_of entry ∷ path) entry.value.issuer)
          ≤ sum_by (cost each last pool.entries.items left path) entries
      up each last =
          let f = cost each last pool.entries.items left path in
          let more = sum_by_more_le f entries k entry less in
          let this = ap f here ∙ cost_new each last pool.entries.items left path entry new in
          omega (arith, more, this)

  -- all of a name in turn take what the name does
  pub spent_all : (issuer : MatchedName) (entries : List (Keyed MatchedName Candidate)) (start : ℕ) → start ≤ length entries → entries ≡ named issuer pool.entries.items
      → AreSame (spent (turned start entries)) (effort anchors pool whole (suc left) path issuer)
  unfolding spent
  spent_all issuer entries start within is = record {
    steps = same 1 (λ key. 0);
    paths = same 0 (anchored anchors);
    signatures = same 0 (λ key. anchored anchors key * whole);
  } where
    same : (each : ℕ) (last : MatchedName → ℕ) → sum_by (cost each last pool.entries.items left path) (turned start entries) ≡ weigh each last pool.entries.items (suc left) path issuer
    same each last =
        turned_sum entries start within (cost each last pool.entries.items left path) ∙ (ap (sum_by (cost each last pool.entries.items left path)) is
        ∙ sym (weighed each last pool.entries.items left path issuer))

  -- one of them takes no more than all
  pub one_of_all : (issuer : MatchedName) (entries : List (Keyed MatchedName Candidate)) (start : ℕ) → start ≤ length entries → entries ≡ named issuer pool.entries.items
      → (k : ℕ) (entry : Keyed MatchedName Candidate) (less : k < length (turned start entries)) (here : get_or (turned start entries) k entry ≡ entry) → is_there path entry ≡ false
      → IsUpTo (plus (spent (take k (turned start entries))) (with_one (turned start entries) k entry less here)) (effort anchors pool whole (suc left) path issuer)
  one_of_all issuer entries start within is k entry less here new =
      let up = one_up_to (turned start entries) k entry less here new in
      let all = spent_all issuer entries start within is in record {
        steps = omega (arith, up.steps, all.steps);
        paths = omega (arith, up.paths, all.paths);
        signatures = omega (arith, up.signatures, all.signatures);
      }

-- what it takes above a path with one more
pub child_effort : (anchors : Anchors) (pool : Pool) (count left fewer : ℕ) (path : List (List ℕ)) (bytes : List ℕ) (own issuer : MatchedName) (longer : List (Bor (List ℕ)))
    → octets longer ≡ bytes ∷ path → left ≡ suc fewer → length path ≡ count → own ≡ issuer
    → AreSame (effort anchors pool (length longer + fewer) fewer (octets longer) own) (effort anchors pool (count + left) fewer (bytes ∷ path) issuer)
child_effort anchors pool count left fewer path bytes own issuer longer is more many same =
    let size : length longer + fewer ≡ count + left = omega (arith, ap length is, length-map longer (λ (b : Bor (List ℕ)). b.now), more, many) in
    subst (λ i. AreSame (effort anchors pool (length longer + fewer) fewer (octets longer) own) (effort anchors pool (count + left) fewer (bytes ∷ path) i)) same (record {
      steps = ap (λ p. weigh 1 (λ key. 0) pool.entries.items fewer p own) is;
      paths = ap (λ p. weigh 0 (anchored anchors) pool.entries.items fewer p own) is;
      signatures = ap (λ p. weigh 0 (λ key. anchored anchors key * (length longer + fewer)) pool.entries.items fewer p own) is
          ∙ ap (λ n. weigh 0 (λ key. anchored anchors key * n) pool.entries.items fewer (bytes ∷ path) own) size;
    })

-- ---- more and more candidates

module _ (anchors : Anchors) (pool : Pool) (path : List (List ℕ)) (issuer : MatchedName) where
  pub below_none : AreSame nothing (effort_below anchors pool 0 path issuer)
  unfolding effort_below
  below_none = record { steps = refl; paths = refl; signatures = refl }

  pub below_more : (count whole next : ℕ) → whole ≡ length path + count → next ≡ suc count
      → AreSame (plus (effort_below anchors pool count path issuer) (effort anchors pool whole count path issuer)) (effort_below anchors pool next path issuer)
  unfolding effort_below
  below_more count whole next size is =
      subst (λ n. AreSame (plus (effort_below anchors pool count path issuer) (effort anchors pool whole count path issuer)) (effort_below anchors pool n path issuer)) (sym is) (record {
        steps = refl;
        paths = refl;
        signatures = ap (λ n. (effort_below anchors pool count path issuer).signatures + weigh 0 (λ key. anchored anchors key * n) pool.entries.items count path issuer) size;
      })

  below_further : (count all more : ℕ) → all ≡ more + count → IsUpTo (effort_below anchors pool count path issuer) (effort_below anchors pool all path issuer)
  unfolding effort_below
  below_further count all zero is =
      let same : count ≡ all = omega (arith, is) in
      subst (λ n. IsUpTo (effort_below anchors pool count path issuer) (effort_below anchors pool n path issuer)) same (record { steps = omega arith; paths = omega arith; signatures = omega arith })
  below_further count all (suc more) is =
      let up = below_further count (more + count) more refl in
      let same : suc (more + count) ≡ all = omega (arith, is) in
      subst (λ n. IsUpTo (effort_below anchors pool count path issuer) (effort_below anchors pool n path issuer)) same (record {
        steps = omega (arith, up.steps);
        paths = omega (arith, up.paths);
        signatures = omega (arith, up.signatures);
      })

  -- one number of candidates takes no more than all of them
  pub one_of_below : (count whole all : ℕ) → whole ≡ length path + count → count < all
      → IsUpTo (plus (effort_below anchors pool count path issuer) (effort anchors pool whole count path issuer)) (effort_below anchors pool all path issuer)
  one_of_below count whole all size less =
      let more = below_more count whole (suc count) size refl in
      let up = below_further (suc count) all (all - suc count) (omega (arith, less)) in record {
        steps = omega (arith, more.steps, up.steps);
        paths = omega (arith, more.paths, up.paths);
        signatures = omega (arith, more.signatures, up.signatures);
      }

-- ---- what stands in a path

there_if : (path : List (List ℕ)) (bytes : List ℕ) → Contains path bytes → list_any (λ one. bytes_eq one bytes) path ≡ true
there_if [] bytes (k, less, is) = absurd (omega (arith, less))
there_if (x ∷ path) bytes (zero, less, is) = ap (λ b. b || list_any (λ one. bytes_eq one bytes) path) ((bytes_decides x bytes).1 is)
there_if (x ∷ path) bytes (suc k, less, is) = rest (bytes_eq x bytes) (there_if path bytes (k, omega (arith, less), is)) where
  rest : (b : Bool) → list_any (λ one. bytes_eq one bytes) path ≡ true → (b || list_any (λ one. bytes_eq one bytes) path) ≡ true
  rest true is = refl
  rest false is = is

only_there : (path : List (List ℕ)) (bytes : List ℕ) → list_any (λ one. bytes_eq one bytes) path ≡ true → Contains path bytes
only_there [] bytes is = absurd (true≢false (sym is))
only_there (x ∷ path) bytes is = cases (bytes_eq x bytes) refl (only_there path bytes) where
  cases : (b : Bool) → bytes_eq x bytes ≡ b → (list_any (λ one. bytes_eq one bytes) path ≡ true → Contains path bytes) → Contains (x ∷ path) bytes
  cases true same behind = (0, omega arith, (bytes_decides x bytes).0 same)
  cases false other behind = at_behind x path bytes (behind (ap (λ b. b || list_any (λ one. bytes_eq one bytes) path) (sym other) ∙ is))

pub is_there_true : (path : List (List ℕ)) (entry : Keyed MatchedName Candidate) → Contains path (bytes_of entry) → is_there path entry ≡ true
is_there_true path entry among = there_if path (bytes_of entry) among

pub is_there_false : (path : List (List ℕ)) (entry : Keyed MatchedName Candidate) → (Contains path (bytes_of entry) → ⊥) → is_there path entry ≡ false
is_there_false path entry none = cases (is_there path entry) refl where
  cases : (b : Bool) → is_there path entry ≡ b → is_there path entry ≡ false
  cases true is = absurd (none (only_there path (bytes_of entry) is))
  cases false is = is
