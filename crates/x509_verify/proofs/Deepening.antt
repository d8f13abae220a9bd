-- From shorter paths to longer ones.
use Rattle.std.proofs.Common.{◌≡◌, ◌↔◌, ◌∙◌, ◌⊎◌, inl, inr, ℕ, zero, suc, ◌+◌, ◌<◌, ◌≤◌, List, [], ◌∷◌, ◌++◌, length, map, Option, Some, None, Err, refl, sym, ap, subst, arith}
use Rattle.std.specs.List.{All, Contains}
use Rattle.std.specs.Prelude.{IsSome}
use Rattle.std.proofs.Math.Nat.{eq-or-lt_of_le}
use Rattle.std.proofs.lemmas.Bool.{cases_lt, true≢false}
use Rattle.std.proofs.lemmas.List.{length-map}
use Rattle.std.proofs.lemmas.List.Elements.{All-nil}
use Rattle.x509_path.specs.Certificates.{Accepting}
use Rattle.x509_path_steps.specs.declared.trusted.Trusted.{Trusted}
use Rattle.x509_verify.proofs.Climbing.{upwards}
use Rattle.x509_verify.specs.Found.{Answers, AreDistinct, AreLinked, IsAbove, IsFound, IsLinkedTo, IsRefusal, IsShortest, IsSound, IsValidUnder, LeadsTo, NoneIsLinked, NoneLeads, Wanted, octets, told_by}
use Rattle.x509_verify.specs.Progress.{AreTriedBelow, IsAnswer, IsOnPath, IsRight, IsTried, MayStand, climbed, up_to}
use Rattle.x509_verify.specs.declared.found.Found.{Found}
use Rattle.x509_verify.specs.declared.progress.Progress.{Progress}
use Rattle.x509_verify.specs.declared.refusal.Refusal.{Refusal}

module _ (accepts : Accepting) (wanted : Wanted) where
  -- ---- what is within fewer candidates is within more

  more_above : (low high : ℕ) → low ≤ high → (above : List (List ℕ)) → IsAbove (up_to wanted low) above → IsAbove (up_to wanted high) above
  more_above low high le above stand = record { known = stand.known; once = stand.once; short = omega (arith, stand.short, le) }

  pub more_found : (low high : ℕ) → low ≤ high → (found : Found) → IsFound accepts (up_to wanted low) found → IsFound accepts (up_to wanted high) found
  more_found low high le found is = record {
    above = is.above;
    path = is.path;
    leads = record { is_trusted = is.leads.is_trusted; stand = more_above low high le is.above is.leads.stand; valid = is.leads.valid };
    gives = is.gives;
  }

  pub more_right : (low high : ℕ) → low ≤ high → (progress : Progress) → IsRight accepts (up_to wanted low) progress → IsRight accepts (up_to wanted high) progress
  more_right low high le progress right = record {
    asked = right.asked;
    refusal = λ told is. let r = right.refusal told is in record {
      above = r.above;
      path = r.path;
      is_trusted = r.is_trusted;
      stand = more_above low high le r.above r.stand;
      fault = r.fault;
    };
  }

  -- ---- one length more

  pub nothing_noted : (progress : Progress) → All (IsAnswer accepts) progress.asked.items → progress.refusal ≡ None → IsRight accepts wanted progress
  nothing_noted progress asked none = record { asked = asked; refusal = λ told is. absurd (no_some progress.refusal told none is) } where
    no_some : (o : Option Refusal) (r : Refusal) → o ≡ None → o ≡ Some r → ⊥
    no_some None r none is = cc
    no_some (Some x) r none is = cc

  pub starts : (path : List (List ℕ)) (depth : ℕ) → path ≡ wanted.leaf ∷ [] → IsOnPath (up_to wanted depth) path depth
  starts path depth is = record {
    above = [];
    whole = is;
    known = All-nil (λ bytes. Contains wanted.candidates bytes);
    once = subst AreDistinct (sym is) ((λ (k, less, same). omega (arith, less)), tt);
    short = omega arith;
  }

  pub none_below : (refusal : Option Refusal) → AreTriedBelow accepts wanted 0 refusal
  none_below refusal = record {
    none = λ trusted above less leads. omega (arith, less);
    noted = λ trusted above less linked. absurd (omega (arith, less));
  }

  module _ (path : List (List ℕ)) (is : path ≡ wanted.leaf ∷ []) (depth : ℕ) (before after : Option Refusal) (stays : IsSome before → IsSome after)
      (below : AreTriedBelow accepts wanted depth before) (tried : IsTried accepts (up_to wanted depth) path depth after) where
    stands : (above : List (List ℕ)) → length above ≡ depth → IsAbove wanted above → (up : List (List ℕ)) × MayStand (up_to wanted depth) path depth up × (climbed up path ≡ above ++ wanted.leaf ∷ [])
    stands above many stand =
        let it = upwards (λ bytes. Contains wanted.candidates bytes) above path stand.known in
        let same = it.same ∙ ap (λ p. above ++ p) is in
        (it.up, record { known = it.all; once = subst AreDistinct (sym same) stand.once; many = it.many ∙ many }, same)

    pub one_more : (next : ℕ) → next ≡ suc depth → AreTriedBelow accepts wanted next after
    one_more next so = record {
      none = λ trusted above less leads. elim (shorter above next so less) [
        | inl same ↦ let (up, may, whole) = stands above same leads.stand in
            (tried trusted up leads.is_trusted may).none (subst (λ p. IsValidUnder accepts wanted.settings trusted p) (sym whole) leads.valid)
        | inr fewer ↦ below.none trusted above fewer leads
      ];
      noted = λ trusted above less linked. elim (shorter above next so less) [
        | inl same ↦ let (up, may, whole) = stands above same linked.stand in
            let (x, spells, names) = linked.linked in
            (tried trusted up linked.is_trusted may).noted x spells (subst (λ p. AreLinked x p) (sym whole) names)
        | inr fewer ↦ stays (below.noted trusted above fewer linked)
      ];
    } where
      shorter : (above : List (List ℕ)) (n : ℕ) → n ≡ suc depth → length above < n → (length above ≡ depth) ⊎ (length above < depth)
      shorter above n is less = let le : length above ≤ depth = omega (arith, is, less) in eq-or-lt_of_le le

  -- one that is found behind all shorter ones is a shortest
  pub shortest : (depth : ℕ) (refusal : Option Refusal) → AreTriedBelow accepts wanted depth refusal → (found : Found) → IsFound accepts (up_to wanted depth) found → IsShortest accepts wanted found
  shortest depth refusal below found is trusted above leads = elim (eq-or-lt (length above) depth) [
    | inl fewer ↦ absurd (below.none trusted above fewer leads)
    | inr enough ↦
        let size : length found.path.items ≡ length is.above + 1 = sym (length-map found.path.items (λ lent. lent.now)) ∙ ap length is.path ∙ push is.above in
        omega (arith, size, enough, is.leads.stand.short)
  ] where
    eq-or-lt : (a b : ℕ) → (a < b) ⊎ (b ≤ a)
    eq-or-lt a b = cases_lt a b

    push : (xs : List (List ℕ)) → length (xs ++ wanted.leaf ∷ []) ≡ length xs + 1
    push [] = refl
    push (x ∷ xs) = let rest = push xs in omega (arith, rest)

  -- ---- the end

  pub none_leads : (refusal : Option Refusal) → AreTriedBelow accepts wanted (suc wanted.max_depth) refusal → NoneLeads accepts wanted
  none_leads refusal below trusted above leads = below.none trusted above (omega (arith, leads.stand.short)) leads

  pub none_linked : (refusal : Option Refusal) → AreTriedBelow accepts wanted (suc wanted.max_depth) refusal → refusal ≡ None → NoneIsLinked wanted
  none_linked refusal below is trusted above linked = nothing refusal is (below.noted trusted above (omega (arith, linked.stand.short)) linked) where
    nothing : (r : Option Refusal) → r ≡ None → IsSome r → ⊥
    nothing None same some = absurd (true≢false (sym some))
    nothing (Some r) same some = cc

  -- what is told of it
  pub none_answers : IsSound wanted → (refusal : Option Refusal) → AreTriedBelow accepts wanted (suc wanted.max_depth) refusal → ((told : Refusal) → refusal ≡ Some told → IsRefusal accepts wanted told)
      → Answers accepts wanted (Err (told_by refusal))
  none_answers sound None below right = (sound, none_linked None below refl, none_leads None below)
  none_answers sound (Some told) below right = (sound, none_leads (Some told) below, right told refl)
