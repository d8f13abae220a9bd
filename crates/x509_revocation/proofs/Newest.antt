-- The newest delta CRL to a complete one, sought among CRLs.
use Rattle.std.proofs.Common.{◌≡◌, ◌+◌, ◌++◌, ◌∙◌, ◌↔◌, ℕ, suc, Bool, true, false, option_map, inl, inr, List, [], ◌∷◌, length, length-append, Option, Some, None, refl, sym, ap, subst, arith}
use Rattle.std.proofs.lemmas.Bool.{true≢false}
use Rattle.std.proofs.lemmas.List.{append_assoc, append-nil}
use Rattle.std.proofs.lemmas.List.Elements.{All-nil, All-cons, All-head, All-tail, All-append, All-weaker}
use Rattle.std.specs.Bool.{IsTrue}
use Rattle.std.specs.List.{All}
use Rattle.std.specs.Prelude.{MatchOption}
use Rattle.x509_check.specs.CrlRefs.{lent_entry}
use Rattle.x509_check.specs.declared.lent.entry.RevokedCertRef.{RevokedCertRef}
use Rattle.x509_revocation.specs.Crls.{Crl, IsOlder}
use Rattle.x509_revocation.specs.Entries.{FindsEntry}
use Rattle.x509_revocation.specs.Lent.{LendsAll, LendsCrl, LendsGiven}
use Rattle.x509_revocation.specs.LentDeltas.{IsNewer, IsNewestAmong, IsNewestOf, IsNoNewer}
use Rattle.x509_revocation.specs.Says.{FindsDelta, GivenCrl, IsCurrentDelta, IsDeltaTo, Question}
use Rattle.x509_revocation.specs.declared.steps.Newest.{Newest}
use Rattle.x509_revocation.specs.declared.signed_crl.SignedCrl.{SignedCrl}
use Rattle.x509_revocation.proofs.Older.{not_older, older_other, older_through}

-- ---- of all members, and of one among others

one_of : {X : Type 0} (P : X → Type 0) (before : List X) (x : X) (behind : List X) → All P (before ++ x ∷ behind) → P x
one_of P [] x behind all = All-head P x behind all
one_of P (y ∷ before) x behind all = one_of P before x behind (All-tail P y (before ++ x ∷ behind) all)

module _ (question : Question) (indirect : Bool) (complete : GivenCrl) where
  abbrev IsDelta : GivenCrl → Type 0
  IsDelta given = IsDeltaTo question indirect complete given

  abbrev IsNone : GivenCrl → Type 0
  IsNone given = IsDelta given → ⊥

  abbrev IsOld : GivenCrl → GivenCrl → Type 0
  IsOld delta other = IsDelta other → IsOlder other.crl delta.crl

  abbrev IsLate : GivenCrl → GivenCrl → Type 0
  IsLate delta other = IsDelta other → IsOlder delta.crl other.crl → ⊥

  -- ---- one is looked for in

  pub not_next : (newest : Option Newest) (d : GivenCrl) (b : Bool) (bytes : List ℕ) → b ≡ false → LendsCrl bytes d.crl
      → MatchOption newest (b ≡ true) (λ it. (x y : Crl) → LendsCrl it.crl.now.bytes.now x → LendsCrl bytes y → IsTrue b ↔ IsOlder x y)
      → IsNoNewer question indirect complete newest d
  not_next None d b bytes not lends is = absurd (true≢false (sym is ∙ not))
  not_next (Some newest) d b bytes not lends is = λ other lent fits older. true≢false (sym ((is other d.crl lent lends).1 older) ∙ not)

  next_so : (newest : Option Newest) (crl : Crl) (b : Bool) (bytes : List ℕ) → b ≡ true → LendsCrl bytes crl
      → MatchOption newest (b ≡ true) (λ it. (x y : Crl) → LendsCrl it.crl.now.bytes.now x → LendsCrl bytes y → IsTrue b ↔ IsOlder x y)
      → IsNewer newest crl
  next_so None crl b bytes so lends is = tt
  next_so (Some newest) crl b bytes so lends is = λ other lent. (is other crl lent lends).0 so

  none_so : (newest : Option Newest) (d : GivenCrl) → IsNone d → IsNoNewer question indirect complete newest d
  none_so None d none = none
  none_so (Some newest) d none = λ other lent fits older. none fits

  pub looked_for : {Y : Type 0} (P : Y → Type 0) (newest : Option Newest) (d : GivenCrl) (b : Bool) (bytes : List ℕ) (looked : Option Y) → b ≡ true → LendsCrl bytes d.crl
      → MatchOption newest (b ≡ true) (λ it. (x y : Crl) → LendsCrl it.crl.now.bytes.now x → LendsCrl bytes y → IsTrue b ↔ IsOlder x y)
      → MatchOption looked (IsNone d) (λ y. IsDelta d × P y)
      → MatchOption looked (IsNoNewer question indirect complete newest d) (λ y. IsNewer newest d.crl × IsDelta d × P y)
  looked_for P newest d b bytes None so lends is none = none_so newest d none
  looked_for P newest d b bytes (Some y) so lends is found = (next_so newest d.crl b bytes so lends is, found.0, found.1)

  -- ---- one more was looked at

  module _ (seen : List GivenCrl) (d : GivenCrl) where
    pub stays : (newest : Option Newest) (found : Option RevokedCertRef) → IsNoNewer question indirect complete newest d → IsNewestOf question indirect complete seen newest found
        → IsNewestOf question indirect complete (seen ++ d ∷ []) newest found
    stays None found none all = All-append IsNone seen (d ∷ []) all (All-cons IsNone d [] none (All-nil IsNone))
    stays (Some newest) found none among = record {
      delta = among.delta;
      before = among.before;
      behind = among.behind ++ d ∷ [];
      stands = ap (λ l. l ++ d ∷ []) among.stands ∙ append_assoc among.before (among.delta ∷ among.behind) (d ∷ []);
      place = among.place;
      lends = among.lends;
      fits = among.fits;
      finds = among.finds;
      older = among.older;
      none_newer = All-append (IsLate among.delta) among.behind (d ∷ []) among.none_newer (All-cons (IsLate among.delta) d [] (none among.delta.crl among.lends) (All-nil (IsLate among.delta)));
    }

    all_old : (newest : Option Newest) (found : Option RevokedCertRef) → IsNewer newest d.crl → IsNewestOf question indirect complete seen newest found → All (IsOld d) seen
    all_old None found next all = All-weaker IsNone (IsOld d) (λ x none fits. absurd (none fits)) seen all
    all_old (Some newest) found next among =
        let delta = among.delta in
        let so = next delta.crl among.lends in
        let before = All-weaker (IsOld delta) (IsOld d) (λ x is fits. older_through x.crl delta.crl d.crl (is fits) so) among.before among.older in
        let behind = All-weaker (IsLate delta) (IsOld d) (λ x is fits. older_other x.crl delta.crl d.crl fits.0.in_order.2 fits.0.in_order.5 (is fits) so) among.behind among.none_newer in
        subst (All (IsOld d)) (sym among.stands) (All-append (IsOld d) among.before (delta ∷ among.behind) before (All-cons (IsOld d) delta among.behind (λ fits. so) behind))

    -- it is the newest
    pub taken : (newest : Option Newest) (found : Option RevokedCertRef) (next : Newest) (entry : Option RevokedCertRef) → IsNewestOf question indirect complete seen newest found → next.place ≡ length seen
        → LendsCrl next.crl.now.bytes.now d.crl → IsNewer newest d.crl → IsDelta d → FindsEntry question.certificate d.crl (option_map lent_entry entry)
        → IsNewestAmong question indirect complete (seen ++ d ∷ []) next entry
    taken newest found next entry of place lends newer fits finds = record {
      delta = d;
      before = seen;
      behind = [];
      stands = refl;
      place = place;
      lends = lends;
      fits = fits;
      finds = finds;
      older = all_old newest found newer of;
      none_newer = All-nil (IsLate d);
    }

  -- ---- one after the other

  module _ (all : List GivenCrl) where
    -- these CRLs are left, from that place on, behind those that were looked at
    pub record Sees (lent : List SignedCrl) (place : ℕ) (newest : Option Newest) (found : Option RevokedCertRef) : Type 0 where
      pub seen : List GivenCrl
      pub others : List GivenCrl
      pub stands : all ≡ seen ++ others
      pub lends : LendsAll lent others
      pub place_is : place ≡ length seen
      pub newest_of : IsNewestOf question indirect complete seen newest found

    pub starts : (lent : List SignedCrl) (found : Option RevokedCertRef) → LendsAll lent all → Sees lent 0 None found
    starts lent found lends = record { seen = []; others = all; stands = refl; lends = lends; place_is = refl; newest_of = All-nil IsNone }

    module _ (place : ℕ) (newest : Option Newest) (found : Option RevokedCertRef) (first : SignedCrl) (lent : List SignedCrl) where
      further_by : (seen others : List GivenCrl) (next : Option Newest) (entry : Option RevokedCertRef) → all ≡ seen ++ others → LendsAll (first ∷ lent) others → place ≡ length seen
          → ((g : GivenCrl) → LendsGiven first g → IsNewestOf question indirect complete (seen ++ g ∷ []) next entry)
          → Sees lent (place + 1) next entry
      further_by seen [] next entry stands lends at step = absurd lends
      further_by seen (g ∷ others) next entry stands lends at step = record {
        seen = seen ++ g ∷ [];
        others = others;
        stands = stands ∙ sym (append_assoc seen (g ∷ []) others);
        lends = lends.1;
        place_is = omega (arith, at, length-append seen (g ∷ []));
        newest_of = step g lends.0;
      }

      pub passed : Sees (first ∷ lent) place newest found → ((g : GivenCrl) → LendsGiven first g → IsNoNewer question indirect complete newest g) → Sees lent (place + 1) newest found
      passed sees none = further_by sees.seen sees.others newest found sees.stands sees.lends sees.place_is (λ g lends. stays sees.seen g newest found (none g lends) sees.newest_of)

      pub further : (next : Newest) (entry : Option RevokedCertRef) → next.place ≡ place → next.crl ≡ first.crl → Sees (first ∷ lent) place newest found
          → ((g : GivenCrl) → LendsGiven first g → IsNewer newest g.crl × IsDelta g × FindsEntry question.certificate g.crl (option_map lent_entry entry))
          → Sees lent (place + 1) (Some next) entry
      further next entry at is sees step =
          further_by sees.seen sees.others (Some next) entry sees.stands sees.lends sees.place_is (λ g lends.
          let s = step g lends in
          taken sees.seen g newest found next entry sees.newest_of (at ∙ sees.place_is) (subst (λ crl. LendsCrl crl.now.bytes.now g.crl) (sym is) lends.crl) s.0 s.1 s.2)

    ended_by : (newest : Option Newest) (found : Option RevokedCertRef) (seen others : List GivenCrl) → all ≡ seen ++ others → LendsAll [] others → IsNewestOf question indirect complete seen newest found
        → IsNewestOf question indirect complete all newest found
    ended_by newest found seen [] stands lends of = subst (λ l. IsNewestOf question indirect complete l newest found) (sym (stands ∙ append-nil seen)) of
    ended_by newest found seen (g ∷ others) stands lends of = absurd lends

    pub ended : (place : ℕ) (newest : Option Newest) (found : Option RevokedCertRef) → Sees [] place newest found → IsNewestOf question indirect complete all newest found
    ended place newest found sees = ended_by newest found sees.seen sees.others sees.stands sees.lends sees.newest_of

    -- ---- what is found then

    finds_none : (place : ℕ) (others : List GivenCrl) → All IsNone others → FindsDelta question indirect complete all place others None
    finds_none place [] none = refl
    finds_none place (g ∷ others) none = inr ((λ is. All-head IsNone g others none is.0), finds_none (suc place) others (All-tail IsNone g others none))

    pub found_none : All IsNone all → FindsDelta question indirect complete all 0 all None
    found_none none = finds_none 0 all none

    finds : (place at : ℕ) (before : List GivenCrl) (d : GivenCrl) (behind : List GivenCrl) → at ≡ place + length before → All (λ x. IsCurrentDelta question indirect complete all x → ⊥) before
        → IsCurrentDelta question indirect complete all d → FindsDelta question indirect complete all place (before ++ d ∷ behind) (Some (at, d))
    finds place at [] d behind is none current = inl (current, (let same : at ≡ place = omega (arith, is) in ap (λ n. Some (n, d)) same))
    finds place at (x ∷ before) d behind is none current =
        inr (
          All-head (λ x. IsCurrentDelta question indirect complete all x → ⊥) x before none,
          finds (suc place) at before d behind (omega (arith, is)) (All-tail (λ x. IsCurrentDelta question indirect complete all x → ⊥) x before none) current,
        )

    pub found_one : (newest : Newest) (found : Option RevokedCertRef) → IsNewestAmong question indirect complete all newest found
        → (d : GivenCrl) × FindsDelta question indirect complete all 0 all (Some (newest.place, d)) × FindsEntry question.certificate d.crl (option_map lent_entry found)
    found_one newest found among =
        let d = among.delta in
        let before = All-weaker (IsOld d) (IsLate d) (λ x is fits newer. not_older d.crl (older_through d.crl x.crl d.crl newer (is fits))) among.before among.older in
        let none_newer = subst (All (IsLate d)) (sym among.stands)
        (All-append (IsLate d) among.before (d ∷ among.behind) before (All-cons (IsLate d) d among.behind (λ fits newer. not_older d.crl newer) among.none_newer)) in
        let passed_by = All-weaker (IsOld d) (λ x. IsCurrentDelta question indirect complete all x → ⊥)
        (λ x is current. one_of (IsLate x) among.before d among.behind (subst (All (IsLate x)) among.stands current.1) among.fits (is current.0)) among.before among.older in
        let first = finds 0 newest.place among.before d among.behind (omega (arith, among.place)) passed_by (among.fits, none_newer) in
        (d, subst (λ l. FindsDelta question indirect complete all 0 l (Some (newest.place, d))) (sym among.stands) first, among.finds)
