-- `encode_to_slice` writes at the end of the room, and the room keeps what was written. Assumes `Logic`.
use Rattle.std.proofs.Common.{◌≡◌, ℕ, ◌+◌, ◌-◌, ◌≤◌, min, List, [], ◌∷◌, ◌++◌, length, take, refl, sym, ap, MutBor}
use Rattle.std.specs.Prelude.{⊤, Result, IfOk, IfErr, OnOk}
use Rattle.std.specs.contracts.result.Result as result_row
use Rattle.std.proofs.result.Result.TheLaws.{the_row_laws as result_laws}
use Rattle.std.proofs.raw_atomic.Walks.{proved}
use base.Fml.{GName, ftrue, flft}
use base.Fraction.{full_share}
use base.Logic.{emp, id⊢}
use mathlib.Core.Option.{none}
use mir.MapTy.{inst_fn}
use mir.Syntax.{Args, a_type, dcons, dnil, named, erased}
use mir.Val.{Val}
use contract.BorrowLft.{◌⊑◌}
use contract.Monad.{fact, fact_i}
use contract.Running.{tables}
use types.Kit.{‵, raw, given, ◌⊛◌, some, later, ◌$◌, ◌∵◌, !, qed, done, move, keep, drop, use0, use1, use2, use3, split, split3, join, fsplit, fjoin, feq_i, learn, await, pick, suffices, group}
use types.Part.{agg, sub, whole}
use types.Run.{enter, addr, from, fld, hop, stop, no_more, and_then, returns}
use types.ByLocal.{alloc_all, pass_all, free_all, look_at, look_in_at, get, get_in, sets, lands_as}
use types.Tokens.{lft_new, lft_end}
use denote.RattleType.{RattleType}
use denote.Builtin.{u8, usize, RefOf}
use denote.Exit.{no, yes}
use denote.Follow.{follows_so}
use denote.Laws.{Is, shows}
use denote.Param.{param, bounded}
use denote.Param.Laws.{Laws, of_field}
use denote.Param.Shared.{copy_shared}
use denote.Ref.{Bor, ShrRef, shr_vals, shr_Tells}
use denote.Signature.{plain, mut_slice_of}
use denote.Slice.{MutSlice, ShrSlice, slice_val, mut_slice_vals, mut_slice_Tells, shr_slice_Lawful}
use denote.Steps.{nothing, heard, peeks}
use denote.Struct.Field.{u8-field, usize-field, shr_slice_field}
use denote.Struct.Laws.{u8-laws, u8-copy, usize-laws, usize-copy, shr_slice_laws, shr_slice_copy}
use denote.Array.{Array}
use denote.Triple.Call.{calls_at}
use denote.Triple.Clauses.{lasts}
use denote.Triple.Spec.{triple_of}
use denote.Triple.Table.{framed}
use denote.Triple.Walked.{Stays, walk_of, stay_dropped, Goes-dropped, Goes-spent_slice, ends_at}
use borrow.Table.Owned as held
use borrow.Rule.Slice.Lend.{kept_f, sl_relend, sl_relent_backˡ}
use Rattle.x509_der.specs.declared.error.Error.{Error}
use Rattle.x509_der.specs.declared.error.ErrorKind.{ErrorKind}
use Rattle.x509_der.specs.contracts.error.Error as error_row
use Rattle.x509_der.proofs.error.Error.TheLaws.{the_row_laws as error_laws}
use Rattle.x509_der.specs.Element.{limit}
use Rattle.x509_der.specs.Writing.{writes, IsWritable, IsUnwritable, written_spelling}
use Rattle.x509_der.proofs.Answered.{Wrote, Answers, After, within, answers}
use Rattle.x509_der.proofs.Rests.{rests_so}
use Rattle.x509_der.specs.contracts.encode.Encode.encode_to_slice as f
use Rattle.x509_der.proofs.encode.Encode.encode_to_slice.Statement.{statement}
use Rattle.x509_der.proofs.encode.Encode.encode_to_slice.Code as code
use Rattle.x509_der.specs.contracts.encode.Encode.encode_into as into
use Rattle.x509_der.proofs.encode.Encode.encode_into.Met as into_met
use Rattle.x509_der.specs.contracts.room.shared.share as share
use Rattle.x509_der.proofs.room.shared.share.Met as share_met
use Rattle.x509_der.specs.contracts.room.shared.bytes_after as after
use Rattle.x509_der.proofs.room.shared.bytes_after.Met as after_met

pub encode_to_slice_spec : {M : Type 1} → statement M
encode_to_slice_spec 𝓤 𝓛 𝓜 𝓡 wired S L en end gr grd met met' =
    let c = f.clauses S en end gr grd 𝓛 𝓜.mem 𝓡.returns in let T = f.ended S en end gr grd in
    let stayed : Stays T.signature.params T.kept = (stay_dropped (RefOf (0 ∷ []) tt (plain (λ _. param 0 S)) (λ _. tt)) yes, (stay_dropped (mut_slice_of (1 ∷ []) tt (plain (λ _. u8))) no, tt)) in
    let W = walk_of 𝓛 T stayed c in
    let args : Args = bounded (a_type ∷ []) (S, tt) (dcons end (dcons grd dnil)) in
    let fm = framed 𝓤 𝓛.H 𝓜 (tables 𝓤 𝓛.H 𝓜 𝓡 𝓡.env) in
    proved 𝓛 T stayed c 𝓜 𝓡 (Goes-dropped 𝓛 3 (RefOf (0 ∷ []) tt (plain (λ _. param 0 S)) (λ _. tt)) yes (λ κs x f. refl), (Goes-spent_slice 𝓛 3 (1 ∷ []) tt (plain (λ _. u8)), tt))
    (f.Key.name args) (inst_fn args code.function) (code.unfolded 𝓤 𝓛.H 𝓜 𝓡 wired (S, tt) end grd)
    (λ κs. (shr_vals, (mut_slice_vals, tt))) (λ κs. (shr_Tells (named 0) κs.0 (param 0 S), (mut_slice_Tells (named 1) κs.1.0 u8, tt))) (λ κs qs bounds a _ are.
    let κ₀ = κs.0 in let κ = κs.1.0 in let κ₂ = κs.1.1.0 in let q₀ = qs.0 in let q = qs.1.0 in let q₂ = qs.1.1.0 in
    let self = a.0 in let room = a.1.0 in let b = room.ref_ptr.0 in let o = room.ref_ptr.1 in let γ = room.ghost_name in let xs = room.now in
    let fits = are.1.0.0.1.0 in
    let before_laws : Laws (result_row.the_row usize error_row.the_row) = result_laws usize error_row.the_row (of_field usize-field usize-laws refl (copy_shared usize-field usize-copy)) error_laws in
    let slice : Val = slice_val (b, o) (length xs) in
    let y : W.Ghost = ((κs, qs, bounds, a, (shr_vals self, (mut_slice_vals room, tt))), tt) in
    let bytes_field = shr_slice_field (record { mir = named 0; lft = κ }) u8-field.row tt in
    let answer_laws : Laws (result_row.the_row (ShrSlice (named 0) κ u8) error_row.the_row) = result_laws (ShrSlice (named 0) κ u8) error_row.the_row
    (of_field bytes_field (shr_slice_laws (record { mir = named 0; lft = κ }) u8-field.row tt) refl (copy_shared bytes_field (shr_slice_copy (record { mir = named 0; lft = κ }) u8-field.row tt (of_field u8-field u8-laws refl (copy_shared u8-field u8-copy)).shr_laws)))
    error_laws in
    qed 𝓛 (((‵ (flft κ₀ q₀) ⊛ ‵ (flft κ q) ⊛ ‵ (flft κ₂ q₂) ⊛ ‵ ftrue) ⊛ ‵ ((ShrRef (named 0) κ₀ (param 0 S)).own_val self (shr_vals self)) ⊛ ‵ ((MutSlice (named 1) κ u8).own_val room (mut_slice_vals room)) ⊛ ‵ ftrue)
    ∷ (given (κ₂ ⊑ S.lives) (‵ ftrue) ⊛ ‵ ftrue) ∷ []) ∵
    split ! $ split3 ! $ move ! (2 ∷ []) $ split ! $ move ! (4 ∷ []) $ split3 ! $ move ! (7 ∷ []) $ split ! $ learn ! (λ short. keep ! (2 ∷ 3 ∷ 5 ∷ 7 ∷ 8 ∷ []) $
    -- [self; the room; the tokens of κ₂, κ₀ and κ]
    enter ! _ _ _ _ _ $ alloc_all ! (λ l. pass_all ! refl ((tt, tt), ((tt, (tt, (record { fits = fits }, tt))), tt)) $
    sets ! (addr ! (from ! (fld ! refl (hop ! (look_in_at ! 2 (sub ! 0 refl (whole !))) (stop !))))) refl (tt, tt) $
    sets ! (agg ! (and_then ! (get ! refl) (and_then ! (get_in ! (fld ! refl (stop !)) (sub ! 1 refl (whole !))) (no_more !)))) refl (tt, (tt, (record { fits = fits }, tt))) $
    lft_new ! tt (λ α. move ! (2 ∷ []) $ fsplit ! $ fsplit ! $ drop ! $ fjoin ! $ move ! (0 ∷ 5 ∷ []) $
    use2 𝓛 (later (some (λ (δ : GName). ‵ ((held.MutSlice erased (α ∷ []) u8).own_val (record { ref_ptr = (b, o); ghost_name = δ; now = xs })) ⊛ kept_f 𝓛 u8 κ q (α ∷ []) γ δ xs b o)))
    (sl_relend 𝓛 u8 κ q (α ∷ []) b o γ xs) $ await ! tt $ pick ! (λ δ. split ! $
    fsplit ! $ feq_i ! (List Val) (slice ∷ []) (slice ∷ []) refl $ fjoin ! $ fjoin ! $
    -- [the loan; what the room keeps; the token of α; self; the tokens of κ₂ and κ₀]
    let loan : MutBor (List ℕ) = record { ref_ptr = (b, o); ghost_name = δ; now = xs } in
    let G = triple_of 𝓛 (into.signature S) (into.spec S en end gr grd 𝓛 𝓜.mem 𝓡.returns) in
    let z : G.Ghost = (((κ₀, (α ∷ [], (κ₂, tt))), (q₀, (full_share, (q₂, tt))), bounds, (self, (loan, tt)), (shr_vals self, (slice ∷ [], tt))), tt) in
    nothing ! $ move ! (1 ∷ 0 ∷ []) $ join ! $ move ! (3 ∷ 0 ∷ []) $ join ! $
    nothing ! $ move ! (4 ∷ 0 ∷ []) $ join ! $ move ! (3 ∷ 0 ∷ []) $ join ! $ move ! (3 ∷ 0 ∷ []) $ join ! $ join ! $
    nothing ! $ use0 𝓛 (raw (fact 𝓤 (κ₂ ⊑ S.lives))) (fact_i 𝓤 _ (emp 𝓤) short) $ join ! $ move ! (1 ∷ 0 ∷ []) $
    use2 𝓛 (raw (G.pre z)) (id⊢ 𝓤 _) $
    calls_at ! fm G (into_met.met 𝓤 𝓛 𝓜 𝓡 (code.calls-x509_der::encode::Encode::encode_into 𝓡.env wired) S L en end gr grd met met') z
    (and_then ! (get ! refl) (and_then ! (get ! refl) (no_more !))) (λ v.
    let spelling = written_spelling gr.form (writes en.writing self.now) in
    let can : Type 0 = IsWritable gr.form (writes en.writing self.now) (min (length xs) limit) in
    let refuses : ErrorKind → Type 0 = λ k. IsUnwritable gr.form (writes en.writing self.now) (min (length xs) limit) k in
    let Before : RattleType = result_row.the_row usize error_row.the_row in
    use1 𝓛 (later (some (λ (r : Result ℕ Error). ((‵ (flft κ₀ q₀) ⊛ ‵ (flft (α ∷ []) full_share) ⊛ ‵ (flft κ₂ q₂) ⊛ ‵ ftrue) ⊛ ‵ (Before.own_val r (v ∷ []))) ⊛
    some (λ (ws : Unit {0} × (List ℕ × Unit {0})). ‵ (lasts (into.ended S en end gr grd) z.0.0 z.0.3 ws) ⊛
    (raw (fact 𝓤 (OnOk r can)) ⊛ raw (fact 𝓤 (IfOk r (λ n. ws.1.0 ≡ take n xs ++ spelling))) ⊛ raw (fact 𝓤 (IfOk r (λ n. n + length spelling ≡ length xs))) ⊛ raw (fact 𝓤 (IfErr r (λ e. refuses e.kind)))))))) (id⊢ 𝓤 _) $
    await ! tt $ pick ! (λ r. split ! $ split ! $ move ! (2 ∷ []) $ pick ! (λ ws. split ! $ move ! (1 ∷ []) $
    split ! $ heard ! _ (λ ok. split ! $ heard ! _ (λ bytes. split ! $ heard ! _ (λ len. heard ! _ (λ err.
    -- [what the loan ends as; the tokens; what is before; what the room keeps]
    let ys : List ℕ = ws.1.0 in
    let wrote : Wrote xs ys spelling can refuses r = record { ok = ok; bytes = bytes; len = len; err = err } in
    fsplit ! $ drop ! $ fsplit ! $ fsplit ! $ fsplit ! $ move ! (4 ∷ []) $ split3 ! $ move ! (1 ∷ []) $ lft_end ! tt $
    move ! (7 ∷ []) $ peeks ! Before (Is Before) (shows 𝓛 Before) r (v ∷ []) (λ is. lands_as ! refl refl (((before_laws.lawful 𝓛).typed r (v ∷ []) is).0) $
    move ! (1 ∷ 8 ∷ 4 ∷ []) $
    use3 𝓛 (later (given (length ys ≡ length xs) (‵ ((held.MutSlice erased κ u8).own_val (record { ref_ptr = (b, o); ghost_name = γ; now = ys })) ⊛ ‵ (flft κ q))))
    (sl_relent_backˡ 𝓛 u8 κ q (α ∷ []) b o γ δ xs ys) $ await ! tt $ learn ! (λ same_len. split ! $
    -- [the room; the token of κ; what is before; the tokens of κ₀ and κ₂; ..]
    sets ! (addr ! (from ! (fld ! refl (hop ! (look_in_at ! 2 (sub ! 0 refl (whole !))) (stop !))))) refl (tt, tt) $
    sets ! (agg ! (and_then ! (get ! refl) (and_then ! (get_in ! (fld ! refl (stop !)) (sub ! 1 refl (whole !))) (no_more !)))) refl (tt, (tt, (record { fits = fits }, tt))) $
    let whole_room : MutBor (List ℕ) = record { ref_ptr = (b, o); ghost_name = γ; now = ys } in
    let G₂ = triple_of 𝓛 share.signature (share.spec 𝓛 𝓜.mem 𝓡.returns) in
    let z₂ : G₂.Ghost = (((κ, tt), (q, tt), tt, (whole_room, tt), (slice ∷ [], tt)), tt) in
    fsplit ! $ feq_i ! (List Val) (slice ∷ []) (mut_slice_vals whole_room) (ap (λ (n : ℕ). slice_val (b, o) n ∷ []) (sym same_len)) $ fjoin ! $ fjoin ! $
    nothing ! $ move ! (1 ∷ 0 ∷ []) $ join ! $ nothing ! $ move ! (2 ∷ 0 ∷ []) $ join ! $ join ! $ nothing ! $ move ! (1 ∷ 0 ∷ []) $
    use2 𝓛 (raw (G₂.pre z₂)) (id⊢ 𝓤 _) $
    calls_at ! fm G₂ (share_met.met 𝓤 𝓛 𝓜 𝓡 (code.calls-x509_der::room::shared::share 𝓡.env wired)) z₂ (and_then ! (get ! refl) (no_more !)) (λ v₂.
    use1 𝓛 (later (some (λ (shown : Bor (List ℕ)). ((‵ (flft κ q) ⊛ ‵ ftrue) ⊛ ‵ ((ShrSlice (named 0) κ u8).own_val shown (v₂ ∷ []))) ⊛
    some (λ (ws : Unit {0} × Unit {0}). ‵ (lasts share.ended z₂.0.0 z₂.0.3 ws) ⊛
    (‵ (follows_so (Array u8 0) (Array u8 0) γ none (λ _ _. ⊤) (λ last. last ≡ ys)) ⊛ raw (fact 𝓤 (shown.now ≡ ys))))))) (id⊢ 𝓤 _) $
    await ! tt $ pick ! (λ shown. split ! $ split ! $ move ! (2 ∷ []) $ pick ! (λ ws. split ! $ drop ! $ split ! $ move ! (1 ∷ []) $ heard ! _ (λ same.
    -- [what the room ends as; the token of κ; the shared bytes; what is before; ..]
    let Shown : RattleType = ShrSlice (named 0) κ u8 in let Answer : RattleType = result_row.the_row Shown error_row.the_row in
    let G₃ = triple_of 𝓛 after.signature (after.spec 𝓛 𝓜.mem 𝓡.returns) in
    let z₃ : G₃.Ghost = (((κ, tt), (q, tt), tt, (r, (shown, tt)), (v ∷ [], (v₂ ∷ [], tt))), tt) in
    move ! (2 ∷ []) $ peeks ! Shown (Is Shown) (shows 𝓛 Shown) shown (v₂ ∷ []) (λ is₂. lands_as ! refl refl (((shr_slice_Lawful 𝓛 (named 0) κ u8).typed shown (v₂ ∷ []) is₂).0) $
    nothing ! $ move ! (1 ∷ 0 ∷ []) $ join ! $ move ! (3 ∷ 0 ∷ []) $ join ! $ move ! (2 ∷ 0 ∷ []) $ join ! $
    use0 𝓛 (raw (fact 𝓤 (IfOk r (λ n. n ≤ length shown.now)))) (fact_i 𝓤 _ (emp 𝓤) (within xs ys spelling can refuses r shown.now wrote same_len same)) $ move ! (1 ∷ 0 ∷ []) $
    use2 𝓛 (raw (G₃.pre z₃)) (id⊢ 𝓤 _) $
    calls_at ! fm G₃ (after_met.met 𝓤 𝓛 𝓜 𝓡 (code.calls-x509_der::room::shared::bytes_after 𝓡.env wired)) z₃ (and_then ! (get ! refl) (and_then ! (get ! refl) (no_more !))) (λ v₃.
    use1 𝓛 (later (some (λ (answer : Result (Bor (List ℕ)) Error). ((‵ (flft κ q) ⊛ ‵ ftrue) ⊛ ‵ (Answer.own_val answer (v₃ ∷ []))) ⊛
    some (λ (ws : Unit {0} × (Unit {0} × Unit {0})). ‵ (lasts after.ended z₃.0.0 z₃.0.3 ws) ⊛ raw (fact 𝓤 (After r shown.now answer)))))) (id⊢ 𝓤 _) $
    await ! tt $ pick ! (λ answer. split ! $ split ! $ move ! (2 ∷ []) $ pick ! (λ ws. split ! $ drop ! $ heard ! _ (λ said.
    -- [the token of κ; the answer; what the room ends as; the tokens of κ₀ and κ₂; ..]
    let answers_so : Answers xs ys spelling can refuses answer = answers xs ys spelling can refuses r shown.now answer wrote same said in
    let Place : List ℕ → Type 0 = λ last. IfOk answer (λ bytes. last ≡ take (length xs - length bytes.now) xs ++ bytes.now) in
    move ! (1 ∷ []) $ peeks ! Answer (Is Answer) (shows 𝓛 Answer) answer (v₃ ∷ []) (λ is₃. lands_as ! refl refl (((answer_laws.lawful 𝓛).typed answer (v₃ ∷ []) is₃).0) $
    move ! (2 ∷ []) $ use1 𝓛 (‵ (follows_so (Array u8 0) (Array u8 0) γ none (λ _ _. ⊤) Place)) (rests_so 𝓛 (Array u8 0) γ ys Place answers_so.place) $
    returns ! (look_at ! 0 refl) $ free_all ! refl $ keep ! (0 ∷ 1 ∷ 2 ∷ 3 ∷ 4 ∷ []) $
    suffices ! _ (ends_at 𝓛 T stayed c y v₃ answer (tt, (tt, tt)) (tt, (tt, tt))) $
    use0 𝓛 (raw (fact 𝓤 (IfErr answer (λ e. refuses e.kind)))) (fact_i 𝓤 _ (emp 𝓤) answers_so.err) $ join ! $
    use0 𝓛 (raw (fact 𝓤 (IfOk answer (λ bytes. bytes.now ≡ spelling)))) (fact_i 𝓤 _ (emp 𝓤) answers_so.bytes) $ join ! $
    use0 𝓛 (raw (fact 𝓤 (OnOk answer can))) (fact_i 𝓤 _ (emp 𝓤) answers_so.ok) $ join ! $
    -- [what is ensured; the answer; the tokens of κ, κ₀ and κ₂]
    move ! (1 ∷ []) $ nothing ! $ nothing ! $ join ! $ nothing ! $ join ! $ move ! (3 ∷ []) $ split ! $ move ! (0 ∷ 6 ∷ []) $ join ! $ move ! (5 ∷ 0 ∷ []) $ join ! $
    move ! (1 ∷ []) $ drop ! $ group ! 3 $ done !))))))))))))))))))))))))
