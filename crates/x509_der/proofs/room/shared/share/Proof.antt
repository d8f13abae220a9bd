-- A `&mut [u8]` is shared for all the time that it has left, and its last value is the one that it has. Assumes `Logic`.
use Rattle.std.proofs.Common.{◌≡◌, List, [], ◌∷◌, length, refl, w8}
use Rattle.std.specs.Prelude.{⊤}
use Rattle.std.proofs.raw_atomic.Walks.{proved}
use base.Fml.{ftrue, flft, fres}
use base.Stored.{coded_list}
use mathlib.Core.Option.{none}
use mir.Syntax.{named, erased}
use mir.Val.{Val}
use types.Kit.{‵, ◌⊛◌, later, ◌$◌, ◌∵◌, !, qed, done, move, keep, drop, use1, use2, split, join, fsplit, fjoin, feq_i, await, suffices, frame, group}
use types.Part.{agg, sub, whole}
use types.Run.{enter, addr, from, fld, hop, stop, no_more, and_then, returns}
use types.ByLocal.{alloc_all, pass_all, free_all, look_at, look_in_at, get, get_in, sets}
use denote.Builtin.{u8}
use denote.Exit.{no}
use denote.Follow.{follows_so}
use Rattle.x509_der.proofs.Rests.{rests}
use denote.FollowSlice.{finally-res}
use denote.Signature.{plain, mut_slice_of}
use denote.Slice.{MutSlice, slice_val, mut_slice_vals, mut_slice_Tells, finally}
use denote.Steps.{nothing}
use denote.Array.{Array}
use denote.Triple.Walked.{Stays, walk_of, says, stay_dropped, Goes-spent_slice, ends_at}
use borrow.Table.Owned as held
use borrow.Table.Copies.{c_rf, Shares-copy}
use borrow.Table.Referent.{laws_f, f_int}
use borrow.Rule.Slice.Handed.{sl_Share}
use Rattle.x509_der.specs.contracts.room.shared.share as f
use Rattle.x509_der.proofs.room.shared.share.Statement.{statement}
use Rattle.x509_der.proofs.room.shared.share.Code as code

abbrev stayed : Stays f.ended.signature.params f.ended.kept
stayed = (stay_dropped (mut_slice_of (0 ∷ []) tt (plain (λ _. u8))) no, tt)

pub share_spec : {M : Type 1} → statement M
share_spec 𝓤 𝓛 𝓜 𝓡 wired =
    let c = f.clauses 𝓛 𝓜.mem 𝓡.returns in let W = walk_of 𝓛 f.ended stayed c in
    proved 𝓛 f.ended stayed c 𝓜 𝓡 (Goes-spent_slice 𝓛 1 (0 ∷ []) tt (plain (λ _. u8)), tt)
    f.Key.name code.function (code.unfolded 𝓤 𝓛.H 𝓜 𝓡 wired)
    (λ κs. (mut_slice_vals, tt)) (λ κs. (mut_slice_Tells (named 0) κs.0 u8, tt)) (λ κs qs bounds a _ are.
    let κ = κs.0 in let q = qs.0 in let b = a.0.ref_ptr.0 in let o = a.0.ref_ptr.1 in let γ = a.0.ghost_name in let xs = a.0.now in let vs = mut_slice_vals a.0 in
    let fits = are.0.0.1.0 in
    let y : W.Ghost = ((κs, qs, bounds, a, (vs, tt)), tt) in
    qed 𝓛 (((‵ (flft κ q) ⊛ ‵ ftrue) ⊛ ‵ ((MutSlice (named 0) κ u8).own_val a.0 vs) ⊛ ‵ ftrue) ∷ ‵ ftrue ∷ []) ∵
    split ! $ split ! $ move ! (2 ∷ []) $ split ! $ keep ! (0 ∷ 2 ∷ []) $
    -- [the slice; the token]
    enter ! _ _ _ _ _ $ alloc_all ! (λ l. pass_all ! refl ((tt, (tt, (record { fits = fits }, tt))), tt) $
    sets ! (addr ! (from ! (fld ! refl (hop ! (look_in_at ! 1 (sub ! 0 refl (whole !))) (stop !))))) refl (tt, tt) $
    sets ! (agg ! (and_then ! (get ! refl) (and_then ! (get_in ! (fld ! refl (stop !)) (sub ! 1 refl (whole !))) (no_more !)))) refl (tt, (tt, (record { fits = fits }, tt))) $
    fsplit ! $ fsplit ! $ drop ! $ fjoin ! $
    use2 𝓛 (later (‵ ((held.ShrSlice erased κ u8).own_val (record { ref_ptr = (b, o); now = xs })) ⊛ (‵ (finally u8 γ xs) ⊛ ‵ (flft κ q))))
    (sl_Share 𝓛 u8 b o γ xs (laws_f (f_int w8)) κ q (Shares-copy 𝓛 (c_rf (f_int w8)) κ)) $ await ! tt $ split ! $ move ! (1 ∷ []) $ split ! $
    -- [how the slice's name ends; the token; the shared slice]
    use1 𝓛 (‵ (fres γ ((coded_list u8.coded).code xs))) (finally-res 𝓛 u8 γ xs) $
    use1 𝓛 (‵ (follows_so (Array u8 0) (Array u8 0) γ none (λ _ _. ⊤) (λ last. last ≡ xs))) (rests 𝓛 (Array u8 0) γ xs (λ last. last ≡ xs) refl) $
    returns ! (look_at ! 0 refl) $ free_all ! refl $ keep ! (2 ∷ 0 ∷ 1 ∷ []) $
    suffices ! _ (ends_at 𝓛 f.ended stayed c y (slice_val (b, o) (length xs)) (record { ref_ptr = (b, o); now = xs }) (tt, tt) (tt, tt)) $
    fsplit ! $ feq_i ! (List Val) (slice_val (b, o) (length xs) ∷ []) _ refl $ fjoin ! $ fjoin ! $
    nothing ! $ nothing ! $ join ! $ nothing ! $ move ! (4 ∷ 0 ∷ []) $ join ! $ group ! 3 $ frame ! $ says ! refl $ done !))
