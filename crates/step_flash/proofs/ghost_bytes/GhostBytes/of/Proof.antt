-- The ghost field is set to the bytes that were passed. The struct owns nothing, and nothing is stored.
use Rattle.std.proofs.Common.{List, [], ◌∷◌, refl}
use Rattle.std.proofs.raw_atomic.Walks.{proved}
use base.Fml.{ftrue, feq, fsep, flft}
use mir.Syntax.{named}
use mir.Val.{Val, vstruct, vnil}
use types.Kit.{‵, ◌⊛◌, ◌$◌, ◌∵◌, !, qed, split, keep, suffices, done, join, fjoin, fpack, feq_i, move}
use types.Run.{enter, returns, no_more}
use types.Part.{agg}
use types.ByLocal.{alloc_all, pass_all, free_all, look_at, sets}
use denote.Builtin.{u8}
use denote.Exit.{yes}
use denote.Signature.{Slot, plain, shr_slice_of}
use denote.Slice.{ShrSlice, shr_slice_vals, shr_slice_Tells}
use denote.Steps.{nothing}
use denote.Triple.Walked.{Stays, stay_dropped, Goes-dropped, walk_of, says, ends_at}
use Rattle.step_flash.specs.contracts.ghost_bytes.GhostBytes.of as f
use Rattle.step_flash.proofs.ghost_bytes.GhostBytes.of.Statement.{statement}
use Rattle.step_flash.proofs.ghost_bytes.GhostBytes.of.Code as code

abbrev lent : Slot 1
lent = shr_slice_of (0 ∷ []) tt (plain (λ _. u8))

abbrev stayed : Stays f.ended.signature.params f.ended.kept
stayed = (stay_dropped lent yes, tt)

pub of_spec : {M : Type 1} → statement M
of_spec 𝓤 𝓛 𝓜 𝓡 wired =
    let c = f.clauses 𝓛 𝓜.mem 𝓡.returns in let W = walk_of 𝓛 f.ended stayed c in
    proved 𝓛 f.ended stayed c 𝓜 𝓡 (Goes-dropped 𝓛 1 lent yes (λ κs x w. refl), tt)
    f.Key.name code.function (code.unfolded 𝓤 𝓛.H 𝓜 𝓡 wired)
    (λ κs. (shr_slice_vals, tt)) (λ κs. (shr_slice_Tells (named 0) κs.0 u8, tt)) (λ κs qs bounds a _ are.
    let bytes = a.0 in
    let y : W.Ghost = ((κs, qs, bounds, a, (shr_slice_vals bytes, tt)), tt) in
    -- [the token of the lifetime; the slice; no `requires`]
    qed 𝓛 (((‵ (flft κs.0 qs.0) ⊛ ‵ ftrue) ⊛ ‵ ((ShrSlice (named 0) κs.0 u8).own_val bytes (shr_slice_vals bytes)) ⊛ ‵ ftrue) ∷ ‵ ftrue ∷ []) ∵
    split ! $ keep ! (0 ∷ []) $
    enter ! _ _ _ _ _ $ alloc_all ! (λ l. pass_all ! refl ((tt, (tt, (record { fits = are.0.0.1.0 }, tt))), tt) $
    sets ! (agg ! (no_more !)) refl (tt, tt) $
    returns ! (look_at ! 0 refl) $ free_all ! refl $
    suffices ! _ (ends_at 𝓛 f.ended stayed c y (vstruct vnil) (record { bytes = bytes.now }) (tt, tt) (tt, tt)) $ says ! refl $
    -- the result
    nothing ! $ feq_i ! (List Val) (vstruct vnil ∷ []) (vstruct vnil ∷ []) refl $ fjoin ! $
    fpack ! (Unit {0}) (λ vss. fsep (feq (List Val) (vstruct vnil ∷ []) (vstruct vnil ∷ [])) ftrue) tt $ nothing ! $ move ! (1 ∷ 0 ∷ []) $ fjoin ! $
    -- nothing of the slice, and the token
    nothing ! $ nothing ! $ join ! $ move ! (2 ∷ []) $ done !))
