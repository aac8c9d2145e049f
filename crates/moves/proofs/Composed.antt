-- A call that does moves, one call after another.
use Rattle.std.proofs.Common.{◌≡◌, ℕ, suc, ◌+◌, ◌<◌, ◌≤◌, List, [], ◌∷◌, ◌++◌, length, take, Result, Ok, Err, Some, refl, sym, ap, subst, ◌∙◌, arith}
use Rattle.std.proofs.lemmas.List.{length-append, take-append-le}
use Rattle.std.proofs.lemmas.List.FromFn.{length-map-range_with_len, get_or-map-range_with_len}
use Rattle.std.proofs.lemmas.Result.{on_ok_weaker, IfOk-from_err}
use Rattle.std.specs.Prelude.{IsErr, Contains}
use Rattle.base_core.specs.Block.{block}
use Rattle.flash_core.specs.{declared.flash.FlashStop.FlashStop, Told.Told, Told.NothingDirty, Told.fresh, May.May, May.Guards}
use Rattle.fwu_formats.specs.{Metadata.MetaRead, Metadata.meta_read, Image.deciding}
use Rattle.fwu_model.specs.{Sound.Setting, Seen.seen, Seen.SoundFlash, Calm.IsCalm, Run.prefixes, Headline.ShowsOneOf}
use Rattle.fwu_model.specs.State.{State, Move, after, after_move}
use Rattle.fwu_model.proofs.Frame.{calm-stays, calm-again, start-is-calm}
use Rattle.moves.specs.Moved.{IsReady, Does}

-- ---- lists of moves

pub after-append : (s : State) (ms ns : List Move) → after s (ms ++ ns) ≡ after (after s ms) ns
after-append s [] ns = refl
after-append s (m ∷ ms) ns = after-append (after_move s m) ms ns

take_past : (ms ns : List Move) (k : ℕ) → take (length ms + k) (ms ++ ns) ≡ ms ++ take k ns
take_past [] ns k = let z : 0 + k ≡ k = omega arith in ap (λ n. take n ns) z
take_past (m ∷ ms) ns k =
    let z : suc (length ms) + k ≡ suc (length ms + k) = omega arith in
    ap (λ n. take n (m ∷ ms ++ ns)) z ∙ ap (λ (l : List Move). m ∷ l) (take_past ms ns k)

-- the state after a prefix is one of those
prefix-in : (s : State) (ms : List Move) (n : ℕ) → n ≤ length ms → Contains (prefixes s ms) (after s (take n ms))
prefix-in s ms n le =
    let f = λ (k : ℕ). after s (take k ms) in
    let len = length-map-range_with_len f 0 (length ms + 1) in
    (n, omega (arith, le, len), get_or-map-range_with_len f 0 (length ms + 1) n n (after s (take n ms)) (omega (arith, le)) (omega arith))

-- and each of those is the state after a prefix
prefix-at : (s x : State) (ms : List Move) → Contains (prefixes s ms) x → (n : ℕ) × (n ≤ length ms) × (after s (take n ms) ≡ x)
prefix-at s x ms (k, lt, e) =
    let below : k < length ms + 1 = omega (arith, lt, length-map-range_with_len (λ (n : ℕ). after s (take n ms)) 0 (length ms + 1)) in
    (k, omega (arith, below), sym (get_or-map-range_with_len (λ (n : ℕ). after s (take n ms)) 0 (length ms + 1) k k x below (omega arith)) ∙ e)

prefix-first : (s x : State) (ms ns : List Move) → Contains (prefixes s ms) x → Contains (prefixes s (ms ++ ns)) x
prefix-first s x ms ns among =
    let at = prefix-at s x ms among in
    subst (λ (y : State). Contains (prefixes s (ms ++ ns)) y) (ap (after s) (take-append-le at.0 ms ns at.1) ∙ at.2) (prefix-in s (ms ++ ns) at.0 (omega (arith, at.1, length-append ms ns)))

prefix-next : (s x : State) (ms ns : List Move) → Contains (prefixes (after s ms) ns) x → Contains (prefixes s (ms ++ ns)) x
prefix-next s x ms ns among =
    let at = prefix-at (after s ms) x ns among in
    subst (λ (y : State). Contains (prefixes s (ms ++ ns)) y) (ap (after s) (take_past ms ns at.0) ∙ after-append s ms (take at.0 ns) ∙ at.2) (prefix-in s (ms ++ ns) (length ms + at.0) (omega (arith, at.1, length-append ms ns)))

-- ---- calls

among : (E : Setting) (xs ys : List State) (image : List ℕ) → ((x : State) → Contains xs x → Contains ys x) → ShowsOneOf E xs image → ShowsOneOf E ys image
among E xs ys image more it = record { state = it.state; one = more it.state it.one; shows = it.shows; sound = it.sound }

-- a call that stopped did a prefix of whatever was to follow
pub does-stopped : {T U : Type 0} (given : Result T FlashStop) (result : Result U FlashStop) (E : Setting) (s : State) (ms ns : List Move) (t : Told) → IsErr result → Does given E s ms t → Does result E s (ms ++ ns) t
does-stopped given result E s ms ns t err does = record {
  each = λ image may. among E (prefixes s ms) (prefixes s (ms ++ ns)) image (λ x. prefix-first s x ms ns) (does.each image may);
  all = IfOk-from_err result (λ x. IsReady E t (after s (ms ++ ns))) err;
}

-- a call that is done, and the next one, from the state that the first one left
pub does-then : {T U : Type 0} (x : T) (result : Result U FlashStop) (E : Setting) (s : State) (ms ns : List Move) (m t : Told) → Does {T = T} (Ok x) E s ms m → (IsReady E m (after s ms) → Does result E (after s ms) ns t) → Does result E s (ms ++ ns) t
does-then x result E s ms ns m t first second =
    let next = second first.all in
    record {
      each = λ image may. among E (prefixes (after s ms) ns) (prefixes s (ms ++ ns)) image (λ y. prefix-next s y ms ns) (next.each image may);
      all = on_ok_weaker result (λ done. subst (IsReady E t) (sym (after-append s ms ns)) done) next.all;
    }

-- a call that leaves the flash ready at the state, done or not
pub does-nothing : {T : Type 0} (result : Result T FlashStop) (E : Setting) (s : State) (t : Told) → IsReady E t s → Does result E s [] t
does-nothing (Ok x) E s t ready = record { each = calm-stays E t s ready.calm; all = ready }
does-nothing (Err stop) E s t ready = record { each = calm-stays E t s ready.calm; all = tt }

-- a call that stopped before it wrote, on a flash that is calm at least
pub does-idle : {T : Type 0} (result : Result T FlashStop) (E : Setting) (s : State) (ms : List Move) (t : Told) → IsErr result → IsCalm E t s → Does result E s ms t
does-idle result E s ms t err calm = does-stopped result result E s [] ms t err (record { each = calm-stays E t s calm; all = IfOk-from_err result (λ x. IsReady E t s) err })

-- ---- the start, and after a loss

-- a sound flash with nothing dirty is ready, where replica 1 holds what decides
pub clean-ready : (E : Setting) (t : Told) (s : State) → NothingDirty t → SoundFlash E t.now → seen t.now ≡ Some s → Guards 1 7 t → ((r : MetaRead) → deciding E.layout t.now ≡ Some r → meta_read E.layout (block 2 t.now) ≡ Some r) → IsReady E t s
clean-ready E t s clean sound shows guarded one = record { calm = start-is-calm E t s clean sound shows; guarded = guarded; one = one }

-- after a call and a power-on without a chance seal, the flash is calm at a state after some of the moves: what is left is to repair
pub calm-after : {T : Type 0} (result : Result T FlashStop) (E : Setting) (s : State) (ms : List Move) (old new : Told) → Does result E s ms old → new ≡ fresh old.guard new.now → May old new.now → (x : State) × Contains (prefixes s ms) x × IsCalm E new x
calm-after result E s ms old new does is may = calm-again E (prefixes s ms) old new does.each is may
