-- What holds of the turns of any run.
use Rattle.std.proofs.Common.{◌≡◌, ◌≢◌, ℕ, suc, ◌+◌, ◌-◌, Bool, ◌||◌, ◌==◌, List, ◌∷◌, ◌++◌, length, Option, Some, None, slice_get, refl, sym, ap, subst, ◌∙◌, arith, inl, inr, ◌⊎◌, IsTrue, IfSome, eqb-true, [], true, false, Contains}
use Rattle.std.proofs.lemmas.Bool.{cases_Bool, or_cases, or_parts, false≢true}
use Rattle.std.proofs.lemmas.Option.{same_Some}
use Rattle.fwu_model.specs.{Reply.Reply, Reply.Turn, declared.kinds.Note.Note, Wrote.may_lack, Wrote.ends_early, Causes.status_by}
use Rattle.fwu_model.specs.{Call.Call, Calm.IsAtRest, Calm.IsGuarded, Run.ends_run}
use Rattle.fwu_model.specs.Reply as reply
use Rattle.script_runs.specs.{Ending.status_of_last, Ending.last_turn, Ending.ScriptEnded, Ending.Ending, Ending.World}
use Rattle.flash_core.specs.{Told.Told, Told.NothingDirty, May.Guards}
use Rattle.fwu_words.specs.Order.{Asked}
use Rattle.agent_machine.specs.Fields.{Fields}
use Rattle.host_io.specs.Contents.{Directory}
use Rattle.script_turns.specs.{Powered.IsSafe, Powered.TurnMoment, Powered.SameDevice, Powered.at, Runs.Ran, Runs.RunsFree}
use Rattle.script_runs.specs.Ways.{Given, Way, starved, refused, ran}
use Rattle.flash_commands.specs.Soaking.{EndsNone}
use Rattle.flash_commands.proofs.FormatFlash.{clean-sure}
use Rattle.script_cmd.specs.Promises.{RanHolds}

-- ---- the last turn

pub last-get : (journal : List Turn) → slice_get journal (length journal - 1) ≡ last_turn journal
last-get [] = refl
last-get (t ∷ []) = refl
last-get (t ∷ u ∷ turns) =
    let e : length (t ∷ u ∷ turns) - 1 ≡ suc (length (u ∷ turns) - 1) = omega arith in
    ap (slice_get (t ∷ u ∷ turns)) e ∙ last-get (u ∷ turns)

pub last-push : (journal : List Turn) (t : Turn) → last_turn (journal ++ t ∷ []) ≡ Some t
last-push [] t = refl
last-push (u ∷ []) t = refl
last-push (u ∷ v ∷ turns) t = last-push (v ∷ turns) t

-- where none of them ends a run the last one doesn't
pub none-last : (journal : List Turn) → EndsNone journal → (t : Turn) → last_turn journal ≡ Some t → IsTrue (ends_run t.reply) → ⊥
none-last [] none t is ends = cc
none-last (u ∷ []) none t is ends =
    false≢true (sym (or_parts (ends_run u.reply) false none).0 ∙ ap (λ (x : Turn). ends_run x.reply) (same_Some u t is) ∙ ends)
none-last (u ∷ v ∷ turns) none t is ends = none-last (v ∷ turns) (or_parts (ends_run u.reply) _ none).1 t is ends

-- a turn with nothing behind it is the last one
pub last-is : (journal : List Turn) (n : ℕ) (t : Turn) → slice_get journal n ≡ Some t → n + 1 ≡ length journal → last_turn journal ≡ Some t
last-is journal n t at behind =
    let place : length journal - 1 ≡ n = omega arith in
    sym (last-get journal) ∙ ap (slice_get journal) place ∙ at

-- ---- the statuses of turns

abbrev pub is_ran : ℕ → Bool
is_ran status = (status == 0) || (status == 2) || (status == 3) || (status == 5) || (status == 6) || (status == 9)

-- a status of another number is none of them
pub ran-at : (status k : ℕ) → IsTrue (is_ran status) → status ≡ k → IsTrue (is_ran k)
ran-at status k is same = subst (λ (n : ℕ). IsTrue (is_ran n)) same is

reply-status : (r : Reply) → IsTrue (is_ran (status_by r))
reply-status reply.ReadFault = refl
reply-status other = refl

pub lack-cases : (status : ℕ) → IsTrue (may_lack status) → (status ≡ 3) ⊎ (status ≡ 9)
lack-cases status lacks = elim (or_cases (status == 3) (status == 9) lacks) [
  | inl e ↦ inl (eqb-true status 3 e)
  | inr e ↦ inr (eqb-true status 9 e)
]

pub ran-status : (script : List Call) (journal : List Turn) (status : ℕ) (noted : Note) → ScriptEnded script journal status noted → IsTrue (is_ran status)
ran-status script journal status noted ended =
    elim (cases_Bool (may_lack status)) [
      | inl lacks ↦ elim (lack-cases status lacks) [
        | inl three ↦ subst (λ (k : ℕ). IsTrue (is_ran k)) (sym three) refl
        | inr nine ↦ subst (λ (k : ℕ). IsTrue (is_ran k)) (sym nine) refl
      ]
      | inr whole ↦ by-last (last_turn journal) refl (ended.status_is whole)
    ]
  where
    by-last : (last : Option Turn) → last_turn journal ≡ last → status ≡ status_of_last last → IsTrue (is_ran status)
    by-last None is status_is = subst (λ (k : ℕ). IsTrue (is_ran k)) (sym status_is) refl
    by-last (Some t) is status_is = subst (λ (k : ℕ). IsTrue (is_ran k)) (sym status_is) (reply-status t.reply)

-- without a turn the turns of a script end with 0
pub none-ended : (script : List Call) (journal : List Turn) (status : ℕ) (noted : Note) → journal ≡ [] → status ≢ 0 → ScriptEnded script journal status noted → ⊥
none-ended script journal status noted none other ended = elim (cases_Bool (may_lack status)) [
  | inl lacks ↦ ended.some lacks none
  | inr whole ↦ other (ended.status_is whole ∙ ap (λ (j : List Turn). status_of_last (last_turn j)) none)
]

-- they are none of those that end a run early
pub early-not-ran : (status : ℕ) → IsTrue (ends_early status) → IsTrue (is_ran status) → ⊥
early-not-ran status early is =
    elim (or_cases _ (status == 13) early) [
      | inr e ↦ false≢true (ran-at status 13 is (eqb-true status 13 e))
      | inl rest ↦ elim (or_cases _ (status == 8) rest) [
        | inr e ↦ false≢true (ran-at status 8 is (eqb-true status 8 e))
        | inl more ↦ elim (or_cases (status == 1) (status == 4) more) [
          | inl e ↦ false≢true (ran-at status 1 is (eqb-true status 1 e))
          | inr e ↦ false≢true (ran-at status 4 is (eqb-true status 4 e))
        ]
      ]
    ]

-- ---- what is said of a value where there is one

pub some-from : {X : Type 0} (o : Option X) (P : X → Type 0) → ((x : X) → o ≡ Some x → P x) → IfSome o P
some-from None P f = tt
some-from (Some x) P f = f x refl

pub some-at : {X : Type 0} (o : Option X) (P : X → Type 0) (x : X) → IfSome o P → o ≡ Some x → P x
some-at o P x h is = subst (λ q. IfSome q P) is h

-- ---- the device

same-device : (old : TurnMoment) → SameDevice old old
same-device old = record { told = refl; writes = refl; counts = refl; armed = refl; power = refl }

free-none : (old : TurnMoment) → old.armed ≡ None → RunsFree [] old old
free-none old unarmed = record { armed = unarmed; reached = refl; lost = λ t in_it is. absurd (no-turn t in_it) }
  where
    no-turn : (t : Turn) → Contains [] t → ⊥
    no-turn t (k, below, is) = omega arith

-- ---- what a loss may harm

clean-guarded : (t : Told) → NothingDirty t → IsGuarded t
clean-guarded t clean =
    record { layout = λ i low high. clean-sure t clean i; banks = λ image L s may is shows b used i low high. clean-sure t clean i }

clean-rests : (t : Told) → NothingDirty t → Guards 1 7 t → IsAtRest t
clean-rests t clean guards = record { guard = guards; front = λ i low high. clean-sure t clean i; guarded = clean-guarded t clean }

safe-guarded : (power : Bool) (t : Told) → IsSafe power t → IsGuarded t × (IsTrue power → IsAtRest t)
safe-guarded false t safe = (safe.1, (λ power. absurd (false≢true power)))
safe-guarded true t safe = (safe.guarded, (λ power. safe))

-- ---- no turn ran

no-first : (t : Turn) → slice_get [] 0 ≡ Some t → ⊥
no-first t is = cc

none-holds : (passes : List ℕ → Bool) (tells : Bool) (files : Option Directory) (old new : World) → RanHolds passes tells files [] old (record new { flash = old.flash })
none-holds passes tells files old new = record {
  on = old.flash.on;
  to = old.faults.files;
  follows = (refl, refl);
  ends = λ some. absurd (some refl);
  touches = λ off. record { layout_still = refl; marks_still = refl; unbooted = λ none. (off, refl); banks = λ one f is b out beside. refl };
  untouched = λ none. same-device old.flash;
  power = refl;
  once = omega arith;
  guard = λ told. refl;
  free = λ unarmed none. free-none old.flash unarmed;
  due = inl (omega arith);
  first = λ told clean t is boots. absurd (no-first t is);
  guarded = λ told clean guards. (clean-guarded old.flash.told clean, (λ power. clean-rests old.flash.told clean guards));
}

pub idle-holds : (passes : List ℕ → Bool) (tells : Bool) (files : Option Directory) (journal : List Turn) (old new : World) → journal ≡ [] → new.flash ≡ old.flash → RanHolds passes tells files journal old new
idle-holds passes tells files journal old new empty same =
    subst (λ (turns : List Turn). RanHolds passes tells files turns old new) (sym empty)
    (subst (λ (m : TurnMoment). RanHolds passes tells files [] old (record new { flash = m })) (sym same) (none-holds passes tells files old new))

-- ---- turns ran

pub ran-holds : (passes : List ℕ → Bool) (tells : Bool) (files : Option Directory) (journal : List Turn) (on : Option Fields) (to : ℕ) (old new : World) → (journal ≢ [] → to ≡ new.faults.files)
    → Ran passes tells files journal old.flash (at on new.flash.told new.flash.writes new.flash.counts new.flash.armed new.flash.power) old.faults.files to → RanHolds passes tells files journal old new
ran-holds passes tells files journal on to old new after turns = record {
  on = on;
  to = to;
  follows = turns.follows;
  ends = after;
  touches = λ off. turns.touches;
  untouched = λ empty.
      let same = turns.untouched empty in
      record { told = ap (λ (m : TurnMoment). m.told) same; writes = ap (λ (m : TurnMoment). m.writes) same; counts = ap (λ (m : TurnMoment). m.counts) same; armed = ap (λ (m : TurnMoment). m.armed) same; power = ap (λ (m : TurnMoment). m.power) same };
  power = turns.power;
  once = turns.once;
  guard = turns.guard;
  free = λ unarmed none.
      let ran_free = turns.free unarmed none in
      record { armed = ran_free.armed; reached = ran_free.reached; lost = ran_free.lost };
  due = turns.due;
  first = turns.first;
  guarded = λ told clean guards. safe-guarded new.flash.power new.flash.told (turns.safe told clean guards);
}

-- ---- whichever way

pub ways-hold : (passes : List ℕ → Bool) (tells : Bool) (asked : Option Asked) (g : Given) (end : Ending Note) (old new : World) → Way passes tells asked g end old new → RanHolds passes tells g.files end.journal old new
ways-hold passes tells asked g end old new (starved empty same nine quiet stuck) = idle-holds passes tells g.files end.journal old new empty same
ways-hold passes tells asked g end old new (refused planned line empty same why prints) = idle-holds passes tells g.files end.journal old new empty same
ways-hold passes tells asked g end old new (ran calls on good asks has turns ended printed) =
    ran-holds passes tells g.files end.journal on new.faults.files old new (λ some. refl) turns
