-- The turns of a soak, one after the other.
use Rattle.std.proofs.Common.{◌≡◌, ◌≢◌, ℕ, ◌+◌, ◌<◌, Bool, List, ◌∷◌, ◌++◌, length, take, drop, map, Some, None, refl, sym, ap, subst, ◌∙◌, inl, inr, IsTrue, Contains, arith, append_assoc, get_or}
use Rattle.std.specs.Prelude.{option_map, is_some, IsSome, []}
use Rattle.std.specs.List.{slice_get}
use Rattle.std.proofs.{lemmas.Bool.false≢true, lemmas.List.take-append-drop, lemmas.List.map-append}
use Rattle.std.proofs.{lemmas.List.Elements.Contains-get_or, Math.Seq.take-length}
use Rattle.std.proofs.lemmas.Option.{slice_get_within, get_or_from_slice_get, slice_get-map, slice_get-get_or}
use Rattle.gen_core.specs.{Calls.shown as soak_shown, declared.calls.SoakCall.SoakCall}
use Rattle.host_io.specs.Contents.{Directory}
use Rattle.flash_core.specs.Counts.{Rose}
use Rattle.fwu_model.specs.{Call.Call, Reply.Reply, Reply.Turn, Run.ends_run, Headline.IsPrefixOf, Causes.FileNotRead}
use Rattle.fwu_model.specs.{Causes.status_by, declared.kinds.Note.Note}
use Rattle.fwu_model.specs.Call as call
use Rattle.fwu_model.specs.Reply as reply
use Rattle.fwu_model.specs.declared.kinds.Note.TheVariants as note
use Rattle.fwu_formats.specs.Digests.{passes_any}
use Rattle.script_turns.specs.{Powered.TurnMoment, Runs.Ran, Runs.calls_of}
use Rattle.script_runs.specs.Ending.{DoesTurn}
use Rattle.script_runs.proofs.RunEnds.{on-at-zero, on-more, take-more}
use Rattle.script_turns.proofs.RunTurns.{ran-none, ran-on}
use Rattle.flash_commands.specs.Soaking.{EndsNone, GoesSoaking, SoakReached, goes, starved, ended}
use Rattle.flash_commands.proofs.SoakSetting.{AgreeFor, agrees-shown, turns-with}

-- another status is of a turn that ends the run
ends-otherwise : (r : Reply) → (status_by r ≡ 0 → ⊥) → IsTrue (ends_run r)
ends-otherwise reply.Fault other = refl
ends-otherwise reply.ReadFault other = refl
ends-otherwise (reply.NotBooted why) other = refl
ends-otherwise r other = absurd (other refl)

-- a file that is there is read
was-read : (one all : Directory) (c : Call) (r : Reply) → AgreeFor one all c → (r ≡ reply.ReadFault → FileNotRead (Some one) 0 0 c) → r ≢ reply.ReadFault
was-read one all (call.Send name request) r agree unread is = elim (unread is) [ inl rose ↦ no-rise rose | inr lacks ↦ false≢true (sym (ap is_some lacks) ∙ agree.1) ]
  where
    no-rise : Rose 0 0 → ⊥
    no-rise (inl more) = omega arith
    no-rise (inr top) = omega arith
was-read one all (call.SendPartial name request) r agree unread is = agree
was-read one all c r agree unread is = unread is

-- nothing was done yet
pub goes-none : (tells : Bool) (all : Directory) (old : TurnMoment) → old.on ≡ None → GoesSoaking tells all [] [] old old
goes-none tells all old off = record { ran = ran-none passes_any tells (Some all) old 0 off; calls_are = refl; none = refl }

module _ (tells : Bool) (one all : Directory) (done : List Call) (c : Call) (journal after : List Turn) (old mid new : TurnMoment) (status : ℕ) (noted : Note) (text : List ℕ) where
  ran-more : GoesSoaking tells all done journal old mid → (s : DoesTurn passes_any tells (Some one) c journal after mid new 0 0 status noted text) → AgreeFor one all c → old.on ≡ None
      → Ran passes_any tells (Some all) after old new 0 0
  ran-more was s agree off =
      subst (λ (ts : List Turn). Ran passes_any tells (Some all) ts old new 0 0) (sym s.kept)
      (ran-on passes_any tells (Some all) c s.turn journal old mid new 0 0 0 off was.ran was.none (turns-with passes_any tells one all c s.turn mid new 0 0 agree s.turns) s.fits)

  calls-more : GoesSoaking tells all done journal old mid → (s : DoesTurn passes_any tells (Some one) c journal after mid new 0 0 status noted text) → calls_of after ≡ done ++ c ∷ []
  calls-more was s =
      ap calls_of s.kept ∙ map-append (λ (u : Turn). u.call) journal (s.turn ∷ []) ∙ ap (λ (xs : List Call). xs ++ s.turn.call ∷ []) was.calls_are
      ∙ ap (λ (x : Call). done ++ x ∷ []) s.turns.call_is

  -- one turn more, where the soak goes on
  pub steps-on : GoesSoaking tells all done journal old mid → DoesTurn passes_any tells (Some one) c journal after mid new 0 0 status noted text → AgreeFor one all c → old.on ≡ None → status ≡ 0
      → GoesSoaking tells all (done ++ c ∷ []) after old new
  steps-on was s agree off zero_is = record {
    ran = ran-more was s agree off;
    calls_are = calls-more was s;
    none = subst EndsNone (sym s.kept) (on-more journal s.turn was.none (on-at-zero s.turn.reply (sym s.status_is ∙ zero_is)));
  }

  -- and where it ends
  pub steps-end : (calls : List Call) → GoesSoaking tells all done journal old mid → DoesTurn passes_any tells (Some one) c journal after mid new 0 0 status noted text → AgreeFor one all c → old.on ≡ None → (status ≡ 0 → ⊥)
      → IsPrefixOf (done ++ c ∷ []) calls → SoakReached tells all calls after old new status noted text
  steps-end calls was s agree off other front =
      ended journal s.turn s.kept (front.0, ap (λ (xs : List Call). xs ++ front.0) (calls-more was s) ∙ front.1) (ran-more was s agree off) was.none
      (ends-otherwise s.turn.reply (λ zero_is. other (s.status_is ∙ zero_is))) (was-read one all c s.turn.reply agree s.turns.unread) s.status_is s.noted_is s.text_is

-- ---- calls of a list

module _ (X : Type 0) where
  -- what was done and the front of a list, and one more
  pub behind-next : (done xs : List X) (n : ℕ) (x : X) → slice_get xs n ≡ Some x → (done ++ take n xs) ++ x ∷ [] ≡ done ++ take (n + 1) xs
  behind-next done xs n x is = append_assoc done (take n xs) (x ∷ []) ∙ ap (λ (ys : List X). done ++ ys) (take-more X xs n x is)

  pub front-of : (done xs : List X) (n : ℕ) → IsPrefixOf (done ++ take n xs) (done ++ xs)
  front-of done xs n = (drop n xs, append_assoc done (take n xs) (drop n xs) ∙ ap (λ (ys : List X). done ++ ys) (take-append-drop n xs))

pub prefix-same : {X : Type 0} (xs ys zs : List X) → xs ≡ ys → IsPrefixOf ys zs → IsPrefixOf xs zs
prefix-same xs ys zs same front = (front.0, ap (λ l. l ++ front.0) same ∙ front.1)

pub prefix-through : {X : Type 0} (xs ys zs : List X) → IsPrefixOf xs ys → IsPrefixOf ys zs → IsPrefixOf xs zs
prefix-through xs ys zs first then = (first.0 ++ then.0, sym (append_assoc xs first.0 then.0) ∙ ap (λ l. l ++ then.0) first.1 ∙ then.1)

-- what stands after some calls stands after more, unless it goes on
pub stands-longer : (tells : Bool) (all : Directory) (calls more : List Call) (journal : List Turn) (old new : TurnMoment) (status : ℕ) (noted : Note) (text : List ℕ) → IsPrefixOf calls more → (status ≡ 0 → ⊥)
    → SoakReached tells all calls journal old new status noted text → SoakReached tells all more journal old new status noted text
stands-longer tells all calls more journal old new status noted text front other (goes zero_is quiet going) = absurd (other zero_is)
stands-longer tells all calls more journal old new status noted text front other (starved nine quiet some less going) = starved nine quiet some (prefix-through some calls more less front) going
stands-longer tells all calls more journal old new status noted text front other (ended first t is less ran none ends read status_is noted_is text_is) =
    ended first t is (prefix-through (calls_of journal) calls more less front) ran none ends read status_is noted_is text_is

status-some : (r : Reply) → IsTrue (ends_run r) → status_by r ≡ 0 → ⊥
status-some reply.Fault ends zero_is = omega arith
status-some reply.ReadFault ends zero_is = omega arith
status-some (reply.NotBooted why) ends zero_is = omega arith
status-some r ends zero_is = false≢true ends

-- at the status 0 it goes on, after all the calls
pub stands-going : (tells : Bool) (all : Directory) (calls : List Call) (journal : List Turn) (old new : TurnMoment) (status : ℕ) (noted : Note) (text : List ℕ) → status ≡ 0
    → SoakReached tells all calls journal old new status noted text → GoesSoaking tells all calls journal old new
stands-going tells all calls journal old new status noted text zero_is (goes same quiet going) = going
stands-going tells all calls journal old new status noted text zero_is (starved nine quiet some less going) = absurd (omega arith)
stands-going tells all calls journal old new status noted text zero_is (ended first t is less ran none ends read status_is noted_is text_is) = absurd (status-some t.reply ends (sym status_is ∙ zero_is))

-- ---- a call at its place

call-at : (calls : List SoakCall) (i : ℕ) (x d : SoakCall) → i < length calls → x ≡ get_or calls i d → slice_get (map soak_shown calls) i ≡ Some (soak_shown x)
call-at calls i x d below is =
    slice_get-map soak_shown calls i ∙ ap (option_map soak_shown) (slice_get-get_or calls i d below ∙ ap Some (sym is))

contains-at : (calls : List Call) (i : ℕ) (c : Call) → slice_get calls i ≡ Some c → Contains calls c
contains-at calls i c at =
    subst (λ (x : Call). Contains calls x) (get_or_from_slice_get calls i c c at) (Contains-get_or calls i c (slice_get_within calls i c at))

module _ (tells : Bool) (one all : Directory) (done : List Call) (calls : List SoakCall) (i : ℕ) (x d : SoakCall) (c : Call) (journal after : List Turn) (old mid new : TurnMoment) (status : ℕ) (noted : Note) (text : List ℕ) where
  agrees-at : c ≡ soak_shown x → slice_get (map soak_shown calls) i ≡ Some c → ((name : List ℕ) (request : ℕ) → Contains (map soak_shown calls) (call.Send name request) → (one name ≡ all name) × IsSome (one name)) → AgreeFor one all c
  agrees-at is at agree =
      subst (AgreeFor one all) (sym is)
      (agrees-shown one all x (λ name request sends. agree name request (subst (Contains (map soak_shown calls)) (is ∙ sends) (contains-at (map soak_shown calls) i c at))))

  pub calls-on : i < length calls → x ≡ get_or calls i d → c ≡ soak_shown x → GoesSoaking tells all (done ++ take i (map soak_shown calls)) journal old mid
      → DoesTurn passes_any tells (Some one) c journal after mid new 0 0 status noted text → ((name : List ℕ) (request : ℕ) → Contains (map soak_shown calls) (call.Send name request) → (one name ≡ all name) × IsSome (one name)) → old.on ≡ None → status ≡ 0
      → GoesSoaking tells all (done ++ take (i + 1) (map soak_shown calls)) after old new
  calls-on below is shown_is was s agree off zero_is =
      let at : slice_get (map soak_shown calls) i ≡ Some c = call-at calls i x d below is ∙ ap Some (sym shown_is) in
      subst (λ (xs : List Call). GoesSoaking tells all xs after old new) (behind-next Call done (map soak_shown calls) i c at)
      (steps-on tells one all (done ++ take i (map soak_shown calls)) c journal after old mid new status noted text was s (agrees-at shown_is at agree) off zero_is)

  pub calls-end : i < length calls → x ≡ get_or calls i d → c ≡ soak_shown x → GoesSoaking tells all (done ++ take i (map soak_shown calls)) journal old mid
      → DoesTurn passes_any tells (Some one) c journal after mid new 0 0 status noted text → ((name : List ℕ) (request : ℕ) → Contains (map soak_shown calls) (call.Send name request) → (one name ≡ all name) × IsSome (one name)) → old.on ≡ None → (status ≡ 0 → ⊥)
      → SoakReached tells all (done ++ map soak_shown calls) after old new status noted text
  calls-end below is shown_is was s agree off other =
      let at : slice_get (map soak_shown calls) i ≡ Some c = call-at calls i x d below is ∙ ap Some (sym shown_is) in
      steps-end tells one all (done ++ take i (map soak_shown calls)) c journal after old mid new status noted text (done ++ map soak_shown calls) was s (agrees-at shown_is at agree) off other
      (prefix-same ((done ++ take i (map soak_shown calls)) ++ c ∷ []) (done ++ take (i + 1) (map soak_shown calls)) (done ++ map soak_shown calls) (behind-next Call done (map soak_shown calls) i c at) (front-of Call done (map soak_shown calls) (i + 1)))

module _ (tells : Bool) (all : Directory) (done calls : List Call) (i : ℕ) (journal : List Turn) (old mid : TurnMoment) (text : List ℕ) where
  -- memory is wanting for the next call
  pub calls-starved : GoesSoaking tells all (done ++ take i calls) journal old mid → SoakReached tells all (done ++ calls) journal old mid 9 note.Nothing text
  calls-starved was = starved refl refl (done ++ take i calls) (front-of Call done calls i) was

  -- all were done
  pub calls-done : i ≡ length calls → GoesSoaking tells all (done ++ take i calls) journal old mid → SoakReached tells all (done ++ calls) journal old mid 0 note.Nothing text
  calls-done end was =
      goes refl refl
      (subst (λ (xs : List Call). GoesSoaking tells all (done ++ xs) journal old mid) (ap (λ (n : ℕ). take n calls) end ∙ take-length calls) was)
