-- What stays the same, as several kinds of turns say it, and which machine an agent shows and fits.
use Rattle.std.proofs.Common.{Bool, true, ℕ, sym, subst, IsTrue, ◌≡◌, ◌≢◌, Contains, ◌==◌, List, ◌∷◌, None, Ok, Err, Result, refl, ap, arith, IsFalse, false, ◌||◌}
use Rattle.flash_core.specs.{Told.Told, declared.flash.Arming.Arming, declared.flash.Counts.Counts, declared.flash.FlashStop.FlashStop, May.Guards}
use Rattle.flash_core.specs.declared.flash.Flash.{Ghosts}
use Rattle.fwu_model.specs.{State.State, State.Numbers, Session.Session, Call.Call, Reply.Reply, Run.is_boot, Run.is_send, Run.is_stop, Headline.IsCut, Reply.Turn, Run.Condition, Run.Step, Sound.Setting}
use Rattle.fwu_model.specs.Call as call
use Rattle.fwu_model.specs.{Calm.IsAtRest, Replica.BothHold}
use Rattle.agent_machine.specs.{Fields.Fields, Moment.Showing, Moment.Shows}
use Rattle.agent_machine.specs.Moment as agent
use Rattle.std.specs.Prelude.{MatchBool, IsSome, IsNone, is_ok, [], Option, Some, is_some}
use Rattle.std.specs.List.{list_any}
use Rattle.moves.specs.Moved.{GuardedBy, IsShown}
use Rattle.std.proofs.lemmas.Option.{same_Some}
use Rattle.agent_calls.specs.Shown as of_agent
use Rattle.agent_calls.specs.declared.agent.Agent.{Agent}
use Rattle.agent_machine.proofs.{Known.known-shown, Showing.shows-some}
use Rattle.script_turns.specs.Powered.{IsAt, ShowsAt, kept_at, FitsMachine, moment_in, moment_of, the, IsSafe}
use Rattle.script_turns.specs.{Turning.Makes, Turning.NoneFalls, Turning.quiet_turn, Replies.is_agents, Replies.needs_bank, Stage.on_where, declared.powered.Powered.Powered, declared.stage.Stage.Stage}
use Rattle.script_turns.specs.declared.stage.Stage.TheVariants as stage

-- ---- which machine an agent shows, whatever its device counts

-- a device that counts nothing
pub counts_none : ℕ → ℕ
counts_none b = 0

module _ (tells : Bool) (f : Fields) (t : Told) (s : State) (x : Session) where
  pub shows-as : (w : ℕ → ℕ) → agent.Shows (kept_at tells f t w) s x → ShowsAt tells f t s x
  shows-as w shows v = record { told = shows.told; speaks = shows.speaks; staged = shows.staged; kept = shows.kept; means = shows.means }

  pub told-shows : (w : ℕ → ℕ) → IsTrue tells → ShowsAt true f t s x → agent.Shows (kept_at tells f t w) s x
  told-shows w test shows = subst (λ (b : Bool). agent.Shows (kept_at b f t w) s x) (sym test) (shows w)

  pub as-told : IsTrue tells → ShowsAt tells f t s x → ShowsAt true f t s x
  as-told test shows w = subst (λ (b : Bool). agent.Shows (kept_at b f t w) s x) test (shows w)

-- the turn is a step from a condition of a run to one that the flash is at
abbrev pub Leads : Setting → Condition → Turn → Option Fields → Told → Type 0
Leads E c t on told = (next : Condition) × Step E c t next × IsAt E next on told

-- ---- what stays the same, as several kinds of turns say it

pub falls-same : (c : Counts) → NoneFalls c c
falls-same c = record { faults = omega arith; cuts = omega arith; reached = omega arith; chances = omega arith }

-- the guard
pub same-guards : (old new : Told) → new.guard ≡ old.guard → Guards 1 7 old → Guards 1 7 new
same-guards old new same guards b low high = subst (λ (g : List ℕ). IsTrue (list_any (λ k. k == b) g)) (sym same) (guards b low high)

-- the safety of a flash, by its power
pub safe-by : (result : Result (Unit {0}) FlashStop) (t u : Told) → u.guard ≡ t.guard → IsAtRest t → GuardedBy result u → IsSafe (is_ok result) u
safe-by (Ok x) t u same rest now = now
safe-by (Err stop) t u same rest now = (same-guards t u same rest.guard, now)

-- the one candidate
pub among : (states : List State) (s : State) → states ≡ s ∷ [] → Contains states s
among states s one = subst (λ (xs : List State). Contains xs s) (sym one) (0, omega arith, refl)

-- of the calls for which a bank must have been started none is a boot or a `cut`
pub never-boots : (c : Call) → IsTrue (needs_bank c) → IsFalse (is_boot c)
never-boots call.Boot asks = absurd cc
never-boots other asks = refl

pub makes-none : (c : Call) (before now : ℕ) → IsTrue (needs_bank c) → now ≡ before → Makes c before now
makes-none (call.Cut n k) before now asks same = absurd cc
makes-none other before now asks same = same

pub never-cuts : (c : Call) (r : Reply) (armed : Option Arming) → IsTrue (needs_bank c) → IsCut (Some (quiet_turn c r)) armed
never-cuts (call.Cut n k) r armed asks = absurd cc
never-cuts other r armed asks = tt

-- a call of the agent is one of these
pub needs-agent : (c : Call) → IsTrue (is_agents c) → IsTrue (needs_bank c)
needs-agent c agents = subst (λ (b : Bool). IsTrue (b || is_send c)) (sym agents) refl

-- a call that is no boot tells no numbers
pub no-numbers : (c : Call) → IsFalse (is_boot c) → MatchBool (is_boot c) (IsSome {T = Numbers} None) (IsNone {T = Numbers} None)
no-numbers c never = subst (λ (b : Bool). MatchBool b (IsSome {T = Numbers} None) (IsNone {T = Numbers} None)) (sym never) refl

pub no-stop : (r other : Reply) → IsFalse (is_stop r) → IsTrue (is_stop other) → r ≢ other
no-stop r other none is same = let e = ap is_stop same in cc

-- ---- an agent that is there fits a machine

-- an agent that isn't gone shows some machine
pub shows-here : {D : Type 0} {F : Ghosts D} (a : Agent D F) → IsFalse (of_agent.gone a) → ∥ Showing (of_agent.moment a) ∥₁
shows-here {F = F} a here = shows-some (of_agent.fields a) (a.fitting here) F.tells (F.told a.flash) {writes = F.writes a.flash} (a.knows here) (a.some here)

-- on a device that tells its content, the flash shows what an agent shows that isn't gone
pub seen-here : {D : Type 0} {F : Ghosts D} (a : Agent D F) → IsFalse (of_agent.gone a) → IsTrue F.tells → (s : State) (x : Session) → Shows (of_agent.moment a) s x
    → IsShown (of_agent.fields a).layout (F.told (of_agent.device a)).now s
seen-here {F = F} a here tells s x shows =
    let t = F.told a.flash in
    subst (λ (y : State). IsShown a.layout t.now y) (sym (shows.told tells).0) (known-shown (of_agent.fields a) t (a.knows here tells))

-- what holds of what an agent keeps, where it is there
fits-where : (P : Fields → Type 0) (here : Bool) (f : Fields) → (IsTrue here → P f) → (g : Fields) → on_where here f ≡ Some g → P g
fits-where P true f holds g e = subst P (same_Some _ _ e) (holds refl)
fits-where P false f holds g e = absurd cc

pub fits-stage : {D : Type 0} {F : Ghosts D} (s : Stage D F) → FitsMachine F.tells (moment_in s)
fits-stage (stage.Off flash) = λ f e. absurd cc
fits-stage (stage.Fresh fresh) = λ f e. absurd cc
fits-stage {F = F} (stage.On live) =
    let t = F.told (of_agent.device live.agent) in
    let w = F.writes (of_agent.device live.agent) in
    fits-where (λ f. ∥ Showing (kept_at F.tells f t w) ∥₁ × (IsTrue F.tells → (s : State) (x : Session) → ShowsAt F.tells f t s x → IsShown f.layout t.now s) × (IsTrue F.tells → BothHold f.layout f.meta t.now))
    live.here (of_agent.fields live.agent) (λ here. (live.shows here, λ told s x shows. live.seen here told s x (shows w), λ told. (live.agent.knows (live.not_gone here) told).both))

pub fitting : {D : Type 0} {F : Ghosts D} (p : Powered D F) → FitsMachine F.tells (moment_of p)
fitting p = fits-stage (the p.inside p.there)

-- a flash by the stage that it has inside
pub the-is : {T : Type 0} (o : Option T) (there : IsTrue (is_some o)) (x : T) → o ≡ Some x → the o there ≡ x
the-is (Some y) there x is = same_Some _ _ is
the-is None there x is = absurd cc
