-- What one turn of a run does, and how it leaves the agent, the stage or the device.
use Rattle.std.specs.Prelude.{◌≡◌, ◌⊎◌, ℕ, ◌+◌, ◌≤◌, min, Bool, true, List, Option, Some, None, IsSome, IsTrue, IsFalse, is_some, ⊤}
use Rattle.flash_core.specs.{Counts.Rose, Counts.StaysUnarmed, Counts.all_stops, Counts.stops_in, Told.Told, Told.NothingDirty, declared.flash.Flash.Ghosts}
use Rattle.host_io.specs.{Contents.Directory, Reads.ReadsFiles}
use Rattle.host_io.specs.declared.files.Files as files
use Rattle.fwu_model.specs.{State.State, Sound.Setting, Call.Call, Reply.Reply, Reply.Turn, Run.Condition, Run.Step, Run.is_boot}
use Rattle.fwu_model.specs.{Run.ends_run, Run.is_send, Headline.IsCut, Causes.FileNotRead, Causes.greatest, Causes.is_cut}
use Rattle.fwu_model.specs.Call as call
use Rattle.fwu_model.specs.Reply as reply
use Rattle.fwu_journal.specs.Shown.{IsShortReply, turn}
use Rattle.moves.specs.Moved.{IsShown}
use Rattle.agent_machine.specs.{Beside.KeepsSpared, Beside.KeepsSparedByAll, Fields.Fields}
use Rattle.agent_calls.specs.declared.agent.Agent.{Agent}
use Rattle.agent_calls.specs.Shown as of_agent
use Rattle.early_boot.specs.{Started.started_session, Ends.Ended, Ends.booted}
use Rattle.script_turns.specs.{declared.stage.Stage.Stage, declared.turned.AgentTurn.AgentTurn, Boots.BootsFrom, Sending.IsUnnamed, Sending.LacksSent}
use Rattle.script_turns.specs.Powered.{IsAt, IsSafe, ShowsAt, TurnMoment, moment_in}
use Rattle.script_turns.specs.Replies.{LeavesOn, Replies, is_agents, is_composed, moment_where, power_after}
use Rattle.script_turns.specs.Stage.{device, has_power, shown_on}
use Rattle.script_turns.specs.Takes.{DecidesAfter, TakesTurn, TouchesBy, stop_told, unread_told}
pub use Rattle.script_turns.specs.Powered.{Arms, NoneFalls}
pub use Rattle.script_turns.specs.Boots.{IsOnAfter, PowersOn, GetsPower, numbers_of_end, reply_of_end}

-- a `cut` makes one arming, and no other call makes any; the count stands still at the greatest number
abbrev pub Makes : Call → ℕ → ℕ → Type 0
Makes (call.Cut n k) before after = after ≡ min (before + 1) greatest
Makes other before after = after ≡ before

-- The turn t does the call c, by a verifier of these manifests, on a device that tells its content or not, with files that are told
-- or not. The files' faults were some, and are some.
pub record Turns (passes : List ℕ → Bool) (tells : Bool) (files : Option Directory) (c : Call) (t : Turn)
    (old new : TurnMoment) (was are : ℕ) : Type 0 where
  pub call_is : t.call ≡ c
  -- a boot alone tells the numbers that the flash held
  pub unnumbered : IsFalse (is_boot c) → t.numbers ≡ None
  pub counts : NoneFalls old.counts new.counts
  pub made : Makes c old.counts.made new.counts.made
  pub armed : IsCut (Some t) new.armed
  -- a loss leaves none armed; where none was armed, none is and none is reached, but by a `cut`
  pub free : IsFalse (is_cut c) → StaysUnarmed (stop_told t.reply) old.armed new.armed old.counts new.counts
  -- each stop has its cause
  pub lost : t.reply ≡ reply.Lost → Rose old.counts.cuts new.counts.cuts ⊎ Rose old.counts.reached new.counts.reached
  pub failed : t.reply ≡ reply.Fault → Rose old.counts.faults new.counts.faults
  -- and none is counted but the one that is told: no call of the flash that failed or lost power was passed over
  pub once : all_stops new.counts ≤ all_stops old.counts + stops_in (stop_told t.reply)
  pub unread : t.reply ≡ reply.ReadFault → FileNotRead files was are c
  -- and a file that told files lack is not read, where a bank is on
  pub lacking : LacksSent files c → IsSome old.on → t.reply ≡ reply.ReadFault
  -- no call of the files failed but the one that is told
  pub later : was ≤ are
  pub unread_once : are ≤ was + unread_told t.reply
  -- only at a `send` may a call of the files fail
  pub reads_none : IsFalse (is_send c) → are ≡ was
  -- on any device: the reply, what the agent keeps, and what an armed loss counts
  pub replies : Replies passes tells files c old t new
  pub takes : TakesTurn files c old t.reply new was are
  -- on any device that counts its writes: which blocks are erased or programmed
  pub touches : TouchesBy c old.on old.writes new.writes
  pub power : new.power ≡ power_after old.power t.reply
  -- no call changes which blocks are guarded
  pub guard : IsTrue tells → new.told.guard ≡ old.told.guard
  -- from a condition of a run it is a step, where no torn block was sealed by chance
  pub step : IsTrue tells → (E : Setting) (from : Condition) → E.passes ≡ passes → files ≡ Some E.files
      → IsAt E from old.on old.told → (Rose old.counts.chances new.counts.chances → ⊥)
      → (next : Condition) × Step E from t next × IsAt E next new.on new.told
  -- On any flash, at any exit of a turn that is no boot. Nothing changes but the metadata, the marks of the starts on trial, and
  -- the bank behind the one that was started. That bank changes only where the started one is active, or by a composed call.
  pub keeps : IsTrue tells → (f : Fields) → old.on ≡ Some f → IsFalse (is_boot c) → KeepsSparedByAll f old.told new.told
  pub spares : IsTrue tells → (f : Fields) → old.on ≡ Some f → IsFalse (is_boot c) → IsFalse (is_composed c)
      → KeepsSpared f old.told new.told
  -- On a flash at rest whose replicas both hold what the agent kept, at any exit of a call of the agent that is not composed: which
  -- metadata decides in what a loss leaves.
  pub decides : IsTrue tells → (f : Fields) → old.on ≡ Some f → IsTrue (is_agents c) → IsFalse (is_composed c)
      → DecidesAfter c f old.told new.told
  -- on any flash: where no loss harmed what is in use before the turn, none does after it
  pub safe : IsTrue tells → IsSafe old.power old.told → IsSafe new.power new.told
  -- a boot where no bank is on and nothing is dirty goes by the bytes
  pub boots : IsTrue tells → old.on ≡ None → NothingDirty old.told → c ≡ call.Boot → BootsFrom passes old.told.now t.reply

-- ---- a boot of a flash that is on

-- on a device that tells its content the agent of the bank that was booted shows what the flash shows,
-- with nothing staged and no handle open
abbrev pub ShowsStarted : Bool → Ended → Option Fields → Told → Type 0
ShowsStarted tells (booted b n) (Some f) t = (s : State) → IsShown f.layout t.now s → ShowsAt tells f t s (started_session b)
ShowsStarted tells (booted b n) None t = ⊥
ShowsStarted tells other on t = ⊤

abbrev pub boot_turn : Ended → Turn
boot_turn e = record { call = call.Boot; reply = reply_of_end e; numbers = numbers_of_end e }

-- ---- a turn without numbers

abbrev pub quiet_turn : Call → Reply → Turn
quiet_turn what r = record { call = what; reply = r; numbers = None }

-- ---- how a turn leaves the agent, the stage or the device that it is done on

-- the turn does this call whatever the files hold, and no call of theirs fails
abbrev pub TurnsAlone : (List ℕ → Bool) → Bool → Call → Turn → TurnMoment → TurnMoment → Type 0
TurnsAlone passes tells c t old new = (files : Option Directory) (faults : ℕ) → Turns passes tells files c t old new faults faults

-- so the turn of an agent that is there
abbrev pub IsCallTurn : {D : Type 0} {F : Ghosts D} → (List ℕ → Bool) → Call → AgentTurn → Agent D F → Agent D F → Type 0
IsCallTurn {F = F} passes c done old new =
    TurnsAlone passes F.tells c (turn done.turn) (moment_where true old) (moment_where done.here new)

-- the turn of an agent that is there does this call, and may ask for files
abbrev pub IsTurnWith : {D H : Type 0} {F : Ghosts D} → files.Ghosts H → (List ℕ → Bool) → Call → AgentTurn → Agent D F → Agent D F
    → H → H → Type 0
IsTurnWith {F = F} g passes c done old new was are =
    Turns passes F.tells (g.contents was) c (turn done.turn) (moment_where true old) (moment_where done.here new)
    (g.faults was) (g.faults are)

-- how a turn leaves the device, and that its reply fits a line
pub record TurnLeaves {D : Type 0} (F : Ghosts D) (t : Turn) (here : Bool) (old new : D) : Type 0 where
  -- where the run goes on, it has power exactly where an agent or a flash that is on is there
  pub powered : IsFalse (ends_run t.reply) → F.on new ≡ here
  pub size : F.blocks new ≡ F.blocks old
  -- the printed line of the turn has room for what a read got
  pub short : IsShortReply t.reply

-- how it leaves an agent that was there
pub record LeavesAgent {D : Type 0} {F : Ghosts D} (done : AgentTurn) (old new : Agent D F) : Type 0 where
  pub device : TurnLeaves F (turn done.turn) done.here (of_agent.device old) (of_agent.device new)
  -- no stop of the flash has ended it, if it is there
  pub here : IsTrue done.here → IsFalse (of_agent.gone new)

-- a turn that is no boot, on any stage
pub record IsStageTurn {D H : Type 0} {F : Ghosts D} (g : files.Ghosts H) (passes : List ℕ → Bool) (c : Call) (t : Turn)
    (old new : Stage D F) (was are : H) : Type 0 where
  pub turns : Turns passes F.tells (g.contents was) c t (moment_in old) (moment_in new) (g.faults was) (g.faults are)
  pub leaves : TurnLeaves F t (has_power new) (device old) (device new)
  pub reads : ReadsFiles g (IsUnnamed c) was are
  -- no call but a sending changes the files, and none does where no bank is on
  pub files : IsFalse (is_send c) → are ≡ was
  pub idle : shown_on old ≡ None → are ≡ was

-- the stage of a boot that ended like this, with its device
pub record LeavesBooted {D : Type 0} {F : Ghosts D} (e : Ended) (flash : D) (s : Stage D F) : Type 0 where
  pub on : IsOnAfter e (shown_on s)
  pub leaves : LeavesOn (reply_of_end e) (shown_on s)
  pub shows : IsTrue F.tells → ShowsStarted F.tells e (shown_on s) (F.told (device s))
  pub has : has_power s ≡ is_some (shown_on s)
  pub flash_is : device s ≡ flash
