-- The command `serve`, by the words and behind a list.
use Rattle.std.proofs.Common.{◌≡◌, ◌≤◌, ℕ, Bool, List, Option, Some, None, sym, ap, ap₂, subst, ◌∙◌, arith, []}
use Rattle.flash_core.specs.declared.flash.Flash.{Ghosts}
use Rattle.fwu_model.specs.{Causes.Faults, Reply.Turn, declared.kinds.Note.Note}
use Rattle.fwu_words.specs.Order as ask
use Rattle.host_io.specs.{Contents.Directory, Printed.Prints}
use Rattle.agent_machine.specs.Fields.{Fields}
use Rattle.wire_frames.specs.Exchange.{LastAnswer}
use Rattle.serving.specs.{Holds.ServingHolds, Scene.port, Scene.scene, Going.ServesFrom, declared.ends.ServeEnd.ServeEnd}
use Rattle.script_turns.specs.Powered.{TurnMoment, at, moment_on}
use Rattle.script_runs.specs.{Ending.World, Ways.HasGoodList, Ways.Given, Ways.Refuses}
use Rattle.script_runs.proofs.TopWays.{end-of, world-of}
use Rattle.script_cmd.specs.Here.{ServeWay, ServesSource, list_refused, served, sink_of, starved}
use Rattle.script_cmd.proofs.TopLists.{refused-behind}

-- a list was refused, and nothing else was done
pub refused-serves : (passes : List ℕ → Bool) (tells : Bool) (g : Given) (old new : TurnMoment) (status : ℕ) (noted : Note) (journal : List Turn) (taken_before taken_after : Option (List ℕ)) (faults_before faults_after : Faults) (planned : ℕ) (line : List ℕ) (n : Note)
    (rest : Option (List ℕ)) → journal ≡ [] → new ≡ old → noted ≡ n → Refuses (Some ask.serve) g faults_before faults_after planned n line → Prints line planned status taken_before taken_after faults_before.sink faults_after.sink
    → rest ≡ g.script → faults_after.source ≡ faults_before.source
    → ServeWay passes tells g (end-of journal status noted) (world-of old taken_before faults_before) (world-of new taken_after faults_after) rest
refused-serves passes tells g old new status noted journal taken_before taken_after faults_before faults_after planned line n rest none same is why prints unread once =
    list_refused none same (unread, once) (planned, line, subst (λ (x : Note). Refuses (Some ask.serve) g faults_before faults_after planned x line) (sym is) why, prints)

faults-same : (a b : Faults) → a.files ≡ b.files → a.source ≡ b.source → a.sink ≡ b.sink → a ≡ b
faults-same a b files source sink =
    let first : a ≡ record a { files = b.files } = ap (λ (n : ℕ). record a { files = n }) files in
    let second : record a { files = b.files } ≡ record b { sink = a.sink } = ap (λ (n : ℕ). record { files = b.files; source = n; sink = a.sink }) source in
    first ∙ second ∙ ap (λ (n : ℕ). record b { sink = n }) sink

module _ (passes : List ℕ → Bool) (tells : Bool) (told files : Option Directory) (name : List ℕ) (script : Option (List ℕ)) (old new : TurnMoment) (status : ℕ) (noted : Note) (journal : List Turn) (taken_before taken_after : Option (List ℕ)) (first faults_before faults_after : Faults)
    (rest : Option (List ℕ)) where
  -- what is served without a list is served behind one that was read and is one
  pub serves-with-list : told ≡ files → HasGoodList (Some name) files → faults_before.files ≡ first.files → first.source ≡ faults_before.source → first.sink ≡ faults_before.sink
      → ServeWay passes tells (record { list = None; files = told; script = script }) (end-of journal status noted) (world-of old taken_before faults_before) (world-of new taken_after faults_after) rest
      → ServeWay passes tells (record { list = Some name; files = files; script = script }) (end-of journal status noted) (world-of old taken_before first) (world-of new taken_after faults_after) rest
  serves-with-list same good counted source sink way = go way
    where
      later : first.files ≤ faults_before.files
      later = omega (arith, counted)

      go : ServeWay passes tells (record { list = None; files = told; script = script }) (end-of journal status noted) (world-of old taken_before faults_before) (world-of new taken_after faults_after) rest
          → ServeWay passes tells (record { list = Some name; files = files; script = script }) (end-of journal status noted) (world-of old taken_before first) (world-of new taken_after faults_after) rest
      go (list_refused none kept unread refused) =
          list_refused none kept (unread.0, unread.1 ∙ sym source)
          (refused-behind told files name script old new status noted taken_before taken_after first faults_before faults_after ask.serve good later
          source sink refused)
      go (starved none kept unread nine quiet stuck) = starved none kept (unread.0, unread.1 ∙ sym source) nine quiet (stuck.0, stuck.1 ∙ sym sink)
      go (served listed unarmed unread e is said by) =
          served good unarmed (unread ∙ counted) e is said
          (subst (λ (f : Faults). ServesSource passes tells files script e journal (world-of old taken_before f) (world-of new taken_after faults_after) rest) (faults-same faults_before first counted (sym source) (sym sink))
          (subst (λ (d : Option Directory). ServesSource passes tells d script e journal (world-of old taken_before faults_before) (world-of new taken_after faults_after) rest) same by))

-- ---- from the call

-- what is known of a device, by an equal one
pub at-device : {D : Type 0} (F : Ghosts D) (was is : Option Fields) (old new : D) → was ≡ is → old ≡ new → moment_on F was old ≡ moment_on F is new
at-device F was is old new same device = ap₂ (λ f d. moment_on F f d) same device

moved : (P : TurnMoment → TurnMoment → Type 0) {start begin last end : TurnMoment} → start ≡ begin → last ≡ end → P start last → P begin end
moved P {start} {begin} {last} {end} begins ends p = subst (λ (m : TurnMoment). P m end) begins (subst (λ (m : TurnMoment). P start m) ends p)

-- a serving from this moment to that one
pub serves-source : (passes : List ℕ → Bool) (tells : Bool) (files : Option Directory) (stream rest : Option (List ℕ)) (e : ServeEnd) (journal : List Turn) (exchange : LastAnswer) (old new : World) (start last : TurnMoment) → start ≡ old.flash
    → last ≡ at last.on new.flash.told new.flash.writes new.flash.counts new.flash.armed new.flash.power
    → ServesFrom (scene passes tells files old.faults.files) start (sink_of old) (record { run = record { moment = last; journal = journal }; exchange = exchange; sink = sink_of new }) e (port stream old.faults.source) (port rest new.faults.source)
    → ServingHolds (scene passes tells files old.faults.files) start (sink_of old) (record { run = record { moment = last; journal = journal }; exchange = exchange; sink = sink_of new }) e (port stream old.faults.source) (port rest new.faults.source)
    → ServesSource passes tells files stream e journal old new rest
serves-source passes tells files stream rest e journal exchange old new start last begins ends serves holds = record {
  on = last.on;
  exchange = exchange;
  serves = moved (λ (b l : TurnMoment). ServesFrom (scene passes tells files old.faults.files) b (sink_of old) (record { run = record { moment = l; journal = journal }; exchange = exchange; sink = sink_of new }) e (port stream old.faults.source) (port rest new.faults.source)) begins ends serves;
  holds = moved (λ (b l : TurnMoment). ServingHolds (scene passes tells files old.faults.files) b (sink_of old) (record { run = record { moment = l; journal = journal }; exchange = exchange; sink = sink_of new }) e (port stream old.faults.source) (port rest new.faults.source)) begins ends holds;
}
