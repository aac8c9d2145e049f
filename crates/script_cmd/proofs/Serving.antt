-- What was answered is served.
use Rattle.std.proofs.Common.{◌≡◌, ℕ, Bool, List, Option, subst, sym}
use Rattle.fwu_model.specs.{Causes.Faults, Reply.Turn}
use Rattle.fwu_words.specs.Order.{Asked}
use Rattle.script_turns.specs.Powered.{TurnMoment}
use Rattle.script_runs.specs.{Ending.Device, Ending.Ending, Ending.World, declared.done.Note.Note}
use Rattle.script_runs.proofs.TopWays.{device-of, end-of, world-of}
use Rattle.script_cmd.specs.{Here.Answered, Serves.Serves, Serves.ServesFor, Handed.Inputs}
use Rattle.script_cmd.proofs.{PromiseAll.promised, PromiseTable.promised-by-table, SinkCounts.answered-counts, Unasked.inputs-of}
use Rattle.script_cmd.proofs.{ServePromise.served-by, SoakPromise.soaked-by}

pub serving : {H I : Type 0} {passes : List ℕ → Bool} {device : Device} {inputs : Inputs} {ending : Ending Note} {old new : World}
    {rest : Option (List ℕ)} {fb fa : H} {sb sa : I} → Answered passes device inputs ending old new rest fb fa sb sa
    → Serves passes device inputs ending old new rest fb fa sb sa
serving {passes} {device} {inputs} {ending} {old} {new} {rest} {fb} {fa} {sb} {sa} a = record {
  promises = λ runs. promised _ _ _ _ _ _ (a.way runs);
  by_table = λ plain over. promised-by-table _ _ _ _ _ _ (a.by_table plain over);
  shows = a.shows;
  formats = a.formats;
  soaks = λ seed rounds is. soaked-by _ _ seed rounds _ _ _ (a.soaks seed rounds is);
  serves = λ is. served-by _ _ _ _ _ _ _ (a.serves is);
  note = a.note;
  reads = a.reads;
  sink_count = answered-counts old new passes device inputs ending rest fb fa sb sa a;
}

-- by equal words
by-words : (By : Bool → Option Asked → Option (List ℕ) → Type 0) {asks other : Bool} {asked wanted : Option Asked} {list named : Option (List ℕ)} → asks ≡ other → asked ≡ wanted → list ≡ named → By other wanted named → By asks asked list
by-words By {asks} {other} {asked} {wanted} {list} {named} asks_is asked_is list_is held =
    subst (λ (b : Bool). By b asked list) (sym asks_is)
    (subst (λ (a : Option Asked). By other a list) (sym asked_is)
    (subst (λ (l : Option (List ℕ)). By other wanted l) (sym list_is) held))

module _ {H I : Type 0} {tells : Bool} {blocks : ℕ} {told : Option (List ℕ → Option (List ℕ))} {left rest : Option (List ℕ)} {journal : List Turn} {status : ℕ} {said : Note} {old new : TurnMoment} {taken_before taken_after : Option (List ℕ)} {faults_before faults_after : Faults} {files files_after : H} {source source_after : I} where
  pub serves-at : {asks other : Bool} {asked wanted : Option Asked} {list named : Option (List ℕ)} → asks ≡ other → asked ≡ wanted → list ≡ named
      → ServesFor other (device-of tells blocks) (inputs-of wanted named told left) (end-of journal status said) (world-of old taken_before faults_before) (world-of new taken_after faults_after) rest files files_after source source_after
      → ServesFor asks (device-of tells blocks) (inputs-of asked list told left) (end-of journal status said) (world-of old taken_before faults_before) (world-of new taken_after faults_after) rest files files_after source source_after
  serves-at asks_is asked_is list_is serves =
      by-words (λ (b : Bool) (a : Option Asked) (l : Option (List ℕ)). ServesFor b (device-of tells blocks) (inputs-of a l told left) (end-of journal status said) (world-of old taken_before faults_before) (world-of new taken_after faults_after) rest files files_after source source_after)
      asks_is asked_is list_is serves
