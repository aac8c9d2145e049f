-- How often the sink failed, whichever way the program ended.
use Rattle.std.proofs.Common.{◌≡◌, ◌≢◌, ℕ, Bool, List, Option, Some, None, Result, Err, arith, refl, sym, ap, subst}
use Rattle.flash_core.specs.declared.flash.Counts.{Counts}
use Rattle.flash_format.specs.{declared.formatting.Formatted.Formatted, declared.stops.FormatStop.FormatStop}
use Rattle.flash_format.specs.declared.stops.FormatStop.TheVariants.{ReadFailed}
use Rattle.fwu_formats.specs.Layout.{Layout}
use Rattle.fwu_model.specs.{Causes.Faults, Causes.status_by, Reply.Reply}
use Rattle.fwu_model.specs.Reply as reply
use Rattle.fwu_model.specs.declared.kinds.Note as model
use Rattle.fwu_words.specs.Order.{Asked}
use Rattle.fwu_words.specs.Order as ask
use Rattle.gen_core.specs.Line.{soak_line, too_small_line}
use Rattle.script_runs.specs.{ByTable.flash_fault_line, ByTable.no_table_line, Ending.Device, Ending.Ending, Ending.World}
use Rattle.script_runs.specs.{Ending.in_model, Ways.Given, Ways.Refuses, Ways.Way, WaysByTable.WayByTable, declared.done.Note.Note}
use Rattle.flash_commands.specs.{Formatting.Formats, Formatting.format_status, Formatting.format_text, Showing.ShowFinds}
use Rattle.flash_commands.specs.{Showing.RefusedList, Showing.Showed, SoakWays.SoakEnds, SoakWays.SoakWay, Soaking.stop_line}
use Rattle.flash_commands.specs.Formatting as format
use Rattle.host_io.specs.Printed.{FailsAtThree}
use Rattle.flash_commands.specs.Showing as show
use Rattle.flash_commands.specs.SoakWays as soak
use Rattle.script_runs.specs.Ways as way
use Rattle.script_runs.specs.WaysByTable as table
use Rattle.script_runs.proofs.TopSources.{counts-line, counts-none}
use Rattle.script_cmd.specs.{Here.Answered, Here.ServeWay, Promises.given_to}
use Rattle.script_cmd.specs.Here as serve
use Rattle.script_cmd.specs.Handed.{Inputs, given_all, RunsOrNone, over_table}
use Rattle.script_cmd.proofs.PromiseEnds.{why-planned}

-- ---- no plan is the status 3

refused-other : (asked : Option Asked) (g : Given) (before after : Faults) (planned : ℕ) (noted : model.Note) (line : List ℕ)
    → Refuses asked g before after planned noted line → planned ≢ 3
refused-other asked g before after planned noted line why = (why-planned asked g before after planned noted line why).2

found-other : (known : Type 0) (image : List ℕ) (before after : Counts) (planned : ℕ) (noted : model.Note) (line : List ℕ) → ShowFinds known image before after planned noted line → planned ≢ 3
found-other known image before after planned noted line (show.numbers n are shows) three = absurd (omega arith)
found-other known image before after planned noted line other three = absurd (omega arith)

format-other : (r : Result Formatted FormatStop) → format_status r ≢ 3
format-other (Err ReadFailed) three = absurd (omega arith)
format-other other three = absurd (omega arith)

turn-other : (r : Reply) → status_by r ≢ 3
turn-other reply.Fault three = absurd (omega arith)
turn-other other three = absurd (omega arith)

-- ---- by the way

module _ (old new : World) where
  way-counts : (passes : List ℕ → Bool) (tells : Bool) (asked : Option Asked) (g : Given) (end : Ending model.Note) → Way passes tells asked g end old new → FailsAtThree end.status old.faults.sink new.faults.sink
  way-counts passes tells asked g end (way.starved empty same nine quiet stuck) = counts-none end.status old.faults.sink new.faults.sink nine stuck.1
  way-counts passes tells asked g end (way.refused planned line empty same why prints) =
      counts-line line planned end.status old.taken new.taken old.faults.sink new.faults.sink (refused-other asked g old.faults new.faults planned end.noted line why) prints
  way-counts passes tells asked g end (way.ran calls on good asks has turns ended printed) = printed.count

  table-counts : (passes : List ℕ → Bool) (device : Device) (asked : Option Asked) (g : Given) (end : Ending Note) → WayByTable passes device asked g end old new → FailsAtThree end.status old.faults.sink new.faults.sink
  table-counts passes device asked g end (table.untouched none same other beyond went) = way-counts passes device.tells asked g (in_model end) went
  table-counts passes device asked g end (table.starved calls reads none looks nine is stuck) = counts-none end.status old.faults.sink new.faults.sink nine stuck.1
  table-counts passes device asked g end (table.lacked calls why reads none looks lacks is prints) =
      counts-line (no_table_line why) 10 end.status old.taken new.taken old.faults.sink new.faults.sink (λ three. absurd (omega (arith, three))) prints
  table-counts passes device asked g end (table.stopped calls reads none stops is prints) =
      counts-line flash_fault_line 5 end.status old.taken new.taken old.faults.sink new.faults.sink (λ three. absurd (omega (arith, three))) prints
  table-counts passes device asked g end (table.ran calls p start on reads starts turns beside touches ended beyond printed) = printed.count

  list-counts : (asked : Asked) (g : Given) (status : ℕ) (noted : model.Note) → RefusedList asked g status noted old new → FailsAtThree status old.faults.sink new.faults.sink
  list-counts asked g status noted (planned, line, why, prints) =
      counts-line line planned status old.taken new.taken old.faults.sink new.faults.sink (refused-other (Some asked) g old.faults new.faults planned noted line why) prints

  show-counts : (tells : Bool) (g : Given) (status : ℕ) (noted : model.Note) → Showed tells g old new status noted → FailsAtThree status old.faults.sink new.faults.sink
  show-counts tells g status noted (show.starved nine quiet same stuck) = counts-none status old.faults.sink new.faults.sink nine stuck.1
  show-counts tells g status noted (show.list_refused same refused) = list-counts ask.show g status noted refused
  show-counts tells g status noted (show.found good planned line wakes finds once power still prints) =
      counts-line line planned status old.taken new.taken old.faults.sink new.faults.sink (found-other _ new.flash.told.now old.flash.counts new.flash.counts planned noted line finds) prints

  format-counts : (passes : List ℕ → Bool) (device : Device) (g : Given) (name : List ℕ) (L : Layout) (status : ℕ) (said : Note) → Formats passes device g name L old new status said → FailsAtThree status old.faults.sink new.faults.sink
  format-counts passes device g name L status said (format.starved nine is same stuck still) = counts-none status old.faults.sink new.faults.sink nine stuck.1
  format-counts passes device g name L status said (format.tried good r tries prints is) =
      counts-line (format_text r) (format_status r) status old.taken new.taken old.faults.sink new.faults.sink (format-other r) prints
  format-counts passes device g name L status said (format.list_refused same beyond refused) = list-counts _ g status _ refused

  ends-counts : (rounds : ℕ) (end : Ending model.Note) {calls : List _} → SoakEnds rounds calls end old.taken new.taken old.faults.sink new.faults.sink → FailsAtThree end.status old.faults.sink new.faults.sink
  ends-counts rounds end (soak.all_done calls none quiet prints) =
      counts-line (soak_line rounds end.journal) 0 end.status old.taken new.taken old.faults.sink new.faults.sink (λ three. absurd (omega (arith, three))) prints
  ends-counts rounds end (soak.lacking less none quiet nine stuck same) = counts-none end.status old.faults.sink new.faults.sink nine same
  ends-counts rounds end (soak.stopped less front t is none ends read noted_is prints) =
      counts-line (stop_line t) (status_by t.reply) end.status old.taken new.taken old.faults.sink new.faults.sink (turn-other t.reply) prints

  soak-counts : (device : Device) (g : Given) (seed rounds : ℕ) (end : Ending Note) → SoakWay device g seed rounds end old new → FailsAtThree end.status old.faults.sink new.faults.sink
  soak-counts device g seed rounds end (soak.list_refused none same beyond refused) = list-counts _ g end.status _ refused
  soak-counts device g seed rounds end (soak.starved none same nine is stuck) = counts-none end.status old.faults.sink new.faults.sink nine stuck.1
  soak-counts device g seed rounds end (soak.too_small good small none same is prints) =
      counts-line too_small_line 7 end.status old.taken new.taken old.faults.sink new.faults.sink (λ three. absurd (omega (arith, three))) prints
  soak-counts device g seed rounds end (soak.not_formatted good large none stop tries is kept prints) =
      counts-line (format_text (Err stop)) (format_status (Err stop)) end.status old.taken new.taken old.faults.sink new.faults.sink (format-other (Err stop)) prints
  soak-counts device g seed rounds end (soak.ran good large done start on tries off power turns ends beyond kept) = ends-counts rounds (in_model end) ends

  serve-counts : (passes : List ℕ → Bool) (tells : Bool) (g : Given) (end : Ending model.Note) (rest : Option (List ℕ)) → ServeWay passes tells g end old new rest → FailsAtThree end.status old.faults.sink new.faults.sink
  serve-counts passes tells g end rest (serve.list_refused none same unread refused) = list-counts ask.serve g end.status end.noted refused
  serve-counts passes tells g end rest (serve.starved none same unread nine is stuck) = counts-none end.status old.faults.sink new.faults.sink nine stuck.1
  serve-counts passes tells g end rest (serve.served good unarmed unread e is said by) = subst (λ (k : ℕ). FailsAtThree k old.faults.sink new.faults.sink) (sym is) by.holds.sink_count

  pub answered-counts : {H I : Type 0} (passes : List ℕ → Bool) (device : Device) (inputs : Inputs) (end : Ending Note) (rest : Option (List ℕ)) (fb fa : H) (sb sa : I)
      → Answered passes device inputs end old new rest fb fa sb sa → FailsAtThree end.status old.faults.sink new.faults.sink
  answered-counts passes device inputs end rest fb fa sb sa a = go inputs.asked refl
    where
      by-way : RunsOrNone inputs.asked → FailsAtThree end.status old.faults.sink new.faults.sink
      by-way runs = way-counts passes device.tells inputs.asked (given_to inputs) (in_model end) (a.way runs)

      by-table : (plain : Asked) → over_table inputs.asked ≡ Some plain → FailsAtThree end.status old.faults.sink new.faults.sink
      by-table plain over = table-counts passes device (Some plain) (given_to (record inputs { asked = Some plain })) end (a.by_table plain over)

      go : (asked : Option Asked) → inputs.asked ≡ asked → FailsAtThree end.status old.faults.sink new.faults.sink
      go None is = by-way (subst RunsOrNone (sym is) tt)
      go (Some ask.run) is = by-way (subst RunsOrNone (sym is) tt)
      go (Some ask.run_partitioned) is = by-table ask.run (ap over_table is)
      go (Some ask.boot) is = by-way (subst RunsOrNone (sym is) tt)
      go (Some ask.boot_partitioned) is = by-table ask.boot (ap over_table is)
      go (Some ask.show) is = show-counts device.tells (given_all inputs) end.status (in_model end).noted (a.shows is).showed
      go (Some (ask.format banks rows file)) is =
          format-counts passes device (given_all inputs) file (record { banks = banks; rows = rows }) end.status end.noted (a.formats banks rows file is).formats
      go (Some (ask.soak seed rounds)) is = soak-counts device (given_all inputs) seed rounds end (a.soaks seed rounds is)
      go (Some ask.serve) is = serve-counts passes device.tells (given_all inputs) (in_model end) rest (a.serves is)
