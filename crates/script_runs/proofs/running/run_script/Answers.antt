use Rattle.std.proofs.Common.{◌≡◌, ◌+◌, ◌-◌, List, length, IsTrue, IsFalse, Option, Some, refl, sym, ap, subst, ◌∙◌, arith, []}
use Rattle.std.specs.List.{slice_get}
use Rattle.std.proofs.lemmas.List.{length-set}
use Rattle.fwu_model.specs.{Call.Call, Reply.Turn, Run.is_send}
use Rattle.fwu_model.specs.Call as call
use Rattle.agent_machine.specs.Fields.{Fields}
use Rattle.fwu_journal.specs.{declared.journal.Journal.Journal, Shown.HasRoomFor, Shown.turns}
use Rattle.script_text.specs.Shown.{shown}
use Rattle.script_turns.specs.Powered.{at, device, has_power, moment, moment_of, moment_on, shown_on}
use Rattle.script_turns.specs.{Runs.Ran, Runs.calls_of, Runs.sends_none, Sending.IsUnnamed}
use Rattle.script_runs.specs.{Ending.is_beyond_model, Ending.IsUnnamedIn}
use Rattle.script_runs.proofs.RunEnds.{left-behind, sends-more, unnamed-more, GoesOn, goes-none, goes-on, ends-ran, ends-by, ends-printed, all-ended, all-printed, steps-printed}
use Rattle.script_runs.proofs.TopSources.{done-planned}
use Rattle.script_runs.proofs.running.run_script.Goals as goal

pub loop-index-init : goal.loop-index-init
loop-index-init g c =
    let d = device c.args.start in
    let old = moment g.D.Flash d in
    let passes = g.V.Verifier.passes c.args.verifier.now in
    let files = g.H.Files.contents c.args.files.now in
    let from = g.H.Files.faults c.args.files.now in
    let taken = g.O.Sink.taken c.args.sink.now in
    let was = g.O.Sink.faults c.args.sink.now in
    let powered = sym c.new-run.ensures.powered in
    let none : turns c.new-run.result.journal ≡ [] = ap turns c.new-run.ensures.journal ∙ c.args.ready.room.no_turns in
    let goes = goes-none passes g.D.Flash.tells files c.args.ready.script old from taken was refl in
    let begun = subst (λ (on : Option Fields). GoesOn passes g.D.Flash.tells files c.args.ready.script 0 [] old (at on old.told old.writes old.counts old.armed old.power) from from taken taken was was) (sym c.requires.not_booted) goes in
    record {
      goes = subst (λ (p : _). GoesOn passes g.D.Flash.tells files c.args.ready.script 0 (turns c.new-run.result.journal) old (moment_of p) from from taken taken was was) powered
          (subst (λ (j : List Turn). GoesOn passes g.D.Flash.tells files c.args.ready.script 0 j old (moment_of c.args.start) from from taken taken was was) (sym none) begun);
      length_is = refl;
      calls_left = λ k behind. refl;
      powered = subst (λ (p : _). g.D.Flash.on (device p) ≡ has_power p) powered c.requires.powered;
      turns_fit = subst (λ (j : Journal). HasRoomFor j (length c.args.ready.script - 0)) (sym c.new-run.ensures.journal) (omega (arith, c.args.ready.turns_fit));
      size = ap (λ (p : _). g.D.Flash.blocks (device p)) (sym powered);
      same_files = refl;
      unwritten = refl;
      unsent = λ none. refl;
      spares = λ access none. g.met.H.Files.at_rest c.args.files.now access;
    }

pub loop-index-preserved : goal.loop-index-preserved
loop-index-preserved g c =
    let was = c.loop-index.invariant in
    let taken_call = shown c.take-call.result in
    let at_call : slice_get c.args.ready.script c.loop-index.index ≡ Some taken_call = sym (was.calls_left c.loop-index.index (omega arith)) ∙ c.take-call.ensures.call in
    record {
      goes = goes-on _ _ _ _ _ _ _ _ c.loop-index.index taken_call _ _ _ _ _ _ _ _ _ _ _ _ refl was.goes at_call (steps-printed c.loop-index.invariant.same_files c.do_call-end.ensures.does c.as_slice.ensures.value c.put_line-status.ensures) c.if-status-ne0.false;
      length_is = ap length c.take-call.ensures.left ∙ length-set c.loop-index.script c.loop-index.index call.Show ∙ was.length_is;
      calls_left = λ k behind. ap (λ (l : List Call). slice_get l k) c.take-call.ensures.left ∙ left-behind c.loop-index.script c.loop-index.index call.Show k behind ∙ was.calls_left k (omega arith);
      powered = c.do_call-end.ensures.powered (done-planned _ _ _ _ _ _ _ c.put_line-status.ensures c.if-status-ne0.false);
      turns_fit = c.do_call-end.ensures.turns_fit (length c.args.ready.script - (c.loop-index.index + 1)) (omega (arith, was.turns_fit));
      size = c.do_call-end.ensures.size ∙ was.size;
      same_files = c.do_call-end.ensures.same_files ∙ was.same_files;
      unwritten = c.do_call-end.ensures.unwritten ∙ was.unwritten;
      unsent = λ none.
          let step = steps-printed c.loop-index.invariant.same_files c.do_call-end.ensures.does c.as_slice.ensures.value c.put_line-status.ensures in
          let parts = sends-more (turns c.loop-index.run.journal) _ step.turn step.kept none in
          c.do_call-end.ensures.files (subst (λ (x : Call). IsFalse (is_send x)) step.turns.call_is parts.1) ∙ was.unsent parts.0;
      spares = λ access none.
          let step = steps-printed c.loop-index.invariant.same_files c.do_call-end.ensures.does c.as_slice.ensures.value c.put_line-status.ensures in
          let parts = unnamed-more (turns c.loop-index.run.journal) _ step.turn access step.kept none in
          g.met.H.Files.joins c.args.files.now c.loop-index.files c.do_call-end.new.files access (was.spares access parts.0)
          (c.do_call-end.ensures.spares access (subst (λ (x : Call). IsUnnamed x access) step.turns.call_is parts.1));
    }

pub returns-then-status-ne0-clause-ran : goal.returns-then-status-ne0-clause-ran
returns-then-status-ne0-clause-ran g c =
    let d = device c.args.start in
    let old = moment g.D.Flash d in
    let passes = g.V.Verifier.passes c.args.verifier.now in
    let files = g.H.Files.contents c.args.files.now in
    let from = g.H.Files.faults c.args.files.now in
    let to = g.H.Files.faults c.do_call-end.new.files in
    let m = c.do_call-end.new.run.powered in (
      shown_on m,
      subst (λ (x : g.row.D.Denot). Ran passes g.D.Flash.tells files (turns c.into_done.result.journal) old (moment_on g.D.Flash (shown_on m) x) from to) (sym c.into_done.ensures.flash)
          (subst (λ (j : Journal). Ran passes g.D.Flash.tells files (turns j) old (moment_on g.D.Flash (shown_on m) (device m)) from to) (sym c.into_done.ensures.journal)
          (ends-ran _ _ _ _ _ _ _ _ c.loop-index.index (shown c.take-call.result) _ _ _ _ _ _ _ _ _ _ _ _ refl c.loop-index.invariant.goes (steps-printed c.loop-index.invariant.same_files c.do_call-end.ensures.does c.as_slice.ensures.value c.put_line-status.ensures))),
    )

pub returns-then-status-ne0-clause-ends : goal.returns-then-status-ne0-clause-ends
returns-then-status-ne0-clause-ends g c = record {
  ended =
      let at_call : slice_get c.args.ready.script c.loop-index.index ≡ Some (shown c.take-call.result) = sym (c.loop-index.invariant.calls_left c.loop-index.index (omega arith)) ∙ c.take-call.ensures.call in
      rw c.into_done.ensures.journal (rw c.into_done.ensures.status (rw c.into_done.ensures.note
      (ends-by _ _ _ _ _ _ _ _ c.loop-index.index (shown c.take-call.result) _ _ _ _ _ _ _ _ _ _ _ _ c.loop-index.invariant.goes at_call (steps-printed c.loop-index.invariant.same_files c.do_call-end.ensures.does c.as_slice.ensures.value c.put_line-status.ensures) c.if-status-ne0.true)));
  plain = ap is_beyond_model c.into_done.ensures.note ∙ c.do_call-end.ensures.note;
  printed =
      rw c.into_done.ensures.journal (rw c.into_done.ensures.status
      (ends-printed _ _ _ _ _ _ _ _ c.loop-index.index (shown c.take-call.result) _ _ _ _ _ _ _ _ _ _ _ _ c.loop-index.invariant.goes (steps-printed c.loop-index.invariant.same_files c.do_call-end.ensures.does c.as_slice.ensures.value c.put_line-status.ensures)));
}

pub returns-then-status-ne0-clause-keeps : goal.returns-then-status-ne0-clause-keeps
returns-then-status-ne0-clause-keeps g c = record {
  same = c.do_call-end.ensures.same_files ∙ c.loop-index.invariant.same_files;
  unwritten = c.do_call-end.ensures.unwritten ∙ c.loop-index.invariant.unwritten;
  unsent = λ none.
      let step = steps-printed c.loop-index.invariant.same_files c.do_call-end.ensures.does c.as_slice.ensures.value c.put_line-status.ensures in
      let still = subst (λ (j : Journal). IsTrue (sends_none (calls_of (turns j)))) c.into_done.ensures.journal none in
      let parts = sends-more (turns c.loop-index.run.journal) _ step.turn step.kept still in
      c.do_call-end.ensures.files (subst (λ (x : Call). IsFalse (is_send x)) step.turns.call_is parts.1) ∙ c.loop-index.invariant.unsent parts.0;
  spares = λ access none.
      let step = steps-printed c.loop-index.invariant.same_files c.do_call-end.ensures.does c.as_slice.ensures.value c.put_line-status.ensures in
      let still = subst (λ (j : Journal). IsUnnamedIn (turns j) access) c.into_done.ensures.journal none in
      let parts = unnamed-more (turns c.loop-index.run.journal) _ step.turn access step.kept still in
      g.met.H.Files.joins c.args.files.now c.loop-index.files c.do_call-end.new.files access (c.loop-index.invariant.spares access parts.0)
      (c.do_call-end.ensures.spares access (subst (λ (x : Call). IsUnnamed x access) step.turns.call_is parts.1));
}

pub returns-clause-ends : goal.returns-clause-ends
returns-clause-ends g c = record {
  ended =
      let end : c.loop-index.index ≡ length c.args.ready.script = omega (arith, c.loop-index-test.false, c.loop-index.auto.index-end, c.len-index-end.ensures) in
      rw c.into_done-2.ensures.journal (rw c.into_done-2.ensures.status (rw c.into_done-2.ensures.note (all-ended _ _ _ _ _ _ _ _ _ _ _ _ _ (rw end at c.loop-index.invariant.goes))));
  plain = ap is_beyond_model c.into_done-2.ensures.note;
  printed =
      let end : c.loop-index.index ≡ length c.args.ready.script = omega (arith, c.loop-index-test.false, c.loop-index.auto.index-end, c.len-index-end.ensures) in
      rw c.into_done-2.ensures.journal (rw c.into_done-2.ensures.status (all-printed _ _ _ _ _ _ _ _ _ _ _ _ _ (rw end at c.loop-index.invariant.goes)));
}

pub returns-clause-keeps : goal.returns-clause-keeps
returns-clause-keeps g c = record {
  same = c.loop-index.invariant.same_files;
  unwritten = c.loop-index.invariant.unwritten;
  unsent = λ none.
      c.loop-index.invariant.unsent (subst (λ (j : Journal). IsTrue (sends_none (calls_of (turns j)))) c.into_done-2.ensures.journal none);
  spares = λ access none. c.loop-index.invariant.spares access (subst (λ (j : Journal). IsUnnamedIn (turns j) access) c.into_done-2.ensures.journal none);
}
