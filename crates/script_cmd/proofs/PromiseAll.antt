-- All that a run promises, whichever way it ended.
use Rattle.std.proofs.Common.{ℕ, Bool, List, Option, subst}
use Rattle.fwu_model.specs.{declared.kinds.Note.Note, Causes.EndsAs}
use Rattle.fwu_model.proofs.Complete.{runs-are-complete}
use Rattle.script_runs.specs.{Ending.Ending, Ending.World, Sourced.in_short, Ways.Way}
use Rattle.script_cmd.specs.Handed.{Inputs}
use Rattle.script_cmd.specs.Promises.{CompleteHolds, WaysArePromised, WaysHold, given_to, outcome}
use Rattle.script_cmd.proofs.PromiseHeadline.{ways-keep-the-headline, sound-start}
use Rattle.script_cmd.proofs.{PromiseWritten.ways-write, PromiseEnds.ways-end, PromiseTurns.ways-hold, PromiseBoot.ways-boot}

-- a run that is given what it asks for, and meets no failure, does it all
pub ways-are-complete : (passes : List ℕ → Bool) (tells : Bool) (inputs : Inputs) (end : Ending Note) (old new : World)
    → Way passes tells inputs.asked (given_to inputs) end old new → CompleteHolds passes tells inputs end old new
ways-are-complete passes tells inputs end old new way told E start calls script given asks script_is served =
    let sound = sound-start E start old.flash.told inputs.files passes old.flash.counts new.flash.counts given in
    let head = ways-keep-the-headline passes tells inputs end old new way told E start calls given asks in
    let ends = ways-end passes tells inputs.asked (given_to inputs) end old new way in
    runs-are-complete E start (outcome calls end.journal end.status old.flash new.flash) (in_short inputs.asked) inputs.list inputs.files script end.noted old.faults new.faults sound head served
    (subst (λ (o : Option (List ℕ)). EndsAs (in_short inputs.asked) inputs.list inputs.files o end.status end.noted end.journal old.flash.counts new.flash.counts old.faults new.faults) script_is ends)

pub every-way-holds : WaysHold
every-way-holds passes tells asked g end old new way =
    (ways-write passes tells asked g end old new way, ways-end passes tells asked g end old new way, ways-hold passes tells asked g end old new way)

pub promised : WaysArePromised
promised passes tells inputs end old new way =
    let all = every-way-holds passes tells inputs.asked (given_to inputs) end old new way in
    record {
      headline = ways-keep-the-headline passes tells inputs end old new way;
      wrote = all.0;
      ends = all.1;
      turns = all.2;
      boot_word = ways-boot passes tells inputs end old new way;
      complete = ways-are-complete passes tells inputs end old new way;
    }
