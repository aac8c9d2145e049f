use Rattle.std.proofs.Common.{◌∙◌, sym, ap, map, List, arith}
use Rattle.std.proofs.lemmas.List.Elements.{All-nil}
use Rattle.fwu_model.specs.{Call.Call, Script.script_of}
use Rattle.script_text.specs.Shown.{HasBuffer, shown}
use Rattle.script_text.proofs.Reading.{behind, from_line, front_of_none, at_end, none_left}
use Rattle.script_text.proofs.Whole.{cuts-are-armable, calls-have-lines}
use Rattle.script_text.proofs.script.read_script.Goals as goal

pub loop-rest-init : goal.loop-rest-init
unfolding script_of
loop-rest-init c = record {
  reads = sym (ap (λ (l : List Call). behind l (from_line 1 c.args.bytes.now)) (ap (map shown) c.new-calls.ensures.items) ∙ front_of_none (from_line 1 c.args.bytes.now));
  numbers = omega arith;
  buffers = rw c.new-calls.ensures.items (All-nil HasBuffer);
}

pub returns-clause-few : goal.returns-clause-few
returns-clause-few c =
    let front = map shown c.loop-rest.calls.items in
    let read = c.loop-rest.invariant.reads ∙ at_end front c.loop-rest.number c.loop-rest.rest.now (none_left _ c.loop-rest.rest.now c.is_empty.ensures c.loop-rest-test.false) in
    calls-have-lines c.args.bytes.now front read

pub invariant_of-result : goal.invariant_of-result
invariant_of-result c =
    let front = map shown c.loop-rest.calls.items in
    let read = c.loop-rest.invariant.reads ∙ at_end front c.loop-rest.number c.loop-rest.rest.now (none_left _ c.loop-rest.rest.now c.is_empty.ensures c.loop-rest-test.false) in
    (cuts-are-armable c.args.bytes.now front read, c.loop-rest.invariant.buffers)

pub returns-clause-armable : goal.returns-clause-armable
returns-clause-armable c =
    let front = map shown c.loop-rest.calls.items in
    let read = c.loop-rest.invariant.reads ∙ at_end front c.loop-rest.number c.loop-rest.rest.now (none_left _ c.loop-rest.rest.now c.is_empty.ensures c.loop-rest-test.false) in
    cuts-are-armable c.args.bytes.now front read
