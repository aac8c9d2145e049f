use Rattle.std.proofs.Common.{◌≡◌, ◌+◌, ◌++◌, arith, ◌∙◌, take}
use Rattle.std.specs.Prelude.{flat_map}
use Rattle.gen_core.specs.{Calls.round_calls, Rounds.rounds_from, Setup.soak_layout}
use Rattle.flash_commands.proofs.SoakRounds.{drawn-armable, rest-left, round-there, rounds-done, rounds-end, rounds-on}
use Rattle.flash_commands.proofs.soaking.do_rounds.Goals as goal

pub do_round-end-requires-clause-armable : goal.do_round-end-requires-clause-armable
do_round-end-requires-clause-armable g c = drawn-armable c.loop-index.register (c.loop-index.index + 1) c.draw-round.result c.draw-round.ensures.drawn

pub returns-then-end-ne0-clause-stands : goal.returns-then-end-ne0-clause-stands
returns-then-end-ne0-clause-stands g c all done old was named off =
    let x = c.args.register.now in
    let n = c.args.rounds in
    let i = c.loop-index.index in
    let r = c.draw-round.result in
    let left = c.loop-index.invariant.left in
    rounds-end x n i c.loop-index.register r c.loop-index-test.true left c.draw-round.ensures.drawn _ all done _ old _ _ _ _
    (c.do_round-end.ensures.stands all (done ++ flat_map (round_calls soak_layout.rows) (take i (rounds_from x 1 n))) old (c.loop-index.invariant.going all done old was named off)
    (round-there x n i c.loop-index.register r c.loop-index-test.true left c.draw-round.ensures.drawn all named) off)
    c.if-end-ne0.true

pub loop-index-preserved : goal.loop-index-preserved
loop-index-preserved g c =
    let x = c.args.register.now in
    let n = c.args.rounds in
    let i = c.loop-index.index in
    let r = c.draw-round.result in
    let was = c.loop-index.invariant in
    record {
      going = λ all done old start named off.
          rounds-on x n i c.loop-index.register r c.loop-index-test.true was.left c.draw-round.ensures.drawn _ all done _ old _ _ _ _
          (c.do_round-end.ensures.stands all (done ++ flat_map (round_calls soak_layout.rows) (take i (rounds_from x 1 n))) old (was.going all done old start named off)
          (round-there x n i c.loop-index.register r c.loop-index-test.true was.left c.draw-round.ensures.drawn all named) off)
          c.if-end-ne0.false;
      left = rest-left x n i c.loop-index.register r c.loop-index-test.true was.left c.draw-round.ensures.drawn _ c.draw-round.ensures.moves_on;
      powered = c.do_round-end.ensures.powered c.if-end-ne0.false;
      size = c.do_round-end.ensures.size ∙ was.size;
    }

pub returns-clause-stands : goal.returns-clause-stands
returns-clause-stands g c all done old was named off =
    let end : c.loop-index.index ≡ c.args.rounds = omega (arith, c.loop-index-test.false, c.loop-index.auto.index-end) in
    rounds-done _ all done c.args.register.now c.args.rounds c.loop-index.index _ old _ _ end (c.loop-index.invariant.going all done old was named off)
