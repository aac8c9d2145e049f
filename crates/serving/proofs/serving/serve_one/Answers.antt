use Rattle.std.proofs.Common.{◌∙◌, refl, sym, ap}
use Rattle.wire_frames.specs.Exchange.{admission}
use Rattle.serving.proofs.serving.serve_one.Goals as goal

pub returns-in-Acts-clause-serves : goal.returns-in-Acts-clause-serves
returns-in-Acts-clause-serves g c =
    let acts = ap (admission c.args.serving.now.exchange.last) (sym c.number_of.ensures) ∙ sym c.admit.ensures ∙ c.in-Acts.is in
    rw acts c.serve_new.ensures.serves

pub returns-in-Repeats-clause-serves : goal.returns-in-Repeats-clause-serves
returns-in-Repeats-clause-serves g c =
    let repeats = ap (admission c.args.serving.now.exchange.last) (sym c.number_of.ensures) ∙ sym c.admit.ensures ∙ c.in-Repeats.is in
    let puts = rw c.repeat-size.ensures.puts.front at c.put.ensures.puts in
    rw repeats (record { run = refl; exchange = refl; puts = puts })
