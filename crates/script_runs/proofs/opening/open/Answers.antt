use Rattle.std.proofs.Common.{refl}
use Rattle.script_turns.specs.Powered.{moment}
use Rattle.script_runs.proofs.TableOpens.{starts-from, stops-from, waits-idle}
use Rattle.script_runs.proofs.opening.open.Goals as goal

pub returns-in-Ok-mend-clause-opens : goal.returns-in-Ok-mend-clause-opens
returns-in-Ok-mend-clause-opens g c =
    let old = moment g.D.Flash c.args.flash.now in
    let mid = moment g.D.Flash c.power_on.new.self in
    let found = moment g.D.Flash c.find.new.flash in
    let new = moment g.D.Flash c.mend.new.flash in
    starts-from 0 g.D.Flash.tells (g.D.Flash.blocks c.args.flash.now) (g.D.Flash.blocks c.power_on.new.self) (g.D.Flash.blocks c.find.new.flash) old mid found new c.in-Ok.found.table c.in-Ok.found.which
    c.power_on.ensures.size c.in-Ok.ensures.size
    (λ told. record { fresh_is = c.power_on.ensures.fresh told; leaves = c.power_on.ensures.leaves told })
    (waits-idle old mid c.power_on.ensures.counts c.power_on.ensures.made c.power_on.ensures.arming c.requires.unarmed) c.in-Ok.ensures.waits c.in-Ok-mend.ensures.waits c.in-Ok.ensures.content c.in-Ok.ensures.table
    c.power_on.ensures.writes c.in-Ok.ensures.writes c.in-Ok-mend.ensures.touches c.in-Ok.found.places c.in-Ok.ensures.fits c.in-Ok.ensures.gives
    refl c.power_on.ensures.chance c.in-Ok-mend.ensures.mends c.in-Ok-mend.ensures.beside c.in-Ok-mend.ensures.clean refl c.in-Ok-mend.ensures.power

pub returns-clause-opens : goal.returns-clause-opens
returns-clause-opens g c =
    let old = moment g.D.Flash c.args.flash.now in
    let mid = moment g.D.Flash c.power_on.new.self in
    let found = moment g.D.Flash c.find.new.flash in
    let new = moment g.D.Flash c.mend.new.flash in
    stops-from 1 g.D.Flash.tells (g.D.Flash.blocks c.args.flash.now) (g.D.Flash.blocks c.power_on.new.self) (g.D.Flash.blocks c.find.new.flash) old mid found new c.in-Ok.found.table c.in-Ok.found.which
    c.power_on.ensures.size c.in-Ok.ensures.size
    (λ told. record { fresh_is = c.power_on.ensures.fresh told; leaves = c.power_on.ensures.leaves told })
    (waits-idle old mid c.power_on.ensures.counts c.power_on.ensures.made c.power_on.ensures.arming c.requires.unarmed) c.in-Ok.ensures.waits c.in-Err-mend.ensures.waits c.in-Ok.ensures.content c.in-Ok.ensures.table
    c.power_on.ensures.writes c.in-Ok.ensures.writes c.in-Err-mend.ensures.touches c.in-Ok.found.places c.in-Ok.ensures.fits c.in-Ok.ensures.gives
    refl c.in-Err-mend.field-0 c.in-Err-mend.ensures.mends c.in-Err-mend.ensures.beside (c.in-Err-mend.ensures.cause refl) c.in-Err-mend.ensures.power
