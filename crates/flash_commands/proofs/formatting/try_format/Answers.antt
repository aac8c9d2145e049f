use Rattle.std.proofs.Common.{◌*◌, ℕ, ap, subst, ◌∙◌}
use Rattle.std.proofs.lemmas.Result.{IfOk-weaker}
use Rattle.flash_core.proofs.Touches.{touches_none, touches_then}
use Rattle.fwu_formats.specs.Layout.{Layout, blocks_needed}
use Rattle.script_turns.specs.Powered.{moment}
use Rattle.flash_commands.specs.Formatting.{Tries}
use Rattle.flash_commands.proofs.FormatFlash.{power-on-guards, none-falls, stops-then, stop-cause, unwritten-by}
use Rattle.flash_commands.proofs.formatting.try_format.Goals as goal

pub returns-clause-tries : goal.returns-clause-tries
returns-clause-tries g c =
    let told = g.D.Flash.told in
    let counts = g.D.Flash.counts in
    let old = c.args.flash.now in
    let mid = c.power_on.new.self in
    let new = c.format.new.flash in
    let e = c.format.ensures in
    subst (λ (blocks : ℕ). Tries (g.V.Verifier.passes c.args.verifier.now) g.D.Flash.tells (g.H.Files.contents c.args.files.now) c.args.name.now (record { banks = c.args.banks; rows = c.args.rows.now }) blocks
    (moment g.D.Flash old) (moment g.D.Flash new) (g.H.Files.faults c.args.files.now) (g.H.Files.faults c.format.new.files) c.format.result)
    c.power_on.ensures.size
    (record {
      mid = told mid;
      woken = λ tells. record { fresh_is = c.power_on.ensures.fresh tells; leaves = c.power_on.ensures.leaves tells };
      layout = e.input.layout;
      answers = e.input.answers;
      some = e.input.some;
      untouched = λ early. ap told (e.untouched early);
      missing = λ lacks. let m = e.missing lacks in (m.0, ap told m.1);
      failed = e.failed;
      reads = e.reads.cause;
      unread_once = e.reads.once;
      given = e.given;
      passed = IfOk-weaker c.format.result _ _ (λ done made. made.passed) e.made;
      formatted = IfOk-weaker c.format.result _ _ (λ done made. made.formatted) e.made;
      spelled = IfOk-weaker c.format.result _ _ (λ done made. made.spelled) e.made;
      refused = e.refused;
      bad = e.refuses;
      images = e.images;
      blank = e.blank;
      deserved = e.deserved;
      clean = e.clean;
      ordered = e.ordered;
      keeps = e.keeps;
      touches =
          let L : Layout = record { banks = c.args.banks; rows = c.args.rows.now } in
          touches_then 0 (4096 * blocks_needed L) (touches_none 0 (4096 * blocks_needed L) c.power_on.ensures.writes) e.touches;
      unwritten = unwritten-by g.D.Flash.writes old mid new c.power_on.ensures.writes e.untouched (λ lacks. (e.missing lacks).1);
      guard = λ tells. (e.keeps tells).guard ∙ power-on-guards (told old) (told mid) (c.power_on.ensures.fresh tells);
      counts = none-falls _ (counts old) (counts mid) (counts new) c.power_on.ensures.counts e.goes.costs;
      once = stops-then _ (counts old) (counts mid) (counts new) c.power_on.ensures.counts e.goes.costs;
      made = e.goes.costs.made ∙ c.power_on.ensures.made;
      unarmed = (e.goes.unarmed.free (c.power_on.ensures.arming ∙ c.requires.unarmed)).0;
      power = e.goes.power;
      stopped = λ stop is. stop-cause _ stop (counts old) (counts mid) (counts new) is c.power_on.ensures.counts e.goes.costs (e.goes.unarmed.free (c.power_on.ensures.arming ∙ c.requires.unarmed)).1;
    })

pub returns-clause-reads : goal.returns-clause-reads
returns-clause-reads g c = c.format.ensures.reads.files
