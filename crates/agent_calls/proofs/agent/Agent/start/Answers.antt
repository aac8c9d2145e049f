use Rattle.std.proofs.Common.{◌≡◌, ◌<◌, ◌≤◌, List, length, refl, sym, ap, subst, ◌∙◌, arith}
use Rattle.fwu_formats.specs.Layout.{Layout, ImageRow}
use Rattle.agent_kept.specs.Kept.{kept, slot_room_of}
use Rattle.agent_machine.proofs.Room.{slots-small}
use Rattle.early_boot.specs.{Choosing.LengthsFitSlots, Started.started, Started.started_session}
use Rattle.agent_calls.proofs.Starting.{starts-fitting, starts-some, starts-known, starts-session, starts-shows}
use Rattle.agent_calls.proofs.agent.Agent.start.Goals as goal

pub new-session-requires-clause-slots : goal.new-session-requires-clause-slots
new-session-requires-clause-slots g c image =
    subst (λ (rows : List ImageRow). slot_room_of rows image ≤ 1048576) (sym c.rows.ensures.value)
    (slots-small c.into_parts-flash.result.1 c.rows.ensures.fit image)

pub invariant_of-result : goal.invariant_of-result
invariant_of-result g c =
    let layout = c.into_parts-flash.result.1 in
    let b = started c.args.booted in
    let rows = c.new-session.ensures.rows ∙ c.rows.ensures.value in
    let same = c.into_parts-flash.ensures.layout in
    let below : c.bank-boot.result < layout.banks = omega (arith, c.bank-boot.ensures.below, ap (λ (l : Layout). l.banks) same) in
    let count : length b.lengths ≡ length layout.rows = c.lengths-lengths.ensures.count ∙ ap (λ (l : Layout). length l.rows) (sym same) in
    record {
      power = λ here. c.into_parts-flash.ensures.power;
      inside = λ here. c.into_parts-flash.ensures.inside;
      fitting = λ here.
          starts-fitting _ rows c.new-session.ensures.nothing c.new-session.ensures.idle c.new-session.ensures.closed c.rows.ensures.fit
          c.into_parts-flash.ensures.fits below c.lengths-lengths.ensures.all b.lengths c.lengths-lengths.ensures.front count
          (subst (λ (l : Layout). LengthsFitSlots l b.lengths) (sym same) c.lengths-lengths.ensures.within) refl;
      some = λ here. starts-some (kept c.new-session.result) c.new-session.ensures.nothing;
      knows = λ here tells.
          starts-known _ rows c.new-session.ensures.nothing c.new-session.ensures.idle c.new-session.ensures.closed
          (g.D.Flash.told c.into_parts-flash.result.0) b same c.into_parts-flash.ensures.metadata c.bank-boot.ensures.value
          c.trials-trials.ensures.value c.counter-counter.ensures
          c.lengths-lengths.ensures.front count (c.into_parts-flash.ensures.knows tells);
    }

pub returns-clause-shows : goal.returns-clause-shows
returns-clause-shows g c tells =
    let layout = c.into_parts-flash.result.1 in
    let b = started c.args.booted in
    let rows = c.new-session.ensures.rows ∙ c.rows.ensures.value in
    let same = c.into_parts-flash.ensures.layout in
    let below : c.bank-boot.result < layout.banks = omega (arith, c.bank-boot.ensures.below, ap (λ (l : Layout). l.banks) same) in
    let count : length b.lengths ≡ length layout.rows = c.lengths-lengths.ensures.count ∙ ap (λ (l : Layout). length l.rows) (sym same) in
    starts-shows _ (started_session b)
    (starts-fitting _ rows c.new-session.ensures.nothing c.new-session.ensures.idle c.new-session.ensures.closed c.rows.ensures.fit
    c.into_parts-flash.ensures.fits below c.lengths-lengths.ensures.all b.lengths c.lengths-lengths.ensures.front count
    (subst (λ (l : Layout). LengthsFitSlots l b.lengths) (sym same) c.lengths-lengths.ensures.within) refl)
    (starts-known _ rows c.new-session.ensures.nothing c.new-session.ensures.idle c.new-session.ensures.closed
    (g.D.Flash.told c.into_parts-flash.result.0) b same c.into_parts-flash.ensures.metadata c.bank-boot.ensures.value
    c.trials-trials.ensures.value c.counter-counter.ensures
    c.lengths-lengths.ensures.front count (c.into_parts-flash.ensures.knows tells))
    (λ s x shows. starts-session _ c.args.booted.chosen.bank c.bank-boot.ensures.value c.new-session.ensures.idle c.new-session.ensures.closed s x shows)
