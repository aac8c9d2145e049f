use Rattle.std.proofs.Common.{◌≡◌, ◌+◌, ◌^◌, ◌<◌, ◌≤◌, List, length, Some, Ok, Err, sym, ap, subst, ◌∙◌}
use Rattle.fwu_formats.specs.{Layout.ImageRow, Layout.fits_layout, Package.Entry}
use Rattle.fwu_model.specs.Answer.{first_image_fault, skipped}
use Rattle.agent_calls.specs.{Shown.device, Shown.fields, Shown.gone, Shown.moment, Takes.Takes, Takes.writes_to_begin}
use Rattle.update_client.specs.{Sends.Chooses, Sends.refused_image, Halts.flash_of, Images.HoldsPayloads}
use Rattle.update_client.specs.{declared.stops.Sent.Sent, Takes.writes_sent, Takes.writes_in, Images.SparesOthers}
use Rattle.agent_machine.proofs.{Showing.shows-some, Spending.call-spent, Spending.spent-then}
use Rattle.update_client.proofs.{Chosen.chosen_have, Sparing.spares-left, Sparing.spares-then, ImagesTaking.writes-chosen}
use Rattle.update_client.proofs.Spending.{goes-of, here-before, not-gone}
use Rattle.update_client.proofs.WholeSending.{installs-done, sends-early, sends-unbegun, sends-done, sends-halted, switches, whole-started}
use Rattle.update_client.proofs.sending.send.Goals.{After-begin, After-install}
use Rattle.update_client.proofs.Started.{Started, done-takes, halted-takes}
use Rattle.agent_calls.proofs.Taking.{takes-begin}
use Rattle.base_core.proofs.Results.{handed-on}
use Rattle.update_client.proofs.sending.send.Given as given
use Rattle.update_client.proofs.sending.send.Goals as goal
use Rattle.agent_machine.specs.Moment.{Showing}
use Rattle.std.specs.Prelude.{ℕ, IsTrue, IsFalse}

pub install-requires-clause-payloads : goal.install-requires-clause-payloads
install-requires-clause-payloads g c = subst (λ (l : List Entry). HoldsPayloads (g.H.Files.contents c.args.files.now) c.args.name.now l) (sym c.as_slice.ensures)
    (record {
      ends = chosen_have (λ e. e.offset + e.size < 2 ^ 64) _ c.args.toc.now c.in_ok-entries.entries c.in_ok-entries.ensures.1 c.requires.payloads.ends;
      stored = λ file told. chosen_have (λ e. e.offset + e.size ≤ length file) _ c.args.toc.now c.in_ok-entries.entries c.in_ok-entries.ensures.1
          (c.requires.payloads.stored file told);
      there = c.requires.payloads.there;
    })

pub returns-in_err-entries-clause-sends : goal.returns-in_err-entries-clause-sends
returns-in_err-entries-clause-sends g c =
    rw (handed-on c.from_residual.result c.in_err-entries.field-0.0 c.from_residual.ensures.1) (λ here.
    sends-early _ _ _ _ _ _ c.in_err-entries.field-0.0 (subst (λ (rows : List ImageRow). refused_image
    (first_image_fault rows c.args.toc.now) ≡ Some c.in_err-entries.field-0.0) c.rows.ensures.value c.in_err-entries.ensures))

module _ (g : given.Over) (c : After-begin g) where
  chosen : Chooses c.args.agent.now.layout.rows c.args.toc.now (Ok c.in_ok-entries.entries)
  chosen = subst (λ (rows : List ImageRow). Chooses rows c.args.toc.now (Ok c.in_ok-entries.entries)) c.rows.ensures.value c.in_ok-entries.ensures

module _ (g : given.Over) (c : After-install g) where
  is-chosen : Chooses c.args.agent.now.layout.rows c.args.toc.now (Ok c.as_slice.result.now)
  is-chosen = subst (λ (rows : List ImageRow). Chooses rows c.args.toc.now (Ok c.as_slice.result.now)) c.rows.ensures.value
      (subst (λ (l : List Entry). Chooses c.rows.result.now c.args.toc.now (Ok l)) (sym c.as_slice.ensures) c.in_ok-entries.ensures)

  here : IsFalse (gone c.args.agent.now)
  here = here-before _ _ c.in-Ok.ensures.goes.gone

  fit : IsTrue (fits_layout c.args.agent.now.layout)
  fit = (c.args.agent.now.fitting here).layout

  -- the staging that was begun
  abbrev started : Started (g.V.Verifier.passes c.args.verifier.now) c.as_slice.result.now (moment c.args.agent.now) (moment c.begin.new.self)
  started = whole-started c.args.toc.now _ _ _ _ fit is-chosen.1 (c.in-Ok.ensures.meets here)

  shown : ∥ Showing (moment c.args.agent.now) ∥₁
  shown =
      let agent = c.args.agent.now in
      shows-some (fields agent) (agent.fitting here) g.D.Flash.tells (g.D.Flash.told agent.flash) {writes = g.D.Flash.writes agent.flash} (agent.knows here)
      (agent.some here)

  -- what the begin and the images take of an armed loss
  begun : Takes (writes_to_begin (fields c.args.agent.now)) (g.D.Flash.arming (device c.args.agent.now)) (g.D.Flash.arming (device c.begin.new.self))
  begun = takes-begin (fields c.args.agent.now) _ _ _ c.in-Ok.ensures.spent (c.in-Ok.ensures.keeps tt) (λ is. ap (λ d. g.D.Flash.arming d) (c.in-Ok.ensures.still is))

  sum : (size : ℕ) → writes_to_begin (fields c.args.agent.now) + writes_in size c.as_slice.result.now
      ≡ writes_to_begin (fields c.args.agent.now) + writes_sent size (fields c.args.agent.now).layout.rows c.args.toc.now
  sum size = ap (λ (n : ℕ). writes_to_begin (fields c.args.agent.now) + n)
      (writes-chosen size (fields c.args.agent.now).layout.rows c.args.toc.now c.as_slice.result.now is-chosen.1.count is-chosen.1.each)

  -- which blocks the begin spares
  spared : SparesOthers (moment c.args.agent.now) (moment c.begin.new.self)
  spared = spares-left (c.in-Ok.ensures.meets here (g.V.Verifier.passes c.args.verifier.now)).leaves

pub returns-in-Err-clause-sends : goal.returns-in-Err-clause-sends
returns-in-Err-clause-sends g c = λ here. rw c.unbegun.ensures
    (sends-unbegun _ _ _ _ _ _ c.in-Err.stop _ (chosen g (goal.at.returns-in-Err-clause-sends g c).After-begin).0
    (not-gone {T = Unit {0}} c.in-Err.stop _ here c.in-Err.ensures.goes.gone.gone.0) (c.in-Err.ensures.meets here)
    (λ is E s x layout shows. c.in-Err.ensures.begun is here E s x layout shows))

pub returns-clause-sends : goal.returns-clause-sends
returns-clause-sends g c = λ here.
    let p = (goal.at.returns-clause-sends g c).After-install in
    sends-done _ _ _ _ _ _ _ (moment c.begin.new.self) _ (fit g p) (is-chosen g p) (c.in-Ok.ensures.meets here) _
    (ap length c.rows-2.ensures.value) (c.skipped-skipped.ensures ∙ ap (λ (rows : List ImageRow). skipped rows c.args.toc.now) c.rows-3.ensures.value)
    c.in_ok-install.ensures.installs

pub returns-in_err-install-clause-sends : goal.returns-in_err-install-clause-sends
returns-in_err-install-clause-sends g c =
    rw (handed-on c.from_residual-in_err-install.result c.in_err-install.field-0.0 c.from_residual-in_err-install.ensures.1)
    (λ here.
    let p = (goal.at.returns-in_err-install-clause-sends g c).After-install in
    sends-halted _ _ _ _ _ _ _ (moment c.begin.new.self) _ (fit g p) (is-chosen g p) (c.in-Ok.ensures.meets here) c.in_err-install.field-0.0
    c.in_err-install.ensures.installs)

pub returns-clause-installs : goal.returns-clause-installs
returns-clause-installs g c = λ here s x shows.
    let p = (goal.at.returns-clause-installs g c).After-install in
    installs-done _ _ _ _ _ _ _ _ (returns-clause-sends g c here) (fit g p) (is-chosen g p).0 s x shows

pub returns-clause-switched : goal.returns-clause-switched
returns-clause-switched g c = λ here.
    switches _ _ (λ s x shows.
    let i = returns-clause-installs g c here s x shows in
    record { now = i.now; session = i.session; shows = i.shows; active = i.installed.active; previous = i.installed.previous })
    (shown g (goal.at.returns-clause-switched g c).After-install)

pub returns-in_err-install-clause-goes : goal.returns-in_err-install-clause-goes
returns-in_err-install-clause-goes g c =
    let b = c.install.new.agent in
    rw (handed-on c.from_residual-in_err-install.result c.in_err-install.field-0.0 c.from_residual-in_err-install.ensures.1)
    (λ here. goes-of (flash_of {T = Sent} (Err c.in_err-install.field-0.0)) (gone b) (device c.args.agent.now) (device b)
    (spent-then (call-spent here c.in-Ok.ensures.goes) c.in_err-install.ensures.keeps.spent))

pub returns-clause-touches : goal.returns-clause-touches
returns-clause-touches g c =
    (spares-then (spared g (goal.at.returns-clause-touches g c).After-install) c.in_ok-install.ensures.keeps.spares).touches

pub returns-in_err-install-clause-touches : goal.returns-in_err-install-clause-touches
returns-in_err-install-clause-touches g c =
    (spares-then (spared g (goal.at.returns-in_err-install-clause-touches g c).After-install) c.in_err-install.ensures.keeps.spares).touches

pub returns-clause-takes : goal.returns-clause-takes
returns-clause-takes g c =
    let p = (goal.at.returns-clause-takes g c).After-install in
    let size = length c.args.buf.now in
    done-takes _ _ _ _ (started g p) (shown g p) size _ _ (sum g p size) _ _ _ (begun g p) _ _ c.in_ok-install.ensures.takes

pub returns-in_err-install-clause-takes : goal.returns-in_err-install-clause-takes
returns-in_err-install-clause-takes g c =
    let p = (goal.at.returns-in_err-install-clause-takes g c).After-install in
    let size = length c.args.buf.now in
    rw (handed-on c.from_residual-in_err-install.result c.in_err-install.field-0.0 c.from_residual-in_err-install.ensures.1)
    (halted-takes _ _ _ _ (started g p) (shown g p) size _ _ (sum g p size) _ _ _ (begun g p) c.in_err-install.field-0.0 _ (is-chosen g p).1
    c.in_err-install.ensures.unswitched c.in_err-install.ensures.unread)
