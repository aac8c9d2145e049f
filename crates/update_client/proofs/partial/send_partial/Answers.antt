use Rattle.std.proofs.Common.{◌≡◌, ◌+◌, ◌^◌, ◌<◌, ◌≤◌, ℕ, false, List, length, take, Some, Ok, Err, sym, ap, subst, ◌∙◌, arith, IsFalse}
use Rattle.fwu_formats.specs.{Layout.ImageRow, Package.Entry}
use Rattle.fwu_model.specs.Answer.{skipped, are_named, names_unknown, partial_fault}
use Rattle.agent_calls.specs.{Shown.device, Shown.fields, Shown.gone, Shown.moment, Copies.BeginsPartly}
use Rattle.agent_calls.specs.Takes.{Takes, writes_to_begin, writes_to_copy}
use Rattle.agent_machine.proofs.{Showing.shows-some, Spending.call-spent, Spending.spent-then}
use Rattle.update_client.specs.{Takes.writes_in, declared.stops.Sent.Sent, Halts.flash_of, Sends.refused_image}
use Rattle.update_client.specs.{Images.HoldsPayloads, Images.SparesOthers}
use Rattle.update_client.specs.Partial.{SendsPresent, present, entry_types, writes_copied, writes_over}
use Rattle.update_client.proofs.{Named.known-types, WholeSending.switches, partial.send_partial.Goals.After-install}
use Rattle.update_client.proofs.Sparing.{begun-spares, gone-spares, spares-then}
use Rattle.update_client.proofs.Spending.{goes-of, here-before, not-gone}
use Rattle.update_client.proofs.Present.{counted-by, present-have, rows-found, rows-some}
use Rattle.update_client.proofs.WholePartly.{installs-over, over-early, over-unbegun, over-done, over-halted, over-started}
use Rattle.update_client.proofs.Started.{Started, done-takes, halted-takes}
use Rattle.fip_tables.proofs.Chosen.{present_few}
use Rattle.base_core.proofs.Results.{handed-on}
use Rattle.update_client.proofs.partial.send_partial.Given as given
use Rattle.update_client.proofs.partial.send_partial.Goals as goal
use Rattle.agent_machine.specs.Moment.{Showing}

pub choose_present-requires-clause-some : goal.choose_present-requires-clause-some
choose_present-requires-clause-some g c =
    let some = rows-some c.args.agent.now.layout c.rows.ensures.fits in
    omega (arith, some, ap (λ (l : List ImageRow). length l) c.rows.ensures.value)

pub returns-in_err-entries-clause-sends : goal.returns-in_err-entries-clause-sends
returns-in_err-entries-clause-sends g c =
    rw (handed-on c.from_residual.result c.in_err-entries.field-0.0 c.from_residual.ensures.1) (λ here.
    over-early c.args.toc.now _ (moment c.args.agent.now) _ _ _ c.in_err-entries.field-0.0 (subst (λ (rows : List ImageRow). refused_image
    (partial_fault rows c.args.toc.now) ≡ Some c.in_err-entries.field-0.0) c.rows.ensures.value c.in_err-entries.ensures))

module _ (g : given.Over) (c : After-install g) where
  here : IsFalse (gone c.args.agent.now)
  here = here-before _ _ c.in-Ok.ensures.goes.gone

  sendable : SendsPresent c.args.agent.now.layout.rows c.args.toc.now (Ok c.as_slice-2.result.now)
  sendable = subst (λ (rs : List ImageRow). SendsPresent rs c.args.toc.now (Ok c.as_slice-2.result.now)) c.rows.ensures.value
      (subst (λ (l : List Entry). SendsPresent c.rows.result.now c.args.toc.now (Ok l)) (sym c.as_slice-2.ensures) c.in_ok-entries.ensures)

  abbrev named : List (List ℕ)
  named = entry_types (present c.args.agent.now.layout.rows c.args.toc.now)

  known : names_unknown c.args.agent.now.layout.rows named ≡ false
  known = known-types _ _ c.args.toc.now (λ i lt. rows-found c.args.agent.now.layout i c.rows.ensures.fits lt)

  listed : take c.len.result c.types_in-types.result ≡ named
  listed = let is = sendable.1 in cc (c.len.ensures.length, c.types_in-types.ensures, c.as_slice.ensures, c.as_slice-2.ensures, is)

  began : BeginsPartly named (are_named c.args.agent.now.layout.rows named) (g.V.Verifier.passes c.args.verifier.now) (Ok tt) (moment c.args.agent.now)
      (moment c.begin_partial.new.self)
  began = subst (λ (types : List (List ℕ)). BeginsPartly types (are_named c.args.agent.now.layout.rows types) (g.V.Verifier.passes c.args.verifier.now)
      (Ok tt) (moment c.args.agent.now) (moment c.begin_partial.new.self)) listed (c.in-Ok.ensures.begins here (g.V.Verifier.passes c.args.verifier.now))

  -- the staging that was begun
  abbrev started : Started (g.V.Verifier.passes c.args.verifier.now) c.as_slice-2.result.now (moment c.args.agent.now) (moment c.begin_partial.new.self)
  started = over-started c.args.toc.now _ _ known c.rows.ensures.fits _ sendable _ began

  shown : ∥ Showing (moment c.args.agent.now) ∥₁
  shown =
      let agent = c.args.agent.now in
      shows-some (fields agent) (agent.fitting here) g.D.Flash.tells (g.D.Flash.told agent.flash) {writes = g.D.Flash.writes agent.flash} (agent.knows here)
      (agent.some here)

  -- what the begin and the images take of an armed loss
  copied : Takes (writes_to_begin (fields c.args.agent.now) + writes_copied c.args.agent.now.layout.rows c.args.agent.now.lengths c.args.toc.now)
      (g.D.Flash.arming (device c.args.agent.now)) (g.D.Flash.arming (device c.begin_partial.new.self))
  copied = subst (λ (t : List (List ℕ)). Takes (writes_to_begin (fields c.args.agent.now)
      + writes_to_copy (are_named c.args.agent.now.layout.rows t) c.args.agent.now.lengths (length c.args.agent.now.layout.rows))
      (g.D.Flash.arming (device c.args.agent.now)) (g.D.Flash.arming (device c.begin_partial.new.self))) listed (c.in-Ok.ensures.spent here)

  sum : (size : ℕ) → (writes_to_begin (fields c.args.agent.now) + writes_copied c.args.agent.now.layout.rows c.args.agent.now.lengths c.args.toc.now)
      + writes_in size c.as_slice-2.result.now
      ≡ writes_to_begin (fields c.args.agent.now) + writes_over size c.args.agent.now.layout.rows c.args.agent.now.lengths c.args.toc.now
  sum size = let same = ap (writes_in size) sendable.1 in omega (arith, same)

  -- which blocks the begin spares
  spared : SparesOthers (moment c.args.agent.now) (moment c.begin_partial.new.self)
  spared = begun-spares (c.in-Ok.ensures.begins here (g.V.Verifier.passes c.args.verifier.now))

pub returns-in-Err-clause-sends : goal.returns-in-Err-clause-sends
returns-in-Err-clause-sends g c = λ here.
    let L = c.args.agent.now.layout in
    let toc = c.args.toc.now in
    let are = subst (λ (rs : List ImageRow). SendsPresent rs toc (Ok c.in_ok-entries.entries)) c.rows.ensures.value c.in_ok-entries.ensures in
    let is = are.1 in
    let listed : take c.len.result c.types_in-types.result ≡ entry_types (present L.rows toc) =
    cc (c.len.ensures.length, c.types_in-types.ensures, c.as_slice.ensures, is) in
    rw c.unbegun.ensures (over-unbegun _ _ _ _ _ _ are.0 (known-types _ _ toc (λ i lt. rows-found L i c.rows.ensures.fits lt)) _ c.in-Err.stop
    (not-gone {T = Unit {0}} c.in-Err.stop _ here c.in-Err.ensures.goes.gone.gone.0)
    (subst (λ (types : List (List ℕ)). BeginsPartly types (are_named L.rows types) (g.V.Verifier.passes c.args.verifier.now) (Err c.in-Err.stop)
    (moment c.args.agent.now) (moment c.begin_partial.new.self)) listed (c.in-Err.ensures.begins here (g.V.Verifier.passes c.args.verifier.now))))

pub install-requires-clause-payloads : goal.install-requires-clause-payloads
install-requires-clause-payloads g c =
    let rows = c.args.agent.now.layout.rows in
    let toc = c.args.toc.now in
    let are = subst (λ (rs : List ImageRow). SendsPresent rs toc (Ok c.in_ok-entries.entries)) c.rows.ensures.value c.in_ok-entries.ensures in
    subst (λ (l : List Entry). HoldsPayloads (g.H.Files.contents c.args.files.now) c.args.name.now l) (sym (c.as_slice-2.ensures ∙ are.1))
    (record {
      ends = present-have (λ e. e.offset + e.size < 2 ^ 64) rows toc c.requires.payloads.ends;
      stored = λ file told. present-have (λ e. e.offset + e.size ≤ length file) rows toc (c.requires.payloads.stored file told);
      there = c.requires.payloads.there;
    })

pub returns-in_err-install-clause-sends : goal.returns-in_err-install-clause-sends
returns-in_err-install-clause-sends g c =
    rw (handed-on c.from_residual-in_err-install.result c.in_err-install.field-0.0 c.from_residual-in_err-install.ensures.1)
    (λ here.
    let p = (goal.at.returns-in_err-install-clause-sends g c).After-install in
    over-halted _ _ _ _ _ _ (known g p) c.rows.ensures.fits _ (sendable g p) _ (began g p) _ c.in_err-install.field-0.0
    c.in_err-install.ensures.installs)

pub returns-clause-counted : goal.returns-clause-counted
returns-clause-counted g c =
    let agent = c.args.agent.now in
    let L = agent.layout in
    let toc = c.args.toc.now in
    let are = subst (λ (rs : List ImageRow). SendsPresent rs toc (Ok c.in_ok-entries.entries)) c.rows.ensures.value c.in_ok-entries.ensures in
    let images = c.len-images.ensures.length ∙ ap (λ (l : List Entry). length l) are.1 in
    let few = present_few L.rows toc in
    counted-by L.rows toc _ _ _ images (c.skipped-skipped.ensures ∙ ap (λ (rows : List ImageRow). skipped rows toc) c.rows-3.ensures.value)
    (omega (arith, images, few, ap (λ (l : List ImageRow). length l) c.rows-2.ensures.value))

pub returns-clause-sends : goal.returns-clause-sends
returns-clause-sends g c = λ here.
    let p = (goal.at.returns-clause-sends g c).After-install in
    over-done _ _ _ _ _ _ (known g p) c.rows.ensures.fits _ (sendable g p) _ (began g p) _ _ (returns-clause-counted g c)
    c.in_ok-install.ensures.installs

pub returns-clause-installs : goal.returns-clause-installs
returns-clause-installs g c = λ here s x shows.
    let p = (goal.at.returns-clause-installs g c).After-install in
    installs-over _ _ _ _ _ _ _ _ (returns-clause-sends g c here) c.rows.ensures.fits (sendable g p).0 s x shows

pub returns-clause-switched : goal.returns-clause-switched
returns-clause-switched g c = λ here.
    switches _ _ (λ s x shows.
    let i = returns-clause-installs g c here s x shows in
    record { now = i.now; session = i.session; shows = i.shows; active = i.installed.active; previous = i.installed.previous })
    (shown g (goal.at.returns-clause-switched g c).After-install)

pub overflow_sub-copied : goal.overflow_sub-copied
overflow_sub-copied g c =
    let agent = c.args.agent.now in
    let L = agent.layout in
    let toc = c.args.toc.now in
    let fit = c.rows.ensures.fits in
    let are = subst (λ (rs : List ImageRow). SendsPresent rs toc (Ok c.in_ok-entries.entries)) c.rows.ensures.value c.in_ok-entries.ensures in
    let few = present_few L.rows toc in
    omega (arith, few, c.len-images.ensures.length, ap (λ (l : List Entry). length l) are.1, ap (λ (l : List ImageRow). length l) c.rows-2.ensures.value)

pub returns-in_err-install-clause-goes : goal.returns-in_err-install-clause-goes
returns-in_err-install-clause-goes g c =
    let b = c.install.new.agent in
    rw (handed-on c.from_residual-in_err-install.result c.in_err-install.field-0.0 c.from_residual-in_err-install.ensures.1)
    (λ here. goes-of (flash_of {T = Sent} (Err c.in_err-install.field-0.0)) (gone b) (device c.args.agent.now) (device b)
    (spent-then (call-spent here c.in-Ok.ensures.goes) c.in_err-install.ensures.keeps.spent))

pub returns-in-Err-clause-touches : goal.returns-in-Err-clause-touches
returns-in-Err-clause-touches g c =
    gone-spares {T = Unit {0}} (Err c.in-Err.stop) c.args.agent.now c.begin_partial.new.self c.in-Err.ensures.goes
    (λ here. (c.in-Err.ensures.begins here (g.V.Verifier.passes c.args.verifier.now)).touches)

pub returns-clause-touches : goal.returns-clause-touches
returns-clause-touches g c =
    (spares-then (spared g (goal.at.returns-clause-touches g c).After-install) c.in_ok-install.ensures.keeps.spares).touches

pub returns-in_err-install-clause-touches : goal.returns-in_err-install-clause-touches
returns-in_err-install-clause-touches g c =
    (spares-then (spared g (goal.at.returns-in_err-install-clause-touches g c).After-install) c.in_err-install.ensures.keeps.spares).touches

pub returns-clause-takes : goal.returns-clause-takes
returns-clause-takes g c =
    let p = (goal.at.returns-clause-takes g c).After-install in
    let size = length c.args.buf.now in
    done-takes _ _ _ _ (started g p) (shown g p) size _ _ (sum g p size) _ _ _ (copied g p) _ _ c.in_ok-install.ensures.takes

pub returns-in_err-install-clause-takes : goal.returns-in_err-install-clause-takes
returns-in_err-install-clause-takes g c =
    let p = (goal.at.returns-in_err-install-clause-takes g c).After-install in
    let size = length c.args.buf.now in
    rw (handed-on c.from_residual-in_err-install.result c.in_err-install.field-0.0 c.from_residual-in_err-install.ensures.1)
    (halted-takes _ _ _ _ (started g p) (shown g p) size _ _ (sum g p size) _ _ _ (copied g p) c.in_err-install.field-0.0 _ (sendable g p).1
    c.in_err-install.ensures.unswitched c.in_err-install.ensures.unread)
