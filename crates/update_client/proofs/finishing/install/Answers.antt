use Rattle.std.proofs.Common.{◌≡◌, false, length, Result, Err, sym, subst, ◌∙◌}
use Rattle.std.proofs.lemmas.Result.{on_ok_weaker}
use Rattle.flash_core.specs.declared.flash.FlashStop.{FlashStop}
use Rattle.agent_calls.specs.Shown.{SpentBy, device, moment}
use Rattle.update_client.specs.{declared.stops.SendStop.SendStop, declared.stops.SendStop.TheVariants.ReadFailed, Halts.flash_of}
use Rattle.update_client.specs.{Halts.is_unread, Images.SendsImages, Images.KeepsBeside, Takes.ImagesTake}
use Rattle.update_client.proofs.{Keeping.keeps-ended, Keeping.keeps-then, Sparing.spares-left, Sparing.spares-then}
use Rattle.update_client.proofs.{Spending.unstopped, Unsent.end-of, Unsent.end-read, Unsent.images-no-end, Unsent.other-read}
use Rattle.update_client.proofs.Installed.{installed, uncancelled, interrupted, unread-is}
use Rattle.agent_machine.proofs.Spending.{call-spent, spent-then}
use Rattle.update_client.proofs.finishing.install.Goals as goal

pub returns-then-not-is_unread-clause-installs : goal.returns-then-not-is_unread-clause-installs
returns-then-not-is_unread-clause-installs g c =
    let other : is_unread c.in-Err.stop ≡ false = sym c.is_unread.ensures ∙ c.if-not-is_unread.true in
    interrupted _ _ _ _ _ _ (moment c.send_images.new.agent) _ c.in-Err.stop other c.in-Err.ensures.sent

pub returns-in-Ok-clause-installs : goal.returns-in-Ok-clause-installs
returns-in-Ok-clause-installs g c = installed _ _ _ _ _ _ (moment c.send_images.new.agent) _ c.finish.result c.in-Ok.ensures.sent c.finish.ensures.finishes

pub returns-else-not-is_unread-clause-installs : goal.returns-else-not-is_unread-clause-installs
returns-else-not-is_unread-clause-installs g c =
    let is : c.in-Err.stop ≡ ReadFailed = unread-is c.in-Err.stop (sym c.is_unread.ensures ∙ c.if-not-is_unread.false) in
    let sent = subst (λ (st : SendStop). SendsImages (g.H.Files.contents c.args.files.now) c.args.payloads.now.name.now c.args.payloads.now.entries.now c.args.acceptance
    (Err st) (moment c.args.agent.now) (moment c.send_images.new.agent)) is c.in-Err.ensures.sent in
    let spent = subst (λ (st : SendStop). SpentBy (flash_of {T = Unit {0}} (Err st)) c.args.agent.now c.send_images.new.agent) is c.in-Err.ensures.keeps.spent in
    let e = c.cancel-cancelled.ensures in
    uncancelled _ _ _ _ _ _ (moment c.send_images.new.agent) _ c.cancel-cancelled.result _ _ spent.gone_is e.goes.gone e.answers sent (e.meets spent.gone_is)

pub returns-in-Ok-clause-takes : goal.returns-in-Ok-clause-takes
returns-in-Ok-clause-takes g c =
    on_ok_weaker c.finish.result (λ ends. record {
      sent = g.D.Flash.arming (device c.send_images.new.agent);
      images = c.in-Ok.ensures.takes;
      switch = ends;
    }) c.finish.ensures.takes

pub returns-in-Ok-clause-unswitched : goal.returns-in-Ok-clause-unswitched
returns-in-Ok-clause-unswitched g c =
    let entries = c.args.payloads.now.entries.now in
    let size = length c.args.buf.now in
    let old = moment c.args.agent.now in
    let armed = g.D.Flash.arming (device c.args.agent.now) in
    end-of (Unit {0}) c.finish.result (device c.finish.new.agent ≡ device c.send_images.new.agent)
    (ImagesTake size entries (length entries) old armed (g.D.Flash.arming (device c.finish.new.agent)))
    (λ same. subst (λ d. ImagesTake size entries (length entries) old armed (g.D.Flash.arming d)) (sym same) c.in-Ok.ensures.takes) c.finish.ensures.unswitched

pub returns-in-Ok-clause-unread : goal.returns-in-Ok-clause-unread
returns-in-Ok-clause-unread g c = end-read (Unit {0}) c.finish.result _ c.finish.ensures.stops

pub returns-then-not-is_unread-clause-unswitched : goal.returns-then-not-is_unread-clause-unswitched
returns-then-not-is_unread-clause-unswitched g c =
    images-no-end _ _ (length c.args.buf.now) c.args.payloads.now.entries.now _ c.in-Err.stop (moment c.args.agent.now) (moment c.send_images.new.agent) _ _
    c.in-Err.ensures.sent

pub returns-then-not-is_unread-clause-unread : goal.returns-then-not-is_unread-clause-unread
returns-then-not-is_unread-clause-unread g c = other-read (Unit {0}) c.in-Err.stop _ (sym c.is_unread.ensures ∙ c.if-not-is_unread.true)

pub returns-in-Ok-clause-keeps : goal.returns-in-Ok-clause-keeps
returns-in-Ok-clause-keeps g c =
    let name = c.args.payloads.now.name.now in
    keeps-then g.H.Files g.met.H.Files.at_rest g.met.H.Files.joins name c.in-Ok.ensures.keeps
    (keeps-ended g.H.Files g.met.H.Files.at_rest g.met.H.Files.joins name c.finish.result c.send_images.new.agent c.finish.new.agent _ _ c.finish.ensures.stops c.finish.ensures.spent
    c.finish.ensures.spares)

pub returns-else-not-is_unread-clause-keeps : goal.returns-else-not-is_unread-clause-keeps
returns-else-not-is_unread-clause-keeps g c =
    let is : c.in-Err.stop ≡ ReadFailed = unread-is c.in-Err.stop (sym c.is_unread.ensures ∙ c.if-not-is_unread.false) in
    let sent = subst (λ (st : SendStop). KeepsBeside {T = Unit {0}} g.H.Files c.args.payloads.now.name.now (Err st) c.args.agent.now c.send_images.new.agent
    c.args.files.now c.send_images.new.files c.args.buf.now c.send_images.new.buf) is c.in-Err.ensures.keeps in
    let e = c.cancel-cancelled.ensures in
    record {
      stops = tt;
      spent = spent-then sent.spent (subst (λ (f : Result (Unit {0}) FlashStop). SpentBy f c.send_images.new.agent c.cancel-cancelled.new.self)
          (unstopped c.cancel-cancelled.result e.answers) (call-spent sent.spent.gone_is e.goes));
      spares = spares-then sent.spares (spares-left (e.meets sent.spent.gone_is (g.V.Verifier.passes c.args.verifier.now)).leaves);
      buffer = sent.buffer;
      files = sent.files;
      reads = sent.reads;
    }
