use Rattle.std.proofs.Common.{◌≡◌, ◌<◌, ℕ, length, get_or, Ok, Err, Option, subst, ◌∙◌, arith}
use Rattle.std.proofs.lemmas.List.{get_or_default}
use Rattle.update_client.proofs.{Keeping.keeps-none, Keeping.keeps-then, Unsent.images-start, Unsent.unread-then}
use Rattle.update_client.proofs.ImagesTaking.{images-take-none, images-take-more, images-take-all}
use Rattle.update_client.proofs.SentImages.{images-none, images-more, images-stopped, images-done}
use Rattle.host_io.specs.Contents.{Directory}
use Rattle.fwu_formats.specs.Package.{Entry}
use Rattle.agent_calls.specs.{Shown.device, Shown.moment, Takes.writes_of_image}
use Rattle.update_client.specs.{Images.SendsImage, Images.no_entry, Takes.AllUnstagedTake, Takes.TakesFirst, Takes.TakesFront, Takes.UnstagedTakes}
use Rattle.base_core.proofs.Results.{handed-on}
use Rattle.update_client.proofs.images.send_images.Goals as goal

pub loop-k-init : goal.loop-k-init
loop-k-init g c = record {
  first = images-none _ _ _ _ _;
  takes = images-take-none (length c.args.buf.now) c.args.payloads.now.entries.now _ _;
  keeps = keeps-none g.H.Files g.met.H.Files.at_rest g.met.H.Files.joins c.args.payloads.now.name.now c.args.agent.now _ _ c.requires.here (c.args.agent.now.power c.requires.here);
}

pub loop-k-preserved : goal.loop-k-preserved
loop-k-preserved g c =
    let before = c.loop-k.invariant in
    let k = c.loop-k.k in
    let name = c.args.payloads.now.name.now in
    let entries = c.args.payloads.now.entries.now in
    let below : k < length entries = omega (arith, c.loop-k-test.true) in
    let at : c.index-entries-k.result ≡ get_or entries k no_entry = c.index-entries-k.is ∙ get_or_default entries k c.index-entries-k.result no_entry below in
    let image = subst (λ (d : Option Directory). SendsImage d name (get_or entries k no_entry) c.args.acceptance (Ok tt) (moment c.loop-k.agent)
    (moment c.send_image.new.agent)) before.keeps.files.same
    (subst (λ (e : Entry). SendsImage (g.H.Files.contents c.loop-k.files) name e c.args.acceptance (Ok tt) (moment c.loop-k.agent)
    (moment c.send_image.new.agent)) at c.in_ok-send_image.ensures.sent) in
    let takes = subst (λ (n : ℕ). UnstagedTakes (writes_of_image n (get_or entries k no_entry).size) (get_or entries k no_entry) (moment c.loop-k.agent)
    (g.D.Flash.arming (device c.loop-k.agent)) (g.D.Flash.arming (device c.send_image.new.agent))) before.keeps.buffer
    (subst (λ (e : Entry). UnstagedTakes (writes_of_image (length c.loop-k.buf) e.size) e (moment c.loop-k.agent) (g.D.Flash.arming (device c.loop-k.agent))
    (g.D.Flash.arming (device c.send_image.new.agent))) at c.in_ok-send_image.ensures.takes) in
    record {
      first = images-more _ _ _ _ k below _ (moment c.loop-k.agent) _ before.first image;
      takes = images-take-more _ _ (length c.args.buf.now) _ _ k _ (moment c.loop-k.agent) _ _ _ below before.first before.takes takes;
      keeps = keeps-then g.H.Files g.met.H.Files.at_rest g.met.H.Files.joins name before.keeps c.in_ok-send_image.ensures.keeps;
    }

pub returns-clause-sent : goal.returns-clause-sent
returns-clause-sent g c = images-done _ _ _ _ c.loop-k.k _ _ (omega (arith, c.loop-k-test.false, c.loop-k.auto.k-end)) c.loop-k.invariant.first

pub returns-clause-takes : goal.returns-clause-takes
returns-clause-takes g c =
    images-take-all (length c.args.buf.now) c.args.payloads.now.entries.now c.loop-k.k _ _ _ (omega (arith, c.loop-k-test.false)) c.loop-k.invariant.takes

pub returns-in_err-send_image-clause-sent : goal.returns-in_err-send_image-clause-sent
returns-in_err-send_image-clause-sent g c =
    rw (handed-on c.from_residual.result c.in_err-send_image.field-0.0 c.from_residual.ensures.1) (
    let before = c.loop-k.invariant in
    let k = c.loop-k.k in
    let name = c.args.payloads.now.name.now in
    let entries = c.args.payloads.now.entries.now in
    let below : k < length entries = omega (arith, c.loop-k-test.true) in
    let at : c.index-entries-k.result ≡ get_or entries k no_entry = c.index-entries-k.is ∙ get_or_default entries k c.index-entries-k.result no_entry below in
    let image = subst (λ (d : Option Directory). SendsImage d name (get_or entries k no_entry) c.args.acceptance (Err c.in_err-send_image.field-0.0)
    (moment c.loop-k.agent) (moment c.send_image.new.agent)) before.keeps.files.same
    (subst (λ (e : Entry). SendsImage (g.H.Files.contents c.loop-k.files) name e c.args.acceptance (Err c.in_err-send_image.field-0.0)
    (moment c.loop-k.agent) (moment c.send_image.new.agent)) at c.in_err-send_image.ensures.sent) in
    images-stopped _ _ _ _ k below _ (moment c.loop-k.agent) _ before.first c.in_err-send_image.field-0.0 image)

pub returns-in_err-send_image-clause-unread : goal.returns-in_err-send_image-clause-unread
returns-in_err-send_image-clause-unread g c =
    rw (handed-on c.from_residual.result c.in_err-send_image.field-0.0 c.from_residual.ensures.1) (
    let before = c.loop-k.invariant in
    let k = c.loop-k.k in
    let entries = c.args.payloads.now.entries.now in
    let below : k < length entries = omega (arith, c.loop-k-test.true) in
    let at : c.index-entries-k.result ≡ get_or entries k no_entry = c.index-entries-k.is ∙ get_or_default entries k c.index-entries-k.result no_entry below in
    let size = length c.args.buf.now in
    let now = length c.loop-k.buf in
    let from = moment c.loop-k.agent in
    let armed = g.D.Flash.arming (device c.args.agent.now) in
    let mid = g.D.Flash.arming (device c.loop-k.agent) in
    let arming = g.D.Flash.arming (device c.send_image.new.agent) in
    unread-then (Unit {0}) (Unit {0}) c.in_err-send_image.field-0.0 (TakesFront now c.index-entries-k.result (λ w. UnstagedTakes w c.index-entries-k.result from mid arming))
    (TakesFirst size entries (AllUnstagedTake entries (moment c.args.agent.now) armed arming))
    (λ starts. images-start _ _ size entries _ k (moment c.args.agent.now) from armed mid arming below before.first before.takes
    (subst (λ (n : ℕ). TakesFront n (get_or entries k no_entry) (λ w. UnstagedTakes w (get_or entries k no_entry) from mid arming)) before.keeps.buffer
    (subst (λ (x : Entry). TakesFront now x (λ w. UnstagedTakes w x from mid arming)) at starts))) c.in_err-send_image.ensures.unread)

pub returns-in_err-send_image-clause-keeps : goal.returns-in_err-send_image-clause-keeps
returns-in_err-send_image-clause-keeps g c =
    rw (handed-on c.from_residual.result c.in_err-send_image.field-0.0 c.from_residual.ensures.1)
    (keeps-then g.H.Files g.met.H.Files.at_rest g.met.H.Files.joins c.args.payloads.now.name.now c.loop-k.invariant.keeps c.in_err-send_image.ensures.keeps)
