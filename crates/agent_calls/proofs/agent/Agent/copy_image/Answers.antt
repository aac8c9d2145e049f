use Rattle.std.proofs.Common.{◌<◌, Some, length, sym, ap, subst, true}
use Rattle.fwu_formats.specs.Layout.{Layout}
use Rattle.agent_calls.specs.{Takes.FrontTakes, Takes.pieces_of, Copies.FillsBank}
use Rattle.agent_calls.specs.Shown.{device, fields, gone, moment}
use Rattle.agent_machine.specs.Fields.{target, total_of}
use Rattle.base_core.specs.Block.{block_bytes}
use Rattle.agent_calls.proofs.{CopyTaking.copy-takes, CopyTaking.lowered-of, OwnRows.found-at}
use Rattle.agent_calls.proofs.CopyFilling.{fills-behind, fills-ended, fills-still, fills-then, slot-behind}
use Rattle.agent_calls.proofs.Copies.{image-unopened, image-uncopied, image-ended}
use Rattle.agent_calls.proofs.agent.Agent.copy_image.Goals.{After-copy_bytes, After-open}
use Rattle.agent_machine.proofs.Spending.{call-spent, spent-then}
use Rattle.agent_calls.proofs.agent.Agent.copy_image.Given as given
use Rattle.agent_calls.proofs.agent.Agent.copy_image.Goals as goal

pub returns-in-Err-clause-copies : goal.returns-in-Err-clause-copies
returns-in-Err-clause-copies g c =
    let a = c.args.self.now in
    let here = c.requires.here in
    let found = found-at a.layout c.rows.result.now c.args.image c.index-rows-image.result (a.fitting here).layout c.requires.image c.rows.ensures.value in
    image-unopened _ c.args.image (moment a) (moment c.open.new.self) c.in-Err.stop (gone a) (gone c.open.new.self)
    found here c.in-Err.ensures.goes.gone (c.in-Err.ensures.meets here)

pub copy_bytes-requires-clause-image : goal.copy_bytes-requires-clause-image
copy_bytes-requires-clause-image g c =
    subst (λ (L : Layout). c.args.image < length L.rows) (sym (c.in-Ok.ensures.meets c.requires.here (λ _. true)).leaves.stays.layout) c.requires.image

pub returns-in-Err-copy_bytes-clause-copies : goal.returns-in-Err-copy_bytes-clause-copies
returns-in-Err-copy_bytes-clause-copies g c =
    let a = c.args.self.now in
    let here = c.requires.here in
    let found = found-at a.layout c.rows.result.now c.args.image c.index-rows-image.result (a.fitting here).layout c.requires.image c.rows.ensures.value in
    image-uncopied _ c.args.image c.in-Ok.field-0 (moment a) (moment c.open.new.self) found
    (c.in-Ok.ensures.meets here) (moment c.copy_bytes.new.self) c.in-Err-copy_bytes.stop c.in-Err-copy_bytes.ensures.copies

pub returns-clause-copies : goal.returns-clause-copies
returns-clause-copies g c =
    let a = c.args.self.now in
    let here = c.requires.here in
    let found = found-at a.layout c.rows.result.now c.args.image c.index-rows-image.result (a.fitting here).layout c.requires.image c.rows.ensures.value in
    let still = c.in-Ok-copy_bytes.ensures.spent.gone_is in
    image-ended _ c.args.image c.in-Ok.field-0 (moment a) (moment c.open.new.self) found
    (c.in-Ok.ensures.meets here) (moment c.copy_bytes.new.self) c.in-Ok-copy_bytes.ensures.copies (moment c.commit.new.self) c.commit.result
    (gone c.copy_bytes.new.self) (gone c.commit.new.self) still c.commit.ensures.goes.gone (c.commit.ensures.meets still)

pub returns-clause-spent : goal.returns-clause-spent
returns-clause-spent g c =
    let copied = c.in-Ok-copy_bytes.ensures.spent in
    spent-then (call-spent c.requires.here c.in-Ok.ensures.goes) (spent-then copied (call-spent copied.gone_is c.commit.ensures.goes))

pub returns-clause-takes : goal.returns-clause-takes
returns-clause-takes g c =
    let a = c.args.self.now in
    let here = c.requires.here in
    let found = found-at a.layout c.rows.result.now c.args.image c.index-rows-image.result (a.fitting here).layout c.requires.image c.rows.ensures.value in
    let still = c.in-Ok-copy_bytes.ensures.spent.gone_is in
    copy-takes c.commit.result _ c.args.image c.in-Ok.field-0 (moment a) (moment c.open.new.self) (moment c.copy_bytes.new.self)
    (g.D.Flash.arming (device a)) (g.D.Flash.arming (device c.copy_bytes.new.self)) (g.D.Flash.arming (device c.commit.new.self)) found
    (c.in-Ok.ensures.meets here) c.in-Ok-copy_bytes.ensures.copies
    (subst (λ d. FrontTakes c.args.image (pieces_of block_bytes (total_of (fields c.open.new.self) (Some c.args.image))) (moment c.open.new.self) (g.D.Flash.arming d)
    (g.D.Flash.arming (device c.copy_bytes.new.self))) c.in-Ok.ensures.still c.in-Ok-copy_bytes.ensures.takes)
    (λ i writes. lowered-of _ c.commit.result (c.commit.ensures.image still i writes).spent.lowered)

module _ (g : given.Over) (c : After-open g) where
  opened : FillsBank (moment c.args.self.now) (moment c.open.new.self)
  opened =
      let o = c.open.ensures in
      fills-still (moment c.args.self.now) (moment c.open.new.self) (o.meets c.requires.here (λ _. true)).leaves.stays
      o.records.metadata o.records.trials
      (λ told. ap (λ d. g.D.Flash.told d) o.still) (ap (λ d. g.D.Flash.writes d) o.still)

module _ (g : given.Over) (c : After-copy_bytes g) where
  copied : FillsBank (moment c.args.self.now) (moment c.open.new.self) → FillsBank (moment c.args.self.now) (moment c.copy_bytes.new.self)
  copied first = fills-then (moment c.args.self.now) (moment c.open.new.self) (moment c.copy_bytes.new.self) first c.copy_bytes.ensures.fills

pub returns-in-Err-copy_bytes-clause-fills : goal.returns-in-Err-copy_bytes-clause-fills
returns-in-Err-copy_bytes-clause-fills g c =
    copied g (goal.at.returns-in-Err-copy_bytes-clause-fills g c).After-copy_bytes (opened g (goal.at.returns-in-Err-copy_bytes-clause-fills g c).After-open)

pub returns-clause-fills : goal.returns-clause-fills
returns-clause-fills g c =
    let b = c.copy_bytes.new.self in
    let d = c.commit.new.self in
    let still = c.in-Ok-copy_bytes.ensures.spent.gone_is in
    let e = c.commit.ensures in
    let leaves = (e.meets still (λ _. true)).leaves in
    fills-then (moment c.args.self.now) (moment b) (moment d)
    (copied g (goal.at.returns-clause-fills g c).After-copy_bytes (opened g (goal.at.returns-clause-fills g c).After-open))
    (fills-ended (moment b) (moment d)
    (λ image writes. fills-behind (moment b) (moment d) leaves.stays e.records.metadata e.records.trials leaves.keeps leaves.touches _ _
    (slot-behind (fields b).layout (target (fields b)) image _) (λ told. ((e.image still image writes).ends told).keeps) (e.image still image writes).touches)
    (λ none. fills-still (moment b) (moment d) leaves.stays e.records.metadata e.records.trials (λ told. ap (λ x. g.D.Flash.told x) (e.still none))
    (ap (λ x. g.D.Flash.writes x) (e.still none))))
