use Rattle.std.proofs.Common.{◌≤◌, ◌≡◌, ◌∙◌, inl, inr, ℕ, List, Option, Some, length, sym, subst, arith}
use Rattle.std.proofs.lemmas.Bool.{false≢true}
use Rattle.std.proofs.lemmas.Result.{IfOk-from_err, on_ok_weaker}
use Rattle.std.specs.Prelude.{Ok, OnOk}
use Rattle.base_core.specs.Block.{block}
use Rattle.flash_core.specs.{declared.flash.Arming.Arming, Told.Told, Replaces.padded}
use Rattle.flash_core.proofs.Touches.{touches_wider}
use Rattle.fwu_formats.specs.Metadata.{meta_read, replica_bytes}
use Rattle.fwu_model.specs.Replica.{in_version}
use Rattle.replicas.specs.{Stores.WritesBoth, Stores.Repairs, Stores.TakesRepair, Which.Loads, declared.which.Which.Which}
use Rattle.replicas.specs.declared.which.Which.TheVariants.{RepairZero, RepairOne, MigrateZero, MigrateOne}
use Rattle.replicas.proofs.{Reading.replica_read, Touching.touches-as, Touching.touches-still}
use Rattle.replicas.proofs.Both.{spelled_out, unchanged, same_mended, zero_repaired, one_repaired, one_migrated, held_migrated}
use Rattle.replicas.proofs.repairing.repair.Goals as goal

-- nothing was written yet
pub returns-in_err-half-clause-repairs : goal.returns-in_err-half-clause-repairs
returns-in_err-half-clause-repairs g c tells =
    let L = c.args.layout.now in
    let r = c.args.meta.now in
    let s = g.D.Flash.told c.args.flash.now in
    let room : 12288 ≤ length s.now = omega (arith, (g.met.D.Flash.sizes c.args.flash.now).0, (g.met.D.Flash.sound c.args.flash.now tells).size) in
    let layout = c.fits.ensures.fit in
    subst (Repairs c.from_residual.result L r s) (sym (c.is_half_migrated.ensures.reads.content tells))
    (unchanged L layout r (replica_read L r.meta layout c.requires.fits) c.from_residual.result s room (c.requires.loaded tells).decides (IfOk-from_err c.from_residual.result _ c.from_residual.ensures.0))

-- replica 1 holds the metadata in version 2
pub returns-then-half-clause-repairs : goal.returns-then-half-clause-repairs
returns-then-half-clause-repairs g c tells =
    let migrates = c.in_ok-half.ensures.migrates c.if-half.true in
    let L = c.args.layout.now in
    let r = c.args.meta.now in
    let s = g.D.Flash.told c.args.flash.now in
    let read = c.in_ok-half.ensures.reads.content tells in
    let room : 12288 ≤ length s.now = omega (arith, (g.met.D.Flash.sizes c.args.flash.now).0, (g.met.D.Flash.sound c.args.flash.now tells).size) in
    let spelled = replica_read L r.meta c.fits.ensures.fit c.requires.fits in
    let loads = subst (λ (w : Which). Loads L w r s.now) migrates (c.requires.loaded tells) in
    held_migrated L c.fits.ensures.fit r spelled c.replace.result s _ room loads ((c.in_ok-half.ensures.held tells migrates).0 c.if-half.true)
    (spelled_out c.replace.result 1 _ _ _ s _ c.spell-size.ensures.spelled read (c.replace.ensures.replaces tells))

pub returns-in-Same-clause-repairs : goal.returns-in-Same-clause-repairs
returns-in-Same-clause-repairs g c tells =
    let L = c.args.layout.now in
    let r = c.args.meta.now in
    let s = g.D.Flash.told c.args.flash.now in
    let read = c.in_ok-half.ensures.reads.content tells in
    let room : 12288 ≤ length s.now = omega (arith, (g.met.D.Flash.sizes c.args.flash.now).0, (g.met.D.Flash.sound c.args.flash.now tells).size) in
    let spelled = replica_read L r.meta c.fits.ensures.fit c.requires.fits in
    let loads = subst (λ (w : Which). Loads L w r s.now) c.in-Same.is (c.requires.loaded tells) in
    subst (λ (u : Told). Repairs (Ok tt) L r s u) (sym read) (same_mended L c.fits.ensures.fit r spelled (Ok tt) s s room tt loads)

pub returns-in-RepairZero-clause-repairs : goal.returns-in-RepairZero-clause-repairs
returns-in-RepairZero-clause-repairs g c tells =
    let L = c.args.layout.now in
    let r = c.args.meta.now in
    let s = g.D.Flash.told c.args.flash.now in
    let read = c.in_ok-half.ensures.reads.content tells in
    let room : 12288 ≤ length s.now = omega (arith, (g.met.D.Flash.sizes c.args.flash.now).0, (g.met.D.Flash.sound c.args.flash.now tells).size) in
    let spelled = replica_read L r.meta c.fits.ensures.fit c.requires.fits in
    let loads = subst (λ (w : Which). Loads L w r s.now) c.in-RepairZero.is (c.requires.loaded tells) in
    zero_repaired L c.fits.ensures.fit r spelled c.replace-in-RepairZero.result s _ room loads
    (spelled_out c.replace-in-RepairZero.result 1 _ _ _ s _ c.spell-size.ensures.spelled read (c.replace-in-RepairZero.ensures.replaces tells))

pub returns-in-RepairOne-clause-repairs : goal.returns-in-RepairOne-clause-repairs
returns-in-RepairOne-clause-repairs g c tells =
    let L = c.args.layout.now in
    let r = c.args.meta.now in
    let s = g.D.Flash.told c.args.flash.now in
    let read = c.in_ok-half.ensures.reads.content tells in
    let room : 12288 ≤ length s.now = omega (arith, (g.met.D.Flash.sizes c.args.flash.now).0, (g.met.D.Flash.sound c.args.flash.now tells).size) in
    let spelled = replica_read L r.meta c.fits.ensures.fit c.requires.fits in
    let loads = subst (λ (w : Which). Loads L w r s.now) c.in-RepairOne.is (c.requires.loaded tells) in
    one_repaired L c.fits.ensures.fit r spelled c.replace-in-RepairOne.result s _ room loads
    (spelled_out c.replace-in-RepairOne.result 2 _ _ _ s _ c.spell-size.ensures.spelled read (c.replace-in-RepairOne.ensures.replaces tells))

-- replica 1 lacks it
pub migrate_zero-requires-clause-loaded : goal.migrate_zero-requires-clause-loaded
migrate_zero-requires-clause-loaded g c tells =
    let L = c.args.layout.now in
    let r = c.args.meta.now in
    let s = g.D.Flash.told c.args.flash.now in
    subst (λ (u : Told). Loads L MigrateZero r u.now) (sym (c.in_ok-half.ensures.reads.content tells)) (subst (λ (w : Which). Loads L w r s.now) c.in-MigrateZero.is (c.requires.loaded tells))

pub migrate_zero-requires-clause-lacks : goal.migrate_zero-requires-clause-lacks
migrate_zero-requires-clause-lacks g c tells held =
    let L = c.args.layout.now in
    let r = c.args.meta.now in
    let there = subst (λ (u : Told). meta_read L (block 2 u.now) ≡ Some (in_version 2 r.meta)) (c.in_ok-half.ensures.reads.content tells) held in
    false≢true (sym c.if-half.false ∙ (c.in_ok-half.ensures.held tells c.in-MigrateZero.is).1 there)

pub returns-in-MigrateZero-clause-repairs : goal.returns-in-MigrateZero-clause-repairs
returns-in-MigrateZero-clause-repairs g c tells =
    let L = c.args.layout.now in
    let r = c.args.meta.now in
    subst (λ (u : Told). Repairs c.migrate_zero.result L r u (g.D.Flash.told c.migrate_zero.new.flash)) (c.in_ok-half.ensures.reads.content tells) (c.migrate_zero.ensures.repairs tells)

pub returns-in-MigrateZero-clause-once : goal.returns-in-MigrateZero-clause-once
returns-in-MigrateZero-clause-once g c =
    on_ok_weaker c.migrate_zero.result (λ spent tells is held. absurd (false≢true (sym c.if-half.false ∙ (c.in_ok-half.ensures.held tells is).1 held))) c.migrate_zero.ensures.spent

pub returns-in-MigrateOne-clause-repairs : goal.returns-in-MigrateOne-clause-repairs
returns-in-MigrateOne-clause-repairs g c tells =
    let L = c.args.layout.now in
    let r = c.args.meta.now in
    let s = g.D.Flash.told c.args.flash.now in
    let read = c.in_ok-half.ensures.reads.content tells in
    let room : 12288 ≤ length s.now = omega (arith, (g.met.D.Flash.sizes c.args.flash.now).0, (g.met.D.Flash.sound c.args.flash.now tells).size) in
    let spelled = replica_read L r.meta c.fits.ensures.fit c.requires.fits in
    let loads = subst (λ (w : Which). Loads L w r s.now) c.in-MigrateOne.is (c.requires.loaded tells) in
    let both = subst (λ (bytes : List ℕ). WritesBoth c.write_both.result (padded bytes) (g.D.Flash.told c.is_half_migrated.new.flash) (g.D.Flash.told c.write_both.new.flash)) c.spell-size.ensures.spelled (c.write_both.ensures.writes tells) in
    one_migrated L c.fits.ensures.fit r spelled c.write_both.result s _ room loads
    (subst (λ (u : Told). WritesBoth c.write_both.result (padded (replica_bytes L r.meta)) u (g.D.Flash.told c.write_both.new.flash)) read both)

-- asking what replica 1 holds brings no loss nearer
pub returns-in-Same-clause-spent : goal.returns-in-Same-clause-spent
returns-in-Same-clause-spent g c =
    let armed = g.D.Flash.arming c.args.flash.now in
    subst (λ (w : Which). TakesRepair w armed (g.D.Flash.arming c.is_half_migrated.new.flash)) (sym c.in-Same.is) c.in_ok-half.ensures.reads.arming

pub returns-then-half-clause-spent : goal.returns-then-half-clause-spent
returns-then-half-clause-spent g c =
    let left = g.D.Flash.arming c.replace.new.flash in
    subst (λ (w : Which). OnOk c.replace.result (TakesRepair w (g.D.Flash.arming c.args.flash.now) left)) (sym (c.in_ok-half.ensures.migrates c.if-half.true))
    (subst (λ (armed : Option Arming). OnOk c.replace.result (TakesRepair MigrateZero armed left)) c.in_ok-half.ensures.reads.arming (on_ok_weaker c.replace.result (λ one. inl one) c.replace.ensures.spent))

pub returns-in-MigrateZero-clause-spent : goal.returns-in-MigrateZero-clause-spent
returns-in-MigrateZero-clause-spent g c =
    let left = g.D.Flash.arming c.migrate_zero.new.flash in
    subst (λ (w : Which). OnOk c.migrate_zero.result (TakesRepair w (g.D.Flash.arming c.args.flash.now) left)) (sym c.in-MigrateZero.is)
    (subst (λ (armed : Option Arming). OnOk c.migrate_zero.result (TakesRepair MigrateZero armed left)) c.in_ok-half.ensures.reads.arming (on_ok_weaker c.migrate_zero.result (λ both. inr both) c.migrate_zero.ensures.spent))

pub returns-in-RepairZero-clause-spent : goal.returns-in-RepairZero-clause-spent
returns-in-RepairZero-clause-spent g c =
    let left = g.D.Flash.arming c.replace-in-RepairZero.new.flash in
    subst (λ (w : Which). OnOk c.replace-in-RepairZero.result (TakesRepair w (g.D.Flash.arming c.args.flash.now) left)) (sym c.in-RepairZero.is)
    (subst (λ (armed : Option Arming). OnOk c.replace-in-RepairZero.result (TakesRepair RepairZero armed left)) c.in_ok-half.ensures.reads.arming c.replace-in-RepairZero.ensures.spent)

pub returns-in-RepairOne-clause-spent : goal.returns-in-RepairOne-clause-spent
returns-in-RepairOne-clause-spent g c =
    let left = g.D.Flash.arming c.replace-in-RepairOne.new.flash in
    subst (λ (w : Which). OnOk c.replace-in-RepairOne.result (TakesRepair w (g.D.Flash.arming c.args.flash.now) left)) (sym c.in-RepairOne.is)
    (subst (λ (armed : Option Arming). OnOk c.replace-in-RepairOne.result (TakesRepair RepairOne armed left)) c.in_ok-half.ensures.reads.arming c.replace-in-RepairOne.ensures.spent)

pub returns-in-MigrateOne-clause-spent : goal.returns-in-MigrateOne-clause-spent
returns-in-MigrateOne-clause-spent g c =
    let left = g.D.Flash.arming c.write_both.new.flash in
    subst (λ (w : Which). OnOk c.write_both.result (TakesRepair w (g.D.Flash.arming c.args.flash.now) left)) (sym c.in-MigrateOne.is)
    (subst (λ (armed : Option Arming). OnOk c.write_both.result (TakesRepair MigrateOne armed left)) c.in_ok-half.ensures.reads.arming c.write_both.ensures.spent)

-- asking what replica 1 holds erases and programs nothing
pub returns-in_err-half-clause-touches : goal.returns-in_err-half-clause-touches
returns-in_err-half-clause-touches g c = touches-still c.args.which _ _ c.in_err-half.ensures.reads.writes

pub returns-then-half-clause-touches : goal.returns-then-half-clause-touches
returns-then-half-clause-touches g c =
    touches-as c.args.which MigrateZero _ _ _ (c.in_ok-half.ensures.migrates c.if-half.true) c.in_ok-half.ensures.reads.writes
    (touches_wider 4096 8192 4096 12288 (omega arith) (omega arith) c.replace.ensures.touches)

pub returns-in-Same-clause-touches : goal.returns-in-Same-clause-touches
returns-in-Same-clause-touches g c = touches-still c.args.which _ _ c.in_ok-half.ensures.reads.writes

pub returns-in-RepairZero-clause-touches : goal.returns-in-RepairZero-clause-touches
returns-in-RepairZero-clause-touches g c =
    touches-as c.args.which RepairZero _ _ _ c.in-RepairZero.is c.in_ok-half.ensures.reads.writes c.replace-in-RepairZero.ensures.touches

pub returns-in-RepairOne-clause-touches : goal.returns-in-RepairOne-clause-touches
returns-in-RepairOne-clause-touches g c =
    touches-as c.args.which RepairOne _ _ _ c.in-RepairOne.is c.in_ok-half.ensures.reads.writes c.replace-in-RepairOne.ensures.touches

pub returns-in-MigrateZero-clause-touches : goal.returns-in-MigrateZero-clause-touches
returns-in-MigrateZero-clause-touches g c =
    touches-as c.args.which MigrateZero _ _ _ c.in-MigrateZero.is c.in_ok-half.ensures.reads.writes c.migrate_zero.ensures.touches

pub returns-in-MigrateOne-clause-touches : goal.returns-in-MigrateOne-clause-touches
returns-in-MigrateOne-clause-touches g c =
    touches-as c.args.which MigrateOne _ _ _ c.in-MigrateOne.is c.in_ok-half.ensures.reads.writes c.write_both.ensures.touches
