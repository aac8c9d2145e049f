use Rattle.std.proofs.Common.{◌≡◌, ℕ, ◌+◌, ◌*◌, ◌≤◌, List, [], length, set, get_or-set_other, Ok, Err, refl, sym, ap, ◌∙◌, subst, arith, IsTrue}
use Rattle.fwu_formats.specs.Layout.{ImageRow, blocks_needed, start, slot_bytes}
use Rattle.slot_writer.specs.{Writes.SpendsArming, Writes.writes_to_append, Slots.Appends, Slots.done_of}
use Rattle.agent_kept.specs.Kept.{kept, part_at, size_of, slot_room_of}
use Rattle.agent_machine.specs.{Fields.Fields, Fields.rest_of, Fields.target, Knows.Fitting}
use Rattle.agent_machine.proofs.Room.{slot-inside, meta-of-session}
use Rattle.agent_machine.proofs.WriteCarried.{write-fitting, write-known, write-some, write-done, write-stopped}
use Rattle.agent_calls.specs.Shown.{fields, moment}
use Rattle.agent_calls.proofs.Appending.{appended, left-kept, left_of, touched}
use Rattle.agent_calls.proofs.agent.Agent.write_image.Goals.{After-append}
use Rattle.moves.specs.Law.{CallResult}
use Rattle.agent_calls.proofs.agent.Agent.write_image.Given as given
use Rattle.agent_calls.proofs.agent.Agent.write_image.Goals as goal

-- ---- the bytes, by the fields: they fit the slot, which lies in the flash

module _ (g : given.Over) (c : After-append g) where
  abbrev f : Fields
  f = fields c.args.self.now

  fitting : Fitting f
  fitting = c.args.self.now.fitting c.requires.here

  fits : size_of (part_at f.session c.args.image) + length c.args.bytes.now ≤ slot_bytes f.layout c.args.image
  fits = omega (arith, c.requires.plan.3, ap (λ (l : List ImageRow). slot_room_of l c.args.image) fitting.rows)

  first : c.start-first.result ≡ start f.layout (target f) c.args.image
  first = c.start-first.ensures ∙ ap (λ (b : ℕ). start f.layout b c.args.image) c.target-bank.ensures.value

  room : IsTrue g.D.Flash.tells → blocks_needed f.layout * 4096 ≤ length (g.D.Flash.told c.args.self.now.flash).now
  room tells =
      let known = c.args.self.now.inside c.requires.here in
      omega (arith, known, (g.met.D.Flash.sound c.args.self.now.flash tells).size)

pub append-requires-clause-inside : goal.append-requires-clause-inside
append-requires-clause-inside g c =
    let a = c.args.self.now in
    let slot = ap (λ (l : List ImageRow). slot_room_of l c.args.image) (a.fitting c.requires.here).rows in
    let inside = slot-inside a.layout c.target-bank.result c.args.image c.target-bank.ensures.below in
    let known = a.inside c.requires.here in
    omega (arith, c.size-size.ensures, c.start-first.ensures, c.requires.plan.3, slot, inside, known)

pub settle-requires-clause-fits : goal.settle-requires-clause-fits
settle-requires-clause-fits g c = meta-of-session (fields c.args.self.now) (c.args.self.now.fitting c.requires.here)

pub invariant_of-self : goal.invariant_of-self
invariant_of-self g c =
    let p = (goal.at.invariant_of-self g c).After-append in
    let a = c.args.self.now in
    let here = c.requires.here in
    let s = g.D.Flash.told a.flash in
    let t = g.D.Flash.told c.append.new.flash in
    let k = kept c.settle.new.session in
    record {
      power = λ still. c.in-Ok.ensures.goes.power;
      inside = λ still. omega (arith, a.inside here, c.in-Ok.ensures.goes.size);
      fitting = λ still.
          write-fitting g.D.Flash.tells s t (f g p) k c.settle.new.meta c.args.image c.start-first.result c.size-size.result
          c.args.number c.args.at
          c.append.new.rest c.args.bytes.now (fitting g p) a.session.sound (a.knows here) c.requires.plan (room g p) (fits g p)
          (first g p)
          c.size-size.ensures c.in-Ok.ensures.appends c.settle.ensures.session c.settle.ensures.meta c.settle.ensures.settles;
      some = λ still.
          write-some g.D.Flash.tells s t (f g p) k c.settle.new.meta c.args.image c.start-first.result c.size-size.result
          c.args.number c.args.at
          c.append.new.rest c.args.bytes.now (fitting g p) a.session.sound (a.knows here) c.requires.plan (room g p) (fits g p)
          (first g p)
          c.size-size.ensures c.in-Ok.ensures.appends c.settle.ensures.session c.settle.ensures.meta c.settle.ensures.settles
          (a.some here);
      knows = λ still.
          write-known g.D.Flash.tells s t (f g p) k c.settle.new.meta c.args.image c.start-first.result c.size-size.result
          c.args.number c.args.at
          c.append.new.rest c.args.bytes.now (fitting g p) a.session.sound (a.knows here) c.requires.plan (room g p) (fits g p)
          (first g p)
          c.size-size.ensures c.in-Ok.ensures.appends c.settle.ensures.session c.settle.ensures.meta c.settle.ensures.settles;
    }

pub returns-in-Ok-clause-meets : goal.returns-in-Ok-clause-meets
returns-in-Ok-clause-meets g c passes h decides =
    let p = (goal.at.returns-in-Ok-clause-meets g c).After-append in
    let a = c.args.self.now in
    write-done g.D.Flash.tells (g.D.Flash.told a.flash) (g.D.Flash.told c.append.new.flash) (f g p) (kept c.settle.new.session)
    c.settle.new.meta
    c.args.image c.start-first.result c.size-size.result c.args.number c.args.at c.append.new.rest c.args.bytes.now (fitting g p)
    a.session.sound
    (a.knows c.requires.here) c.requires.plan (room g p) (fits g p) (first g p) c.size-size.ensures c.in-Ok.ensures.appends
    c.settle.ensures.session c.settle.ensures.meta c.settle.ensures.settles passes h decides c.in-Ok.ensures.touches

pub returns-in-Err-clause-meets : goal.returns-in-Err-clause-meets
returns-in-Err-clause-meets g c passes h decides =
    let p = (goal.at.returns-in-Err-clause-meets g c).After-append in
    let a = c.args.self.now in
    write-stopped (moment a) (record {
      tells = g.D.Flash.tells;
      told = g.D.Flash.told c.append.new.flash;
      writes = g.D.Flash.writes c.append.new.flash;
      fields = record (f g p) { rests = set (f g p).rests c.args.image c.append.new.rest };
    }) c.args.image c.start-first.result c.size-size.result c.args.number c.args.at c.append.new.rest c.args.bytes.now
    (fitting g p) a.session.sound (a.knows c.requires.here) c.requires.plan (room g p) (fits g p) (first g p)
    c.size-size.ensures c.in-Err.stop c.in-Err.ensures.appends passes h decides refl
    (record { layout = refl; boot = refl; counter = refl; lengths = refl; form = refl }) c.in-Err.ensures.touches
    c.stopped.result c.stopped.ensures.stop c.stopped.ensures.stopped

pub returns-in-Ok-clause-image : goal.returns-in-Ok-clause-image
returns-in-Ok-clause-image g c =
    let p = (goal.at.returns-in-Ok-clause-image g c).After-append in
    let a = c.args.self.now in
    let f : Fields = fields a in
    let size = c.size-size.ensures in
    let n : ℕ = length c.args.bytes.now in
    let d = g.D.Flash in
    let b = c.append.new.flash in
    record {
      appends = λ done tells.
          appended f (fitting g p) c.args.image c.size-size.result c.args.bytes.now c.append.new.rest c.requires.plan.0 size (Ok tt)
          c.start-first.result (d.told a.flash) (d.told b) (first g p) (c.in-Ok.ensures.appends tells);
      keeps =
          left-kept f (fitting g p) c.args.image c.size-size.result c.args.bytes.now c.append.new.rest c.requires.plan.0 size
          c.in-Ok.ensures.kept;
      grows = c.settle.ensures.session;
      others = λ other apart. get_or-set_other f.rests c.args.image other c.append.new.rest [] apart;
      still = λ same. c.in-Ok.ensures.still (subst (λ (m : ℕ). done_of (m + n) ≡ done_of m) (sym size) same);
      touches =
          touched f c.args.image c.size-size.result c.args.bytes.now size c.start-first.result (first g p) c.in-Ok.ensures.touches;
      spent = λ done.
          subst (λ (m : ℕ). SpendsArming {T = Unit {0}} (Ok tt) (writes_to_append m n) (d.arming a.flash) (d.arming b) (d.counts a.flash) (d.counts b))
          size c.in-Ok.ensures.arming;
    }

pub returns-in-Err-clause-image : goal.returns-in-Err-clause-image
returns-in-Err-clause-image g c =
    let p = (goal.at.returns-in-Err-clause-image g c).After-append in
    let a = c.args.self.now in
    let f : Fields = fields a in
    let size = c.size-size.ensures in
    let n : ℕ = length c.args.bytes.now in
    let d = g.D.Flash in
    let b = c.append.new.flash in
    record {
      appends = λ done tells.
          subst (λ (r : CallResult). Appends r (start f.layout (target f) c.args.image) (size_of (part_at f.session c.args.image)) (rest_of f c.args.image)
          c.args.bytes.now (left_of f (fitting g p) c.args.image c.size-size.result c.args.bytes.now c.append.new.rest
          c.requires.plan.0 size)
          (d.told a.flash) (d.told b)) (sym c.stopped.ensures.stop)
          (appended f (fitting g p) c.args.image c.size-size.result c.args.bytes.now c.append.new.rest c.requires.plan.0 size
          (Err c.in-Err.stop)
          c.start-first.result (d.told a.flash) (d.told b) (first g p) (c.in-Err.ensures.appends tells));
      keeps = tt;
      grows = tt;
      others = λ other apart. get_or-set_other f.rests c.args.image other c.append.new.rest [] apart;
      still = λ same. c.in-Err.ensures.still (subst (λ (m : ℕ). done_of (m + n) ≡ done_of m) (sym size) same);
      touches =
          touched f c.args.image c.size-size.result c.args.bytes.now size c.start-first.result (first g p) c.in-Err.ensures.touches;
      spent = λ done.
          subst (λ (r : CallResult). SpendsArming r (writes_to_append (size_of (part_at f.session c.args.image)) n) (d.arming a.flash) (d.arming b)
          (d.counts a.flash) (d.counts b)) (sym c.stopped.ensures.stop)
          (subst (λ (m : ℕ). SpendsArming {T = Unit {0}} (Err c.in-Err.stop) (writes_to_append m n) (d.arming a.flash) (d.arming b)
          (d.counts a.flash) (d.counts b)) size c.in-Err.ensures.arming);
    }
