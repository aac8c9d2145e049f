use Rattle.std.proofs.Common.{◌≡◌, ◌+◌, ◌≤◌, ◌++◌, ◌*◌, ℕ, true, List, [], Option, Some, Ok, sym, length, take, drop, refl, ap, ◌∙◌, subst, arith}
use Rattle.std.proofs.lemmas.List.{length-take-le, take-append-le, take_all}
use Rattle.std.specs.Prelude.{IsFalse}
use Rattle.fwu_formats.specs.Layout.{start}
use Rattle.fwu_model.specs.{State.State, Sound.Setting, Session.Session}
use Rattle.agent_machine.specs.{Fields.Fields, Fields.target, Fields.total_of, Goes.GoesByMoves, Meets.Stays, Moment.Shows}
use Rattle.flash_core.specs.{declared.flash.Arming.Arming, Counts.lowered_by}
use Rattle.slot_writer.specs.Writes.{writes_to_append}
use Rattle.agent_kept.specs.Kept.{part_at, size_of}
use Rattle.agent_machine.proofs.Spending.{call-spent, spent-then}
use Rattle.agent_calls.proofs.{CopySpending.err-spent, CopySpending.read-spent, CopyTaking.piece-takes}
use Rattle.agent_calls.proofs.CopyFilling.{fills-by, fills-behind, fills-still, fills-then, slot-behind}
use Rattle.agent_calls.proofs.Copies.{piece-unread, piece-held, piece-written, piece-stopped, read-goes, read-stays}
use Rattle.agent_calls.proofs.agent.Agent.copy_piece.Goals.{After-read_part, After-write_stream}
use Rattle.agent_calls.specs.{Copies.FillsBank, Shown.device, Shown.fields, Shown.gone, Shown.moment}
use Rattle.agent_calls.proofs.agent.Agent.copy_piece.Given as given
use Rattle.agent_calls.proofs.agent.Agent.copy_piece.Goals as goal

pub returns-in-Err-clause-copies : goal.returns-in-Err-clause-copies
returns-in-Err-clause-copies g c =
    let a = c.args.self.now in
    let b = c.read_part.new.self in
    piece-unread g.D.Flash.tells (g.D.Flash.told a.flash) (g.D.Flash.told b.flash) (g.D.Flash.writes a.flash) (g.D.Flash.writes b.flash)
    (fields a) (fields b) c.read_part.ensures.fields c.read_part.ensures.reads.content c.read_part.ensures.reads.writes c.args.image c.args.at c.stopped.result c.in-Err.stop c.stopped.ensures.stop

-- ---- the read before the write

module _ (g : given.Over) (c : After-read_part g) where
  stays : Stays (moment c.args.self.now) (moment c.read_part.new.self)
  stays =
      let a = c.args.self.now in
      let b = c.read_part.new.self in
      read-stays g.D.Flash.tells (g.D.Flash.told a.flash) (g.D.Flash.told b.flash) (g.D.Flash.writes a.flash)
      (g.D.Flash.writes b.flash) (fields a) (fields b)
      c.read_part.ensures.fields c.read_part.ensures.reads.content c.read_part.ensures.reads.writes

  goes : (E : Setting) (s : State) (x : Session) → Shows (moment c.args.self.now) s x
      → GoesByMoves E (Ok tt) (moment c.args.self.now) (moment c.read_part.new.self) s [] x
  goes =
      let a = c.args.self.now in
      let b = c.read_part.new.self in
      read-goes g.D.Flash.tells (g.D.Flash.told a.flash) (g.D.Flash.told b.flash) (g.D.Flash.writes a.flash)
      (g.D.Flash.writes b.flash) (fields a) (fields b)
      c.read_part.ensures.fields c.read_part.ensures.reads.content c.read_part.ensures.reads.writes

  read : FillsBank (moment c.args.self.now) (moment c.read_part.new.self)
  read =
      fills-still (moment c.args.self.now) (moment c.read_part.new.self) stays
      (ap (λ (f : Fields). f.meta) c.read_part.ensures.fields) (ap (λ (f : Fields). f.trials) c.read_part.ensures.fields)
      c.read_part.ensures.reads.content c.read_part.ensures.reads.writes

-- ---- and the write

module _ (g : given.Over) (c : After-write_stream g) where
  abbrev sent : List ℕ
  sent = take c.min-size.result (c.read_part.new.out ++ drop c.min-size.result c.args.buf.now)

  inside : c.args.at + c.min-size.result ≤ total_of (fields c.args.self.now) (Some c.args.image)
  inside = omega (arith, c.min-size.ensures, c.requires.some)

  small : c.min-size.result ≤ length c.args.buf.now
  small = omega (arith, c.min-size.ensures, c.requires.room)

  size : length c.read_part.new.out ≡ c.min-size.result
  size = c.read_part.auto.out ∙ length-take-le c.min-size.result c.args.buf.now small

  whole : sent ≡ c.read_part.new.out
  whole =
      let n = c.min-size.result in
      let out = c.read_part.new.out in
      take-append-le n out (drop n c.args.buf.now) (omega (arith, size)) ∙ take_all n out (omega (arith, size))

  long : length sent ≡ c.min-size.result
  long = ap length whole ∙ size

  still : IsFalse (gone c.read_part.new.self)
  still = subst IsFalse (sym c.in-Ok.ensures.gone) refl

pub returns-in-Ok-write_stream-clause-copies : goal.returns-in-Ok-write_stream-clause-copies
returns-in-Ok-write_stream-clause-copies g c =
    let p = (goal.at.returns-in-Ok-write_stream-clause-copies g c).After-write_stream in
    let r = (goal.at.returns-in-Ok-write_stream-clause-copies g c).After-read_part in
    let a = c.args.self.now in
    let f : Fields = fields a in
    let n = c.min-size.result in
    let here = c.requires.here in
    piece-written (moment a) (moment c.read_part.new.self) (moment c.write_stream.new.self) (a.fitting here) c.args.image c.args.at n
    (sent g p) (goes g r) (stays g r) c.requires.image (long g p) (inside g p) (omega (arith, c.min-size.ensures, c.requires.some))
    (piece-held (moment a) (a.fitting here) (a.knows here) c.args.image c.args.at n c.requires.image (inside g p) (sent g p)
    (λ tells. whole g p ∙ c.in-Ok.ensures.bytes tells
    ∙ ap (λ (k : ℕ). take k (drop (4096 * start f.layout f.boot c.args.image + c.args.at) (g.D.Flash.told a.flash).now)) (length-take-le n c.args.buf.now (small g p))))
    (c.in-Ok-write_stream.ensures.meets (still g p))

pub returns-in-Err-write_stream-clause-copies : goal.returns-in-Err-write_stream-clause-copies
returns-in-Err-write_stream-clause-copies g c =
    let p = (goal.at.returns-in-Err-write_stream-clause-copies g c).After-write_stream in
    let r = (goal.at.returns-in-Err-write_stream-clause-copies g c).After-read_part in
    let a = c.args.self.now in
    let b = c.read_part.new.self in
    piece-stopped (moment a) (moment b) (moment c.write_stream.new.self) (a.fitting c.requires.here) c.args.image c.args.at c.min-size.result
    (sent g p) (goes g r) (stays g r) c.requires.image (long g p) (inside g p) c.in-Err-write_stream.stop (gone b)
    (gone c.write_stream.new.self)
    (still g p) c.in-Err-write_stream.ensures.goes.gone (c.in-Err-write_stream.ensures.meets (still g p))

pub returns-in-Ok-write_stream-clause-takes : goal.returns-in-Ok-write_stream-clause-takes
returns-in-Ok-write_stream-clause-takes g c =
    let p = (goal.at.returns-in-Ok-write_stream-clause-takes g c).After-write_stream in
    let r = (goal.at.returns-in-Ok-write_stream-clause-takes g c).After-read_part in
    let a = c.args.self.now in
    let b = c.read_part.new.self in
    let n = c.min-size.result in
    piece-takes c.args.image c.args.at n (moment a) (moment b) (g.D.Flash.arming (device a))
    (g.D.Flash.arming (device c.write_stream.new.self)) (goes g r)
    (λ i writes. ((c.in-Ok-write_stream.ensures.image i writes).spent tt).lowered
    ∙ ap (λ (m : ℕ). lowered_by (writes_to_append (size_of (part_at (fields b).session i)) m) (g.D.Flash.arming (device b))) (long g p)
    ∙ ap (λ (o : Option Arming). lowered_by (writes_to_append (size_of (part_at (fields b).session i)) n) o) c.in-Ok.ensures.reads.arming)

pub returns-in-Err-write_stream-clause-spent : goal.returns-in-Err-write_stream-clause-spent
returns-in-Err-write_stream-clause-spent g c =
    let b = c.read_part.new.self in
    err-spent (Unit {0}) ℕ c.in-Err-write_stream.stop (gone c.write_stream.new.self) (device c.args.self.now) (device c.write_stream.new.self)
    (spent-then (read-spent {g = g.D.Flash} (Ok tt) (gone b) (device c.args.self.now) (device b) c.in-Ok.ensures.gone c.in-Ok.ensures.reads)
    (call-spent (still g (goal.at.returns-in-Err-write_stream-clause-spent g c).After-write_stream) c.in-Err-write_stream.ensures.goes))

module _ (g : given.Over) (c : After-write_stream g) where
  written : FillsBank (moment c.read_part.new.self) (moment c.write_stream.new.self)
  written =
      let b = c.read_part.new.self in
      let d = c.write_stream.new.self in
      let w = c.write_stream.ensures in
      let leaves = (w.meets (still g c) (λ _. true)).leaves in
      fills-by c.write_stream.result (moment b) (moment d)
      (λ done.
      let writes = w.writes done in
      fills-behind (moment b) (moment d) leaves.stays w.records.metadata w.records.trials leaves.keeps leaves.touches _ _
      (slot-behind (fields b).layout (target (fields b)) writes.0 _) (λ told. ((w.image writes.0 writes.1).appends done told).keeps)
      (w.image writes.0 writes.1).touches)
      (λ is. ap (λ x. moment x) (w.refused is)) (λ is. ap (λ x. moment x) (w.goes.untouched is))

pub returns-in-Ok-write_stream-clause-fills : goal.returns-in-Ok-write_stream-clause-fills
returns-in-Ok-write_stream-clause-fills g c =
    fills-then (moment c.args.self.now) (moment c.read_part.new.self) (moment c.write_stream.new.self)
    (read g (goal.at.returns-in-Ok-write_stream-clause-fills g c).After-read_part) (written g (goal.at.returns-in-Ok-write_stream-clause-fills g c).After-write_stream)

pub returns-in-Err-write_stream-clause-fills : goal.returns-in-Err-write_stream-clause-fills
returns-in-Err-write_stream-clause-fills g c =
    fills-then (moment c.args.self.now) (moment c.read_part.new.self) (moment c.write_stream.new.self)
    (read g (goal.at.returns-in-Err-write_stream-clause-fills g c).After-read_part) (written g (goal.at.returns-in-Err-write_stream-clause-fills g c).After-write_stream)
