use Rattle.std.proofs.Common.{◌≡◌, ◌+◌, ◌*◌, ◌≤◌, ℕ, List, length, take, drop, refl, sym, subst, arith, rules}
use Rattle.std.specs.Prelude.{slice_range, IsTrue}
use Rattle.std.proofs.lemmas.List.{length-take-le}
use Rattle.base_core.specs.Block.{blank}
use Rattle.flash_core.specs.{Told.Told, May.Keeps, Touches.TouchesOnly}
use Rattle.flash_core.proofs.{Calls.keeps_same, Spent.spent_one, Touches.touches_wider}
use Rattle.fwu_formats.specs.Package.{payload}
use Rattle.flash_format.specs.Places.{LeavesNoMore, HoldsThenErased}
use Rattle.flash_format.proofs.{Ranges.keeps_written, Ranges.erased_range, Ranges.piece_written, Recorded.left_below}
use Rattle.flash_format.proofs.images.write_piece.Given as given
use Rattle.flash_format.proofs.images.write_piece.Goals.{After-program}
use Rattle.flash_format.proofs.images.write_piece.Goals as goal

pub read_piece-requires-clause-erased : goal.read_piece-requires-clause-erased
unfolding blank
read_piece-requires-clause-erased g c = refl

pub program-requires-clause-blank : goal.program-requires-clause-blank
program-requires-clause-blank g c = λ tells.
    let s = g.D.Flash.told c.args.flash.now in
    let at = 4096 * c.args.block in
    let inside = (g.met.D.Flash.sound c.args.flash.now tells).size in
    let size : length (take c.in-Ok.size c.read_piece.new.out) ≡ c.in-Ok.size = length-take-le c.in-Ok.size c.read_piece.new.out (omega (arith, c.in-Ok.ensures.some, c.in-Ok.ensures.buffer)) in
    subst (λ (n : ℕ). slice_range s.now at (at + n) ≡ blank n) (sym size)
    (erased_range at c.in-Ok.size s.now (omega (arith, inside, c.requires.ready.room, c.in-Ok.ensures.some)) (λ i above below. c.requires.erased tells i above (omega (arith, below, c.in-Ok.ensures.some))))

module _ (g : given.Over) (c : After-program g) where
  abbrev at : ℕ
  at = 4096 * c.args.block

  abbrev old : Told
  old = g.D.Flash.told c.args.flash.now

  abbrev bytes : List ℕ
  bytes = take c.in-Ok.size c.read_piece.new.out

  few : length bytes ≤ 4096
  few = omega (arith, length-take-le c.in-Ok.size c.read_piece.new.out (omega (arith, c.in-Ok.ensures.some, c.in-Ok.ensures.buffer)), c.in-Ok.ensures.some)

  keeps : IsTrue g.D.Flash.tells → Keeps at (at + 4096) old (g.D.Flash.told c.program.new.self)
  keeps tells =
      let inside = (g.met.D.Flash.sound c.args.flash.now tells).size in
      subst (Keeps at (at + 4096) old) (sym (c.program.ensures.content tells))
      (keeps_written c.program.result at (at + 4096) at bytes old old (omega arith) (omega (arith, few)) (omega (arith, inside, c.requires.ready.room, few)) (keeps_same at (at + 4096) old))

  left : IsTrue g.D.Flash.tells → LeavesNoMore c.args.block old (g.D.Flash.told c.program.new.self)
  left tells =
      let inside = (g.met.D.Flash.sound c.args.flash.now tells).size in
      subst (LeavesNoMore c.args.block old) (sym (c.program.ensures.content tells)) (left_below c.program.result c.args.block at bytes old (omega arith) (omega (arith, inside, c.requires.ready.room, few)))

  touched : TouchesOnly at (at + 4096) (g.D.Flash.writes c.args.flash.now) (g.D.Flash.writes c.program.new.self)
  touched = touches_wider at (at + length bytes) at (at + 4096) (omega arith) (omega (arith, few)) c.program.ensures.touches

pub returns-in_err-program-clause-writes : goal.returns-in_err-program-clause-writes
returns-in_err-program-clause-writes g c =
    let p = (goal.at.returns-in_err-program-clause-writes g c).After-program in
    record { keeps = keeps g p; left = left g p; goes = search rules; spent = search rules; touches = touched g p; stops = search rules }

pub returns-clause-writes : goal.returns-clause-writes
returns-clause-writes g c =
    let p = (goal.at.returns-clause-writes g c).After-program in
    record { keeps = keeps g p; left = left g p; goes = search rules; spent = spent_one _ _ c.in_ok-program.ensures.arming; touches = touched g p; stops = search rules }

pub returns-clause-bytes : goal.returns-clause-bytes
returns-clause-bytes g c = λ tells file told.
    let s = g.D.Flash.told c.args.flash.now in
    let at = 4096 * c.args.block in
    let inside = (g.met.D.Flash.sound c.args.flash.now tells).size in
    let x = drop c.args.done (payload file c.args.entry.now) in
    subst (λ (t : Told). HoldsThenErased at 4096 x t.now) (sym (c.in_ok-program.ensures.content tells))
    (piece_written c.args.block c.in-Ok.size x c.read_piece.new.out s (omega (arith, inside, c.requires.ready.room)) c.in-Ok.ensures.buffer (omega (arith, c.in-Ok.ensures.some))
    (c.requires.erased tells) c.in-Ok.ensures.erased (c.in-Ok.ensures.bytes file told))
