use Rattle.std.proofs.Common.{inl, ◌≤◌, length, sym, subst, arith}
use Rattle.std.proofs.lemmas.List.{length-take-le}
use Rattle.std.specs.Prelude.{List, ℕ}
use Rattle.flash_core.specs.{Told.Told, Replaces.padded, Replaces.Replaces}
use Rattle.flash_core.proofs.Touches.{touches_none}
use Rattle.fwu_formats.specs.Counter.{record_bytes}
use Rattle.marks_core.specs.Marks.{Raises, record_place}
use Rattle.marks_core.proofs.Recording.{one_record, raised, unwritten}
use Rattle.marks_core.proofs.rollback.raise.Goals as goal

pub returns-in_err-place-clause-raises : goal.returns-in_err-place-clause-raises
returns-in_err-place-clause-raises g c tells =
    let s = g.D.Flash.told c.args.flash.now in
    let room : 32768 ≤ length s.now = omega (arith, (g.met.D.Flash.sizes c.args.flash.now).0, (g.met.D.Flash.sound c.args.flash.now tells).size) in
    subst (Raises c.from_residual.result c.args.v s) (sym (c.record_place.ensures.reads.content tells))
    (raised c.from_residual.result c.args.v s s room c.ranges.v.fits (c.requires.above tells) (unwritten c.from_residual.result (padded (record_bytes c.args.v)) s room c.from_residual.ensures.0))

pub returns-clause-raises : goal.returns-clause-raises
returns-clause-raises g c tells =
    let s = g.D.Flash.told c.args.flash.now in
    let t = g.D.Flash.told c.replace.new.flash in
    let room : 32768 ≤ length s.now = omega (arith, (g.met.D.Flash.sizes c.args.flash.now).0, (g.met.D.Flash.sound c.args.flash.now tells).size) in
    let here = subst (λ b. Replaces c.replace.result b (padded c.record_bytes.result) (g.D.Flash.told c.record_place.new.flash) t) (c.in_ok-place.ensures.place tells) (c.replace.ensures.replaces tells) in
    let from = subst (λ (m : Told). Replaces c.replace.result (record_place s.now) (padded c.record_bytes.result) m t) (c.in_ok-place.ensures.reads.content tells) here in
    let writes = subst (λ (bytes : List ℕ). Replaces c.replace.result (record_place s.now) (padded bytes) s t) c.record_bytes.ensures from in
    raised c.replace.result c.args.v s t room c.ranges.v.fits (c.requires.above tells) writes

pub slice_bounds-record_place-end-2 : goal.slice_bounds-record_place-end-2
slice_bounds-record_place-end-2 g c = sym (length-take-le 32 c.args.buf.now (omega (arith, c.requires.room)))

pub record_place-requires-clause-room : goal.record_place-requires-clause-room
record_place-requires-clause-room g c = length-take-le 32 c.args.buf.now (omega (arith, c.requires.room))

pub returns-in_err-place-clause-touches : goal.returns-in_err-place-clause-touches
returns-in_err-place-clause-touches g c = inl (touches_none 20480 24576 c.in_err-place.ensures.reads.writes)

pub returns-clause-touches : goal.returns-clause-touches
returns-clause-touches g c =
    one_record c.in_ok-place.place _ _ _ c.in_ok-place.ensures.inside.0 c.in_ok-place.ensures.inside.1 c.in_ok-place.ensures.reads.writes c.replace.ensures.touches
