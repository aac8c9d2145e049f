use Rattle.std.proofs.Common.{◌≡◌, ◌≤◌, ◌∙◌, ◌-◌, ◌++◌, ℕ, ap, sym, subst, arith, rules, length, replicate, take, List, Some, None}
use Rattle.fwu_formats.specs.Package.{Entry, Part, packed_entries}
use Rattle.fip_tables.specs.{Packing.MayFit, Packing.pack_fault, declared.faults.PackStop.PackStop}
use Rattle.fip_tables.specs.Frame.{AreInOrder, gaps_from, last_end, sizes_of, table_end, up_to}
use Rattle.fip_tables.specs.declared.faults.PackFault.{PackFault}
use Rattle.fip_tables.specs.declared.faults.PackStop.TheVariants as stop
use Rattle.fip_tables.proofs.{Firsts.no-fault, Firsts.size-fault, Plans.outlines-sixteen, Plans.packed-length}
use Rattle.fip_tables.proofs.Filled.{entries-count, frame-joined, frame-size, gaps-count, planned-in-order, planned-room}
use Rattle.fip_tables.proofs.frame.package_frame.Goals as goal

same-fault : (a b : PackFault) → ◌≡◌ {A = PackStop} (stop.Fault b) (stop.Fault a) → a ≡ b
same-fault a b e = cc

-- a package that is small enough has no fault
small-fits : {parts : List Part} {a size : ℕ} → MayFit parts a → size ≡ last_end a (table_end parts) parts → size ≤ 67108864 → pack_fault parts a ≡ None
small-fits {parts} {a} ok last small =
    let long = packed-length 0 0 parts a (outlines-sixteen parts ok.shared.outlines) in
    no-fault parts a ok.shared.none ok.alignment (omega (arith, long, last, small))

pub returns-in_err-places-clause-fault : goal.returns-in_err-places-clause-fault
returns-in_err-places-clause-fault c = record {
  fits = search rules;
  err = λ f is.
      let parts = c.args.outlines.now in
      let a = c.args.align in
      let ok = c.in_ok-check.ensures.ok in
      let long = packed-length 0 0 parts a (outlines-sixteen parts ok.shared.outlines) in
      let why = rw is at c.from_residual-in_err-places.ensures.1 in
      size-fault parts a ok.shared.none ok.alignment (omega (arith, long, c.in_err-places.ensures.err.1))
      ∙ ap Some (sym c.in_err-places.ensures.err.0 ∙ same-fault c.in_err-places.field-0.0 f why);
}

pub gaps_of-requires : goal.gaps_of-requires
gaps_of-requires c =
    let p = c.in_ok-places.ensures in
    subst (λ (es : List Entry). AreInOrder 0 es 67108864) (sym c.as_slice-entries.ensures)
    (planned-in-order c.args.outlines.now c.args.align c.in_ok-places.places.entries c.in_ok-places.places.size p.entries p.size p.small)

pub sizes_of-requires : goal.sizes_of-requires
sizes_of-requires c =
    let p = c.in_ok-places.ensures in
    let room = planned-room c.args.outlines.now c.args.align c.in_ok-places.places.entries c.in_ok-places.places.size p.entries p.size in
    omega (arith, p.small, room, ap sizes_of c.as_slice-entries.ensures)

pub overflow_sub-size : goal.overflow_sub-size
overflow_sub-size c =
    let p = c.in_ok-places.ensures in
    let room = planned-room c.args.outlines.now c.args.align c.in_ok-places.places.entries c.in_ok-places.places.size p.entries p.size in
    omega (arith, room, ap sizes_of c.as_slice-entries.ensures, c.sizes_of.ensures)

pub returns-clause-frame : goal.returns-clause-frame
returns-clause-frame c =
    let os = c.args.outlines.now in
    let p = c.in_ok-places.ensures in
    let places = c.in_ok-places.places in
    let bytes = c.in_ok-bytes.bytes.items in
    let n = places.size - c.sizes_of.result in
    let are = c.in_ok-check.ensures.ok.shared.outlines in
    record {
      filled = frame-joined c.args.serial c.args.flags c.args.outlines.now c.args.align _ _ places.entries places.size c.in_ok-check.ensures.ok.shared.outlines p.entries p.size
          (c.in_ok-resize.ensures.items ∙ ap (λ k. take n bytes ++ replicate (n - k) 0) c.in_ok-bytes.bytes.ok.0
          ∙ ap (λ k. up_to (places.size - k) bytes) (c.sizes_of.ensures ∙ ap sizes_of c.as_slice-entries.ensures)
          ∙ ap (up_to (places.size - sizes_of places.entries)) c.in_ok-bytes.ensures)
          (c.in_ok-gaps.ensures ∙ ap (gaps_from 0) c.as_slice-entries.ensures);
      gaps = ap length (c.in_ok-gaps.ensures ∙ ap (gaps_from 0) (c.as_slice-entries.ensures ∙ c.in_ok-places.ensures.entries))
          ∙ gaps-count 0 (packed_entries c.args.align (table_end os) os) ∙ entries-count c.args.align (table_end os) os;
      size = frame-size c.args.serial c.args.flags os c.args.align places.size are p.size;
      limit = p.small;
      outlines = are;
    }

pub returns-clause-fault : goal.returns-clause-fault
returns-clause-fault c = record { fits = small-fits c.in_ok-check.ensures.ok c.in_ok-places.ensures.size c.in_ok-places.ensures.small; err = search rules }

pub returns-in_err-gaps-clause-memory : goal.returns-in_err-gaps-clause-memory
returns-in_err-gaps-clause-memory c = λ e. small-fits c.in_ok-check.ensures.ok c.in_ok-places.ensures.size c.in_ok-places.ensures.small

pub returns-in_err-bytes-clause-memory : goal.returns-in_err-bytes-clause-memory
returns-in_err-bytes-clause-memory c = λ e. small-fits c.in_ok-check.ensures.ok c.in_ok-places.ensures.size c.in_ok-places.ensures.small

pub returns-in_err-resize-clause-memory : goal.returns-in_err-resize-clause-memory
returns-in_err-resize-clause-memory c = λ e. small-fits c.in_ok-check.ensures.ok c.in_ok-places.ensures.size c.in_ok-places.ensures.small
