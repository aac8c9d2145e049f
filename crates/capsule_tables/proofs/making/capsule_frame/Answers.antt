use Rattle.std.proofs.Common.{◌≡◌, ◌≤◌, ◌∙◌, ◌+◌, ◌*◌, ◌++◌, ap, arith, rules, sym, length, ℕ, List, Some, None}
use Rattle.fwu_formats.specs.Package.{Part}
use Rattle.fip_tables.specs.{Packing.parts_fault, declared.faults.PackFault.PackFault}
use Rattle.capsule_tables.specs.Making.{capsule_front_bytes, capsule_size, headers_bytes, heads_bytes, make_fault, places_bytes}
use Rattle.capsule_tables.proofs.Frames.{frame-joined, frame-size, front-low, gaps-count}
use Rattle.capsule_tables.proofs.Made.{no-fault, same-fault, shared, too-large}
use Rattle.capsule_tables.proofs.making.capsule_frame.Goals as goal

-- a capsule that is small enough has no fault
small-fits : (parts : List Part) {size : ℕ} → parts_fault parts ≡ None → (size ≡ capsule_size parts) × (size ≤ 67108864) → make_fault parts ≡ None
small-fits parts none is = let a = is.0 in let b = is.1 in no-fault parts none (omega (arith, a, b))

pub returns-in_err-check_parts-clause-fault : goal.returns-in_err-check_parts-clause-fault
returns-in_err-check_parts-clause-fault c = record {
  fits = search rules;
  err = λ f is. shared c.args.parts.now _ c.in_err-check_parts.ensures.err ∙ same-fault _ _ f c.from_residual.ensures.1 is;
}

pub returns-in_err-size-clause-fault : goal.returns-in_err-size-clause-fault
returns-in_err-size-clause-fault c = record {
  fits = search rules;
  err = λ f is.
      too-large c.args.parts.now c.in_ok-check_parts.ensures.ok.none c.in_err-size.ensures.err.1
      ∙ ap (λ (x : PackFault). Some x) (sym c.in_err-size.ensures.err.0) ∙ same-fault _ _ f c.from_residual-in_err-size.ensures.1 is;
}

pub gaps_of-requires : goal.gaps_of-requires
gaps_of-requires c =
    let os = c.args.parts.now in
    let size = c.in_ok-size.ensures.size.0 in
    let small = c.in_ok-size.ensures.size.1 in
    let front : c.add_places.new.bytes.items ≡ capsule_front_bytes os =
    c.in_ok-add_places.ensures ∙ ap (λ (xs : List ℕ). xs ++ places_bytes (8 + 8 * length os) os) (c.in_ok-bytes.ensures ∙ ap (λ (n : ℕ). headers_bytes n (length os)) size) in
    let long : c.len.result ≡ length (capsule_front_bytes os) = c.len.ensures ∙ c.add_places.new.bytes.ok.0 ∙ ap length front in
    omega (arith, long, front-low os, size, small)

pub returns-clause-frame : goal.returns-clause-frame
returns-clause-frame c =
    let os = c.args.parts.now in
    let size = c.in_ok-size.ensures.size.0 in
    let small = c.in_ok-size.ensures.size.1 in
    let front : c.add_places.new.bytes.items ≡ capsule_front_bytes os =
    c.in_ok-add_places.ensures ∙ ap (λ (xs : List ℕ). xs ++ places_bytes (8 + 8 * length os) os) (c.in_ok-bytes.ensures ∙ ap (λ (n : ℕ). headers_bytes n (length os)) size) in
    let long : c.len.result ≡ length (capsule_front_bytes os) = c.len.ensures ∙ c.add_places.new.bytes.ok.0 ∙ ap length front in
    let are = c.in_ok-check_parts.ensures.ok.outlines in
    record {
      filled = frame-joined os _ _ c.len.result are (omega (arith, size, small))
          (c.in_ok-add_heads.ensures ∙ ap (λ (xs : List ℕ). xs ++ heads_bytes 1 os) front) c.in_ok-gaps.ensures long;
      gaps = ap length c.in_ok-gaps.ensures ∙ gaps-count c.len.result os;
      size = frame-size os c.in_ok-size.size are size small;
      limit = small;
      outlines = are;
    }

pub returns-clause-fault : goal.returns-clause-fault
returns-clause-fault c = record {
  fits = small-fits c.args.parts.now c.in_ok-check_parts.ensures.ok.none c.in_ok-size.ensures.size;
  err = search rules;
}

pub returns-in_err-bytes-clause-memory : goal.returns-in_err-bytes-clause-memory
returns-in_err-bytes-clause-memory c = λ e. small-fits c.args.parts.now c.in_ok-check_parts.ensures.ok.none c.in_ok-size.ensures.size

pub returns-in_err-add_places-clause-memory : goal.returns-in_err-add_places-clause-memory
returns-in_err-add_places-clause-memory c = λ e. small-fits c.args.parts.now c.in_ok-check_parts.ensures.ok.none c.in_ok-size.ensures.size

pub returns-in_err-gaps-clause-memory : goal.returns-in_err-gaps-clause-memory
returns-in_err-gaps-clause-memory c = λ e. small-fits c.args.parts.now c.in_ok-check_parts.ensures.ok.none c.in_ok-size.ensures.size

pub returns-in_err-add_heads-clause-memory : goal.returns-in_err-add_heads-clause-memory
returns-in_err-add_heads-clause-memory c = λ e. small-fits c.args.parts.now c.in_ok-check_parts.ensures.ok.none c.in_ok-size.ensures.size
