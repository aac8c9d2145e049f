-- Calls that only read, one after the other.
use Rattle.std.proofs.Common.{◌∙◌, arith, refl}
use Rattle.host_io.specs.{Access.Access, declared.files.Files.Ghosts, Reads.ReadsFiles}

-- no call
pub reads-none : {H : Type 0} (g : Ghosts H) (IsOther : Access → Type 0) → ((f : H) (access : Access) → g.spares f f access) → (f : H)
    → ReadsFiles g IsOther f f
reads-none g IsOther at_rest f = record { same = refl; unwritten = refl; later = omega arith; spares = λ access other. at_rest f access }

pub reads-then : {H : Type 0} (g : Ghosts H) (IsOther : Access → Type 0)
    → ((e f h : H) (access : Access) → g.spares e f access → g.spares f h access → g.spares e h access) → (e f h : H)
    → ReadsFiles g IsOther e f → ReadsFiles g IsOther f h → ReadsFiles g IsOther e h
reads-then g IsOther joins e f h first next = record {
  same = next.same ∙ first.same;
  unwritten = next.unwritten ∙ first.unwritten;
  later = omega (arith, first.later, next.later);
  spares = λ access other. joins e f h access (first.spares access other) (next.spares access other);
}

-- what spares more accesses spares fewer
pub reads-wider : {H : Type 0} (g : Ghosts H) (IsOther IsAny : Access → Type 0) → ((access : Access) → IsAny access → IsOther access)
    → (e f : H) → ReadsFiles g IsOther e f → ReadsFiles g IsAny e f
reads-wider g IsOther IsAny fewer e f reads = record {
  same = reads.same;
  unwritten = reads.unwritten;
  later = reads.later;
  spares = λ access any. reads.spares access (fewer access any);
}
