-- Reads of a source, one after the other.
use Rattle.std.proofs.Common.{ℕ, zero, suc, List, [], ◌∷◌, ◌++◌, Option, All, arith, subst, sym, append_assoc, append-nil}
use Rattle.std.proofs.lemmas.List.Elements.{All-append}
use Rattle.host_io.specs.{Once.GaveBytes, Once.ReadsBytes, Once.ReadsOnce, declared.source.Source.Ghosts}

none-gave : All GaveBytes []
none-gave k d few = absurd (omega (arith, few))

one-gave : (read : Option ℕ) → GaveBytes read → All GaveBytes (read ∷ [])
one-gave read gave zero d few = gave
one-gave read gave (suc k) d few = absurd (omega (arith, few))

module _ {I : Type 0} (g : Ghosts I) where
  -- no read
  pub bytes-none : ((s : I) → g.reads s s []) → (s : I) → ReadsBytes g s s
  bytes-none at_rest s = record { reads = []; made = at_rest s; each = none-gave }

  pub bytes-one : (s t : I) (read : Option ℕ) → g.reads s t (read ∷ []) → GaveBytes read → ReadsBytes g s t
  bytes-one s t read made gave = record { reads = read ∷ []; made = made; each = one-gave read gave }

  -- the last read, whatever it gave
  pub once-one : (s t : I) (read : Option ℕ) → g.reads s t (read ∷ []) → ReadsOnce g s t
  once-one s t read made = record { before = []; last = read ∷ []; made = made; each = none-gave; one = omega arith }

  -- which is none where each gave bytes
  pub once-bytes : (s t : I) → ReadsBytes g s t → ReadsOnce g s t
  once-bytes s t is = record {
    before = is.reads;
    last = [];
    made = subst (λ (l : List (Option ℕ)). g.reads s t l) (sym (append-nil is.reads)) is.made;
    each = is.each;
    one = omega arith;
  }

  pub once-none : ((s : I) → g.reads s s []) → (s : I) → ReadsOnce g s s
  once-none at_rest s = once-bytes s s (bytes-none at_rest s)

  module _ (joins : (s t u : I) (first next : List (Option ℕ)) → g.reads s t first → g.reads t u next → g.reads s u (first ++ next)) where
    pub bytes-then : (s t u : I) → ReadsBytes g s t → ReadsBytes g t u → ReadsBytes g s u
    bytes-then s t u first next = record {
      reads = first.reads ++ next.reads;
      made = joins s t u first.reads next.reads first.made next.made;
      each = All-append GaveBytes first.reads next.reads first.each next.each;
    }

    pub once-then : (s t u : I) → ReadsBytes g s t → ReadsOnce g t u → ReadsOnce g s u
    once-then s t u first next = record {
      before = first.reads ++ next.before;
      last = next.last;
      made = subst (λ (l : List (Option ℕ)). g.reads s u l) (sym (append_assoc first.reads next.before next.last))
          (joins s t u first.reads (next.before ++ next.last) first.made next.made);
      each = All-append GaveBytes first.reads next.before first.each next.each;
      one = next.one;
    }
