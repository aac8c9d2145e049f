-- What is written, and printed behind it.
use Rattle.std.proofs.Common.{◌≡◌, ◌∙◌, ◌+◌, ◌≤◌, inl, inr, ℕ, zero, suc, List, [], ◌∷◌, ◌++◌, Option, Result, Ok, Err, length, take, drop, ap, arith, refl, sym, subst, length-append, ◌≢◌}
use Rattle.std.specs.List.{concat}
use Rattle.std.specs.Io.KnownBytes.{Appends}
use Rattle.std.proofs.KnownBytes.{Appends-nil, Appends-trans}
use Rattle.host_io.specs.{Calls.raised, declared.writes.Writes.Writes}
use Rattle.fip_words.specs.Order.{FipAsked}
use Rattle.fip_tool.specs.{Steps.PrintedText, Steps.FaultsOnce, Steps.sink_failures}
use Rattle.fip_tool.specs.{Done.WritesTexts, Done.PrintedIn}
use Rattle.fip_tool.specs.Wrote.{IsRestOfTexts, CommandWrote, WroteAll, WroteFor, WroteSome, files_ahead, raised_by}
use Rattle.fip_making.specs.{Stops.IsLate, declared.stops.Stop.Stop}
use Rattle.fip_making.specs.declared.stops.Stop.TheVariants as stop
use Rattle.fip_tool.proofs.Texts.{appends-same, back, front, joined-one}
use Rattle.fip_tool.proofs.Faults.{faults-as, faults-none, faults-then, still}
use Rattle.std.specs.Prelude.{IfErr}
use Rattle.base_core.specs.Counts.{Rose}
use Rattle.host_io.specs.declared.files.Files as files
use Rattle.host_io.specs.declared.sink.Sink as sink
use Rattle.fip_making.proofs.{Refusing.err-same, Tables.rose-still}

-- ---- one file and its text

module _ (T : List (List ℕ) → Type 0) (files_of : ℕ → ℕ) (line : List ℕ) (one : T (line ∷ [])) where
  one-of : (rest : List ℕ) (was text : Option (List ℕ)) (before after : ℕ) (s : Stop) → IsRestOfTexts s rest (line ∷ []) → 1 ≤ files_ahead s → after ≡ raised_by (files_of 1) before → Appends was text rest
      → WroteSome T files_of s was text before after
  one-of rest was text before after s is ahead count said = record {
    texts = line ∷ [];
    are = one;
    printed = 0;
    left = omega arith;
    rest = rest;
    rest_is = is;
    said = said;
    files = 1;
    least = omega arith;
    most = omega (arith, ahead);
    count = count;
  }

  pub wrote-printed : (was text : Option (List ℕ)) (rose : Type 0) (before after : ℕ) (r : Result (Unit {0}) Stop) → after ≡ raised_by (files_of 1) before → PrintedText was text rose line r
      → CommandWrote T files_of was text before after r
  wrote-printed was text rose before after (Ok u) count p = record {
    texts = line ∷ [];
    are = one;
    said = subst (Appends was text) (sym (joined-one line)) p;
    count = count;
  }
  wrote-printed was text rose before after (Err stop.SinkFault) count p = inr (tt, one-of (take p.1 line) was text before after stop.SinkFault (p.1, refl) (omega arith) count p.2)
  wrote-printed was text rose before after (Err stop.NoMemory) count p = inr (tt, one-of [] was text before after stop.NoMemory refl (omega arith) count (appends-same was text p))
  wrote-printed was text rose before after (Err s) count p = absurd p

-- ---- texts of another kind, and a count that was the same

pub wrote-as : (T U : List (List ℕ) → Type 0) (files_of : ℕ → ℕ) (was text : Option (List ℕ)) (mid before after : ℕ) (r : Result (Unit {0}) Stop) → ((texts : List (List ℕ)) → T texts → U texts) → mid ≡ before
    → CommandWrote T files_of was text mid after r → CommandWrote U files_of was text before after r
wrote-as T U files_of was text mid before after (Ok u) turns same w = record {
  texts = w.texts;
  are = turns w.texts w.are;
  said = w.said;
  count = w.count ∙ ap (raised_by (files_of (length w.texts))) same;
}
wrote-as T U files_of was text mid before after (Err s) turns same (inl none) = inl (none.0, (none.1.0 ∙ same, none.1.1))
wrote-as T U files_of was text mid before after (Err s) turns same (inr (late, w)) = inr (
  late,
  record {
    texts = w.texts;
    are = turns w.texts w.are;
    printed = w.printed;
    left = w.left;
    rest = w.rest;
    rest_is = w.rest_is;
    said = w.said;
    files = w.files;
    least = w.least;
    most = w.most;
    count = w.count ∙ ap (raised_by (files_of w.files)) same;
  },
)

-- ---- files one after the other

raised-twice : (m n before : ℕ) → raised_by m (raised_by n before) ≡ raised_by (m + n) before
raised-twice zero n before =
    let same : n ≡ zero + n = omega arith in
    ap (λ (k : ℕ). raised_by k before) same
raised-twice (suc m) n before =
    let next : suc (m + n) ≡ suc m + n = omega arith in
    ap raised (raised-twice m n before) ∙ ap (λ (k : ℕ). raised_by k before) next

-- one more file, whose text was printed
pub one-wrote : (line : List ℕ) (was text : Option (List ℕ)) (start mid after n m : ℕ) → mid ≡ raised_by n start → m ≡ n + 1 → WroteAll (λ texts. texts ≡ line ∷ []) (λ n. n) was text mid after → after ≡ raised_by m start
one-wrote line was text start mid after n m so-far next w =
    let once : after ≡ raised mid = w.count ∙ ap (λ (l : List (List ℕ)). raised_by (length l) mid) w.are in
    let same : suc n ≡ m = omega (arith, next) in
    once ∙ ap raised so-far ∙ ap (λ (k : ℕ). raised_by k start) same

-- what stands there when a part of one text stopped: a front of it where the sink failed, and else nothing
wrote-tail : (line : List ℕ) (after : List (List ℕ)) (at text : Option (List ℕ)) (mid now : ℕ) (s : Stop) → CommandWrote (λ texts. texts ≡ line ∷ []) (λ n. n) at text mid now (Err s)
    → (rest : List ℕ) × IsRestOfTexts s rest (line ∷ after) × Appends at text rest
wrote-tail line after at text mid now s (inl none) = ([], nothing s none.0, none.1.1)
  where
    nothing : (s : Stop) → s ≢ stop.SinkFault → IsRestOfTexts s [] (line ∷ after)
    nothing stop.SinkFault other = absurd (other refl)
    nothing s other = refl
wrote-tail line after at text mid now s (inr (late, w)) =
    let none : w.printed ≡ 0 = omega (arith, w.left, ap length w.are) in
    let whole : drop w.printed w.texts ≡ line ∷ [] = ap (λ (n : ℕ). drop n w.texts) none ∙ w.are in
    (w.rest, more s w.rest (subst (IsRestOfTexts s w.rest) whole w.rest_is), subst (λ (n : ℕ). Appends at text (concat (take n w.texts) ++ w.rest)) none w.said)
  where
    more : (s : Stop) (rest : List ℕ) → IsRestOfTexts s rest (line ∷ []) → IsRestOfTexts s rest (line ∷ after)
    more stop.SinkFault rest h = h
    more s rest h = h

-- a stop at one file, behind files whose texts were printed and before others
pub wrote-behind : (before : List (List ℕ)) (line : List ℕ) (after all : List (List ℕ)) (was at text : Option (List ℕ)) (start mid now : ℕ) (s : Stop) → all ≡ before ++ (line ∷ after) → Appends was at (concat before)
    → mid ≡ raised_by (length before) start → IsLate s → CommandWrote (λ texts. texts ≡ line ∷ []) (λ n. n) at text mid now (Err s) → CommandWrote (λ texts. texts ≡ all) (λ n. n) was text start now (Err s)
wrote-behind before line after all was at text start mid now s is so-far count late wrote = inr (late, go wrote)
  where
    tail : (rest : List ℕ) × IsRestOfTexts s rest (line ∷ after) × Appends at text rest
    tail = wrote-tail line after at text mid now s wrote

    said : Appends was text (concat (take (length before) all) ++ tail.0)
    said = subst (λ (l : List (List ℕ)). Appends was text (concat l ++ tail.0)) (sym (front before line after all is)) (Appends-trans was at text (concat before) tail.0 so-far tail.2)

    behind : (n : ℕ) → n ≤ files_ahead s → now ≡ raised_by n mid → WroteSome (λ texts. texts ≡ all) (λ n. n) s was text start now
    behind n few more = record {
      texts = all;
      are = refl;
      printed = length before;
      left = omega (arith, ap length is, length-append before (line ∷ after));
      rest = tail.0;
      rest_is = subst (IsRestOfTexts s tail.0) (sym (back before line after all is)) tail.1;
      said = said;
      files = n + length before;
      least = omega arith;
      most = omega (arith, few);
      count = more ∙ ap (raised_by n) count ∙ raised-twice n (length before) start;
    }

    go : CommandWrote (λ texts. texts ≡ line ∷ []) (λ n. n) at text mid now (Err s) → WroteSome (λ texts. texts ≡ all) (λ n. n) s was text start now
    go (inl none) = behind 0 (omega arith) none.1.0
    go (inr (late, w)) = behind w.files (omega (arith, w.most, w.left, ap length w.are)) w.count

-- nothing was written before a stop
pub wrote-none : (asked : Option FipAsked) (was : Option (List ℕ)) (n : ℕ) (s : Stop) → s ≢ stop.SinkFault → WroteFor asked was was n n (Err s)
wrote-none asked was n s other = inl (other, (refl, Appends-nil was))

-- ---- what a part that writes files does, from what its own parts did

module _ {H O : Type 0} {h : files.Ghosts H} {o : sink.Ghosts O} {before after : H} where
  -- a stop before anything was written
  pub no-texts : {X : Type 0} {T : List (List ℕ) → Type 0} {old : O} (s : Stop) → FaultsOnce {X = X} (h.faults before) (h.faults after) (Err s)
      → (h.writes after).done ≡ (h.writes before).done → (◌≡◌ {A = Result X Stop} (Err s) (Err stop.FileFault) → Rose (h.faults before) (h.faults after))
      → IsLate s → s ≢ stop.SinkFault → h.faults before ≤ h.faults after → WritesTexts h o T (Err s) before after old old
  no-texts {T = T} s faults unwritten cause late other later = record {
    wrote = inl (other, (unwritten, Appends-nil _));
    file_count = faults-as faults;
    cause = λ e. let same : s ≡ stop.FileFault = cc in cause (err-same same);
    late = late;
    later = later;
    later_sink = omega arith;
    sink_count = still _ s other;
  }

  module _ {result : Result (Unit {0}) Stop} {old new : O} where
    -- the file was written, and then its line was printed
    pub one-text : (line : List ℕ) → h.faults after ≡ h.faults before → (h.writes after).done ≡ raised (h.writes before).done → PrintedIn o line old new result
        → IfErr result IsLate → o.faults old ≤ o.faults new → o.faults new ≡ sink_failures result (o.faults old)
        → WritesTexts h o (λ texts. texts ≡ line ∷ []) result before after old new
    one-text line quiet count printed late later_sink sink_count = record {
      wrote = wrote-printed (λ texts. texts ≡ line ∷ []) (λ n. n) line refl _ _ _ _ _ result count printed;
      file_count = faults-none quiet;
      cause = λ e. absurd (subst (PrintedIn o line old new) e printed);
      late = late;
      later = omega (arith, quiet);
      later_sink = later_sink;
      sink_count = sink_count;
    }

    -- texts of another kind, behind a part that read alone
    pub texts-behind : {mid : H} (T U : List (List ℕ) → Type 0) → ((texts : List (List ℕ)) → T texts → U texts) → h.faults mid ≡ h.faults before → h.writes mid ≡ h.writes before
        → WritesTexts h o T result mid after old new → WritesTexts h o U result before after old new
    texts-behind T U turns quiet unwritten put = record {
      wrote = wrote-as T U (λ n. n) _ _ _ _ _ result turns (ap (λ (w : Writes). w.done) unwritten) put.wrote;
      file_count = faults-then quiet put.file_count;
      cause = λ e. rose-still _ _ _ (sym quiet) (put.cause e);
      late = put.late;
      later = omega (arith, quiet, put.later);
      later_sink = put.later_sink;
      sink_count = put.sink_count;
    }
