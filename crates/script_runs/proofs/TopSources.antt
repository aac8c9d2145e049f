-- What was read of a source, and what was printed of that.
use Rattle.std.proofs.Common.{◌≡◌, ◌≤◌, ◌<◌, ◌+◌, ◌⊎◌, ℕ, Bool, true, List, ◌++◌, Option, Some, None, length, take, drop, arith, refl, sym, ap, subst, ◌∙◌, append_assoc, take-append-drop, ◌≢◌, rules, IsTrue, IsFalse, false, inl, ◌∷◌, append-nil, length-append, []}
use Rattle.std.specs.Prelude.{if◌then◌else◌, IfSome}
use Rattle.std.specs.Io.KnownBytes.{Consumes, IsAtEnd, Keeps}
use Rattle.std.proofs.{lemmas.List.take_all, KnownBytes.Consumes-kept, KnownBytes.Consumes-nil, KnownBytes.Consumes-trans, lemmas.Bool.false≢true}
use Rattle.fwu_model.specs.{Script.is_too_long, Wrote.may_lack, Causes.may_fail_before, Reply.Turn}
use Rattle.script_text.specs.Limit.{Extent, IsExtentOf}
use Rattle.script_text.proofs.Extents.{long-stays-long}
use Rattle.base_core.specs.Counts.{Rose}
use Rattle.host_io.specs.{Calls.raised, Printed.FailsAtThree, Printed.Prints, Printed.all, Printed.front, Printed.nothing}
use Rattle.script_runs.specs.Sourced.{FailsOnce, ReadsInTime, StarvesScript, TakesScript, reads_all}

-- ---- reading a script's text from the source

-- the source gave this text so far, which is within the limits
pub record IsReading (was now : Option (List ℕ)) (before faults : ℕ) (limit : Extent) (text : List ℕ) : Type 0 where
  pub none : faults ≡ before
  pub consumed : Consumes was now text
  pub extent : IsExtentOf limit text

pub nothing-yet : (was : Option (List ℕ)) (faults : ℕ) (limit : Extent) → IsExtentOf limit [] → IsReading was was faults faults limit []
nothing-yet was faults limit extent = record { none = refl; consumed = Consumes-nil was; extent = extent }

-- a piece was read, and was all within the limits
pub goes-on : (was mid new : Option (List ℕ)) (before middle faults : ℕ) (limit next : Extent) (text longer piece : List ℕ) (count n : ℕ) (ok : Bool)
    → IsReading was mid before middle limit text → faults ≡ middle → Consumes mid new piece → count ≡ length piece → n ≤ length piece → count ≤ n
    → ((given : List ℕ) → IsExtentOf limit given → IsExtentOf next (given ++ take n piece)) → longer ≡ (if ok then text ++ piece else text) → ok ≡ true
    → IsReading was new before faults next longer
goes-on was mid new before middle faults limit next text longer piece count n ok r same some is within entire fed grows grown =
    let whole : take n piece ≡ piece = take_all n piece (omega arith) in
    let full : longer ≡ text ++ piece = grows ∙ ap (λ (b : Bool). if b then text ++ piece else text) grown in
    record {
      none = same ∙ r.none;
      consumed = subst (λ (l : List ℕ). Consumes was new l) (sym full) (Consumes-trans was mid new text piece r.consumed some);
      extent = subst (λ (l : List ℕ). IsExtentOf next l) (sym full) (subst (λ (l : List ℕ). IsExtentOf next (text ++ l)) whole (fed text r.extent));
    }

-- with these bytes the text is too long
pub is-long : (was new : Option (List ℕ)) → TakesScript [] 8 was new → IfSome was (λ bytes. IsTrue (is_too_long bytes))
is-long None new t = tt
is-long (Some xs) None t = absurd t.in_time.taken
is-long (Some xs) (Some ys) t = subst (λ (l : List ℕ). IsTrue (is_too_long l)) (sym t.in_time.taken) (long-stays-long (t.in_time.before ++ t.in_time.last) ys (t.too_long refl))

-- ---- lines that were put into the sink

-- a count that was raised rose
pub raised-rose : (before after : ℕ) → after ≡ raised before → Rose before after
raised-rose before after is = search rules

pub at-piece : (piece other : List ℕ) (planned status : ℕ) (old new : Option (List ℕ)) (faults_before faults_after : ℕ) → other ≡ piece → Prints other planned status old new faults_before faults_after → Prints piece planned status old new faults_before faults_after
at-piece piece other planned status old new faults_before faults_after e p = subst (λ (l : List ℕ). Prints l planned status old new faults_before faults_after) e p

pub later : (piece : List ℕ) (planned status : ℕ) (old new : Option (List ℕ)) (faults_before faults_after : ℕ) → Prints piece planned status old new faults_before faults_after → faults_before ≤ faults_after
later piece planned status old new faults_before faults_after (all _ _ same) = omega (arith, same)
later piece planned status old new faults_before faults_after (front _ _ _ rises _) = rises
later piece planned status old new faults_before faults_after (nothing _ _ same) = omega (arith, same)

-- a status is the planned one, or one that a sink gives: what holds of these holds of it
pub by-status : {piece : List ℕ} {plan status : ℕ} {old new : Option (List ℕ)} {faults_before faults_after : ℕ} (P : ℕ → Type 0) → Prints piece plan status old new faults_before faults_after → P 3 → P 9 → P plan → P status
by-status P (all is bytes later) three nine planned = subst P (sym is) planned
by-status P (front is n bytes later rose) three nine planned = subst P (sym is) three
by-status P (nothing is same later) three nine planned = subst P (sym is) nine

pub by-plan : (piece : List ℕ) (plan status : ℕ) (old new : Option (List ℕ)) (faults_before faults_after : ℕ) → Prints piece plan status old new faults_before faults_after
    → (f : ℕ → Bool) → IsTrue (f 3) → IsTrue (f 9) → IsTrue (f plan) → IsTrue (f status)
by-plan piece plan status old new faults_before faults_after prints f = by-status (λ k. IsTrue (f k)) prints

-- a line that is put for another status than 0 gives another
pub not-done : (piece : List ℕ) (planned status : ℕ) (old new : Option (List ℕ)) (faults_before faults_after : ℕ) → (planned ≡ 0 → ⊥) → Prints piece planned status old new faults_before faults_after → status ≡ 0 → ⊥
not-done piece planned status old new faults_before faults_after some prints = by-status (λ k. k ≡ 0 → ⊥) prints (λ three. absurd (omega arith)) (λ nine. absurd (omega arith)) some

-- what was put for the status 0 alone is done
pub done-planned : (piece : List ℕ) (planned status : ℕ) (old new : Option (List ℕ)) (faults_before faults_after : ℕ) → Prints piece planned status old new faults_before faults_after → status ≡ 0 → planned ≡ 0
done-planned piece planned status old new faults_before faults_after prints = by-status (λ k. k ≡ 0 → planned ≡ 0) prints (λ three. absurd (omega arith)) (λ nine. absurd (omega arith)) (λ is. is)

-- and the sink failed once where it is cut short, and else not at all
pub counts-line : (piece : List ℕ) (planned status : ℕ) (old new : Option (List ℕ)) (faults_before faults_after : ℕ) → planned ≢ 3 → Prints piece planned status old new faults_before faults_after → FailsAtThree status faults_before faults_after
counts-line piece planned status old new faults_before faults_after other (all is bytes same) = record { failed = λ three. absurd (other (sym is ∙ three)); quiet = λ some. same }
counts-line piece planned status old new faults_before faults_after other (front is n bytes later once) = record { failed = λ three. once; quiet = λ some. absurd (some is) }
counts-line piece planned status old new faults_before faults_after other (nothing is same none) = record { failed = λ three. absurd (omega (arith, is, three)); quiet = λ some. none }

-- nothing was put for want of memory
pub counts-none : (status faults_before faults_after : ℕ) → status ≡ 9 → faults_after ≡ faults_before → FailsAtThree status faults_before faults_after
counts-none status faults_before faults_after nine none = record { failed = λ three. absurd (omega (arith, nine, three)); quiet = λ some. none }

-- at no other status than 3 and 9 the line was printed
pub printed-plan : (piece : List ℕ) (plan status : ℕ) (old new : Option (List ℕ)) (faults_before faults_after : ℕ) → Prints piece plan status old new faults_before faults_after → IsFalse (may_lack status) → status ≡ plan
printed-plan piece plan status old new faults_before faults_after prints = by-status (λ k. IsFalse (may_lack k) → k ≡ plan) prints (λ whole. absurd (false≢true (sym whole))) (λ whole. absurd (false≢true (sym whole))) (λ whole. refl)

pub printed-rose : (piece : List ℕ) (plan status : ℕ) (old new : Option (List ℕ)) (faults_before faults_after : ℕ) → Prints piece plan status old new faults_before faults_after → plan ≢ 3 → status ≡ 3 → Rose faults_before faults_after
printed-rose piece plan status old new faults_before faults_after prints other three = raised-rose faults_before faults_after ((counts-line piece plan status old new faults_before faults_after other prints).failed three)

-- ---- what a run takes of the source

nothing-long : is_too_long [] ≡ false
unfolding is_too_long
nothing-long = refl

-- a last piece that was read, by whether it is too long with it, and by the status of that
takes-more : (was mid new : Option (List ℕ)) (before middle : ℕ) (limit : Extent) (text piece : List ℕ) (status : ℕ) (long : Bool) → IsReading was mid before middle limit text → Consumes mid new piece → length piece ≤ 4096 → length text + length piece ≤ 4194305
    → is_too_long (text ++ piece) ≡ long → (status ≡ 8 → long ≡ true) → (status ≢ 8 → long ≡ false) → (IsTrue (reads_all status) → IsAtEnd new) → TakesScript [] status was new
takes-more was mid new before middle limit text piece status long r some short few is eight other end = record {
  in_time = record {
    before = text;
    last = piece;
    taken = Consumes-trans was mid new text piece r.consumed some;
    short = short;
    within = r.extent.within;
    few = omega (arith, few, length-append text piece);
  };
  too_long = λ at. is ∙ eight at;
  within = λ at whole. is ∙ other at;
  ran = λ some. absurd (some refl);
  to_end = end;
}

-- at a status that tells whether it is too long
pub starves-by : (status : ℕ) (was now : Option (List ℕ)) (before after : ℕ) → TakesScript [] status was now → status ≢ 8 → IsFalse (may_lack status) → after ≡ before → StarvesScript was now before after
starves-by status was now before after t other whole same = record { in_time = t.in_time; within = t.within other whole; quiet = same }

nothing-of : (piece : List ℕ) → length piece ≤ 0 → piece ≡ []
nothing-of [] none = refl
nothing-of (x ∷ xs) none = absurd (omega (arith, none))

-- it gave no bytes
pub takes-none : (was mid new : Option (List ℕ)) (before middle : ℕ) (limit : Extent) (text piece : List ℕ) (status : ℕ) → IsReading was mid before middle limit text → Consumes mid new piece → length piece ≤ 0 → status ≢ 8 → (IsTrue (reads_all status) → IsAtEnd new)
    → TakesScript [] status was new
takes-none was mid new before middle limit text piece status r some none other end =
    takes-more was mid new before middle limit text piece status false r some (omega (arith, none)) (let e = r.extent.few in omega (arith, e, none))
    (ap (λ (l : List ℕ). is_too_long (text ++ l)) (nothing-of piece none) ∙ ap is_too_long (append-nil text) ∙ r.extent.within) (λ is. absurd (other is)) (λ is. refl) end

-- a read failed
pub takes-failed : (was mid new : Option (List ℕ)) (before middle : ℕ) (limit : Extent) (text : List ℕ) → IsReading was mid before middle limit text → Keeps mid new → TakesScript [] 2 was new
takes-failed was mid new before middle limit text r same =
    takes-none was mid new before middle limit text [] 2 r (Consumes-kept mid mid new [] (Consumes-nil mid) same) (omega arith) (λ is. absurd (omega arith)) (λ all. absurd (false≢true all))

-- it gave a piece that was all within the limits, for which memory was wanting
pub starves-piece : (was mid new : Option (List ℕ)) (before middle after : ℕ) (limit next : Extent) (text piece : List ℕ) (n : ℕ) → IsReading was mid before middle limit text → after ≡ middle → Consumes mid new piece → length piece ≤ 4096 → length text + length piece ≤ 4194305
    → n ≤ length piece → length piece ≤ n → ((given : List ℕ) → IsExtentOf limit given → IsExtentOf next (given ++ take n piece)) → StarvesScript was new before after
starves-piece was mid new before middle after limit next text piece n r same some short few within entire fed =
    starves-by 1 was new before after
    (takes-more was mid new before middle limit text piece 1 false r some short few (ap (λ (l : List ℕ). is_too_long (text ++ l)) (sym (take_all n piece (omega arith))) ∙ (fed text r.extent).within)
    (λ is. absurd (omega arith)) (λ is. refl) (λ all. absurd (false≢true all)))
    (λ is. absurd (omega arith)) refl (same ∙ r.none)

-- it gave a piece with which it is too long
pub takes-long : (was mid new : Option (List ℕ)) (before middle : ℕ) (limit : Extent) (text piece : List ℕ) (n : ℕ) → IsReading was mid before middle limit text → Consumes mid new piece → length piece ≤ 4096 → length text + length piece ≤ 4194305
    → n < length piece → (n < length piece → (given : List ℕ) → IsExtentOf limit given → is_too_long (given ++ take (n + 1) piece) ≡ true) → TakesScript [] 8 was new
takes-long was mid new before middle limit text piece n r some short few within full =
    takes-more was mid new before middle limit text piece 8 true r some short few
    (ap is_too_long (sym (append_assoc text (take (n + 1) piece) (drop (n + 1) piece) ∙ ap (λ (l : List ℕ). text ++ l) (take-append-drop (n + 1) piece)))
    ∙ long-stays-long (text ++ take (n + 1) piece) (drop (n + 1) piece) (full within text r.extent))
    (λ is. refl) (λ other. absurd (other refl)) (λ all. absurd (false≢true all))

-- nothing was read, and no turn ran
pub takes-nothing : (journal : List Turn) (status : ℕ) (was now : Option (List ℕ)) → now ≡ was → journal ≡ [] → status ≢ 8 → IsFalse (reads_all status) → TakesScript journal status was now
takes-nothing journal status was now same none other leaves = subst (TakesScript journal status was) (sym same) (record {
  in_time = record { before = []; last = []; taken = Consumes-nil was; short = omega arith; within = nothing-long; few = omega arith };
  too_long = λ eight. absurd (other eight);
  within = λ is whole. nothing-long;
  ran = λ some. absurd (some none);
  to_end = λ every. absurd (false≢true (sym leaves ∙ every));
})

pub starves-nothing : (was : Option (List ℕ)) (faults : ℕ) → StarvesScript was was faults faults
starves-nothing was faults =
    starves-by 1 was was faults faults (takes-nothing [] 1 was was refl refl (λ is. absurd (omega arith)) refl) (λ is. absurd (omega arith)) refl refl

-- memory was wanting, or the sink cut the line short
pub takes-short : (status : ℕ) (was now : Option (List ℕ)) → ReadsInTime was now → status ≢ 8 → IsTrue (may_lack status) → IsFalse (reads_all status) → TakesScript [] status was now
takes-short status was now in_time other lacks leaves = record {
  in_time = in_time;
  too_long = λ eight. absurd (other eight);
  within = λ is whole. absurd (false≢true (sym whole ∙ lacks));
  ran = λ some. absurd (some refl);
  to_end = λ every. absurd (false≢true (sym leaves ∙ every));
}

-- so by the status that the line of a run without turns gives
pub takes-by : {line : List ℕ} {plan status : ℕ} {taken takes : Option (List ℕ)} {was are : ℕ} (left rest : Option (List ℕ)) → Prints line plan status taken takes was are → TakesScript [] plan left rest → TakesScript [] status left rest
takes-by left rest prints t = by-status (λ k. TakesScript [] k left rest) prints (takes-short 3 left rest t.in_time (λ is. absurd (omega arith)) refl refl) (takes-short 9 left rest t.in_time (λ is. absurd (omega arith)) refl refl) t

-- and behind the turns of a script that was read whole
pub takes-run : (journal : List Turn) (status : ℕ) (left rest : Option (List ℕ)) → TakesScript [] 0 left rest → status ≢ 8 → TakesScript journal status left rest
takes-run journal status left rest t other =
    let short = t.within (λ is. absurd (omega arith)) refl in
    record {
      in_time = t.in_time;
      too_long = λ eight. absurd (other eight);
      within = λ is whole. short;
      ran = λ some. (short, t.to_end refl);
      to_end = λ every. t.to_end refl;
    }

-- ---- how often a read failed

-- no call failed
pub none-fails : (journal : List Turn) (status before after : ℕ) → after ≡ before → FailsOnce journal status before after
none-fails journal status before after same = record { once = inl same; ran = λ some. same; none = λ other. same }

-- one may have failed, by such a status
pub may-fail : (status before after : ℕ) → IsTrue (may_fail_before status) → (after ≡ before) ⊎ (after ≡ raised before) → FailsOnce [] status before after
may-fail status before after may once = record { once = once; ran = λ some. absurd (some refl); none = λ other. absurd (false≢true (sym other ∙ may)) }

-- so by the status that the line of a run without turns gives
pub fails-by : {line : List ℕ} {plan status : ℕ} {taken takes : Option (List ℕ)} {was are : ℕ} (before after : ℕ) → Prints line plan status taken takes was are → FailsOnce [] plan before after → FailsOnce [] status before after
fails-by before after prints f = by-status (λ k. FailsOnce [] k before after) prints (may-fail 3 before after refl f.once) (may-fail 9 before after refl f.once) f
