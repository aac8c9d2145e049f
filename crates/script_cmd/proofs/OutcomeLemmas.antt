-- No run is promised one of the wrong outcomes.
use Rattle.std.proofs.Common.{◌≡◌, ℕ, Bool, List, ◌∷◌, ◌++◌, length, length-append, arith, Option, Some, None, refl, sym, ap, subst, ◌∙◌, inl, inr, [], ◌≤◌, zero, suc}
use Rattle.std.proofs.lemmas.List.{append_cancel_left}
use Rattle.fwu_formats.specs.Digests.{digests_of}
use Rattle.fwu_model.specs.{Causes.Faults, Wrote.StopsInLast, Wrote.usage_line, declared.kinds.Note.Note, Call.Call, Reply.Turn}
use Rattle.fwu_words.specs.Order.{Asked}
use Rattle.script_turns.specs.Boots.{BootsFrom, numbers_of_end, reply_of_end}
use Rattle.script_runs.specs.Ways.{Given, Refuses, bad_list, bad_script, list_not_read, not_read, too_long, usage}
use Rattle.std.specs.List.{slice_get}
use Rattle.host_io.specs.Contents.{Directory}
use Rattle.fwu_model.specs.Call as call
use Rattle.fwu_model.specs.Reply as reply
use Rattle.early_boot.specs.{EndsBy.StartsPermitted, Ends.Ended, Ends.booted}
use Rattle.image_check.specs.Passed.{HasPackage}
use Rattle.script_turns.specs.{Powered.TurnMoment, Replies.Replies, Turning.Turns, Runs.Follows}
use Rattle.script_cmd.specs.Handed.{ReadsList}
use Rattle.script_cmd.specs.Outcomes.{BadListIsNone, ListIsSome, MissingListIsNone, NoMetadataIsNone, NothingFollowsTheSink, NothingIsArmed, NothingIsPassedOver, NothingIsTouched, UsageLineIsOfUsage, UsageReadsNoSource, BootsArePermitted, IsOfPackage}

same-name : (x y : List ℕ) → ◌≡◌ {A = Option (List ℕ)} (Some x) (Some y) → x ≡ y
same-name x y e = cc

pub nothing-is-passed-over : NothingIsPassedOver
nothing-is-passed-over passes tells inputs end old new bytes calls reads p = sym ((p.ends.does calls reads).all_calls refl)

pub nothing-is-touched : NothingIsTouched
nothing-is-touched passes tells inputs end old new p = p.turns.untouched refl

pub nothing-is-armed : NothingIsArmed
nothing-is-armed passes tells inputs end old new p = p.ends.made

pub nothing-follows-the-sink : NothingFollowsTheSink
nothing-follows-the-sink passes tells inputs end old new before some p =
    let w = p.wrote before refl in (
      w.0,
      w.1,
      elim (w.2.sink_fault refl) [ inl stops ↦ stops | inr alone ↦ absurd (some alone.no_turns) ],
    )

-- the first byte of a line
abbrev first : List ℕ → ℕ
first [] = 0
first (b ∷ bytes) = b

-- which begins with `u`
no-usage : (asked : Option Asked) (g : Given) (faults_before faults_after : Faults) (planned : ℕ) (noted : Note) (line : List ℕ) → Refuses asked g faults_before faults_after planned noted line → first line ≡ 117 → asked ≡ None
no-usage asked g faults_before faults_after planned noted line (usage good is) e = is
no-usage asked g faults_before faults_after planned noted line (not_read good run rose) e = let other : ◌≡◌ {A = ℕ} 114 117 = e in absurd (omega arith)
no-usage asked g faults_before faults_after planned noted line (list_not_read some why) e = let other : ◌≡◌ {A = ℕ} 114 117 = e in absurd (omega arith)
no-usage asked g faults_before faults_after planned noted line (too_long good run long) e = let other : ◌≡◌ {A = ℕ} 116 117 = e in absurd (omega arith)
no-usage asked g faults_before faults_after planned noted line (bad_script n good asks short bad) e = let other : ◌≡◌ {A = ℕ} 98 117 = e in absurd (omega arith)
no-usage asked g faults_before faults_after planned noted line (bad_list n some there bad) e = let other : ◌≡◌ {A = ℕ} 98 117 = e in absurd (omega arith)

none-stops : (w : List ℕ) → StopsInLast [] w → ⊥
none-stops w stops = let len = ap length stops.journal_is in omega (arith, len, length-append stops.earlier (stops.last ∷ []))

pub usage-line-is-of-usage : UsageLineIsOfUsage
usage-line-is-of-usage passes tells inputs end old new before p =
    let w = p.wrote before refl in
    let is : usage_line ≡ w.0 = append_cancel_left before usage_line w.0 (same-name (before ++ usage_line) (before ++ w.0) w.1) in
    elim (w.2.sink_fault refl) [
      | inl stops ↦ absurd (none-stops w.0 stops)
      | inr alone ↦
          no-usage inputs.asked _ old.faults new.faults alone.planned end.noted alone.line alone.alone
          (ap first (sym alone.front.1) ∙ ap (λ (l : List ℕ). first (l ++ alone.front.0)) (sym is))
    ]

pub no-metadata-is-none : NoMetadataIsNone
no-metadata-is-none passes inputs end old new t turns clean boots is p =
    let h = subst (BootsFrom passes old.flash.told.now) is (p.turns.first refl clean t refl boots) in
    (h.0, h.1, h.2)

pub usage-reads-no-source : UsageReadsNoSource
usage-reads-no-source passes tells inputs end old new p =
    elim (p.ends.not_read refl refl) [ inl source ↦ absurd (let never = source.0 in cc) | inr list ↦ list ]

-- the bytes of the list that was read
read-there : (name : List ℕ) (files : List ℕ → Option (List ℕ)) (passes : List ℕ → Bool) (reads : ReadsList (Some name) (Some files) passes)
    → files name ≡ Some reads.bytes
read-there name files passes reads = subst (λ (n : List ℕ). files n ≡ Some reads.bytes) (sym (same-name name reads.name reads.named))
    reads.stands

pub missing-list-is-none : MissingListIsNone
missing-list-is-none name files passes lacks has = let both = sym lacks ∙ read-there name files passes (has.listed refl) in cc

pub bad-list-is-none : BadListIsNone
bad-list-is-none name bytes n files passes there bad has =
    let reads = has.listed refl in
    let same : bytes ≡ reads.bytes = same-name bytes reads.bytes (sym there ∙ read-there name files passes reads) in
    let both = sym bad ∙ (ap digests_of same ∙ reads.is_list) in
    cc

pub list-is-some : ListIsSome
list-is-some list files passes has = let reads = has.listed refl in (reads.digests, reads.passes_are)

-- ---- each boot that is answered comes by some package

module _ (passes : List ℕ → Bool) (t : Turn) (bank version trials counter : ℕ) (fallback : Bool)
    (is : t.reply ≡ reply.Booted bank version trials counter fallback) where
  by-end : (end : Ended) → t.reply ≡ reply_of_end end → t.numbers ≡ numbers_of_end end → StartsPermitted passes end → IsOfPackage passes t version
  by-end (booted b n) said told permitted =
      let both = sym said ∙ is in
      let same : b.version ≡ version = cc in
      record {
        rows = b.layout.rows;
        some = subst (λ (v : ℕ). HasPackage passes b.layout.rows v) same
            (record { parts = permitted.parts; complete = permitted.complete; version_is = permitted.version_is; passed = permitted.passed });
        numbers = n;
        told = told;
        enough = subst (λ (v : ℕ). n.counter ≤ v) same permitted.enough;
      }
  by-end other said told permitted = let both = sym said ∙ is in absurd cc

  by-turn : (tells : Bool) (files : Option Directory) (old new : TurnMoment) (was are : ℕ) → t.call ≡ call.Boot → Turns passes tells files t.call t old new was are
      → IsOfPackage passes t version
  by-turn tells files old new was are boots turns =
      let said : Replies passes tells files call.Boot old t new = subst (λ (c : Call). Replies passes tells files c old t new) boots turns.replies in
      by-end said.1.end said.1.reply_is said.1.numbers_are said.1.permitted

same-turn : (t u : Turn) → ◌≡◌ {A = Option Turn} (Some u) (Some t) → u ≡ t
same-turn t u e = cc

module _ (passes : List ℕ → Bool) (tells : Bool) (files : Option Directory) (t : Turn) (bank version trials counter : ℕ) (fallback : Bool)
    (boots : t.call ≡ call.Boot) (is : t.reply ≡ reply.Booted bank version trials counter fallback) where
  by-journal : (journal : List Turn) (n : ℕ) (old new : TurnMoment) (was are : ℕ) → Follows passes tells files journal old new was are → slice_get journal n ≡ Some t
      → IsOfPackage passes t version
  by-journal [] n old new was are follows at = absurd cc
  by-journal (u ∷ turns) zero old new was are follows at =
      by-turn passes t bank version trials counter fallback is tells files old follows.0 was follows.1 boots
      (subst (λ (x : Turn). Turns passes tells files x.call x old follows.0 was follows.1) (same-turn t u at) follows.2)
  by-journal (u ∷ turns) (suc n) old new was are follows at = by-journal turns n follows.0 new follows.1 are follows.4 at

pub boots-are-permitted : BootsArePermitted
boots-are-permitted passes tells inputs end old new p n t bank version trials counter fallback at boots is =
    by-journal passes tells inputs.files t bank version trials counter fallback boots is end.journal n old.flash _ _ _ p.turns.follows at
