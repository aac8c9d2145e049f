-- The one command `boot` goes by the bytes, whichever way the run ended.
use Rattle.std.proofs.Common.{◌≡◌, ◌≢◌, ◌⊎◌, ℕ, ◌<◌, Bool, false, ◌||◌, ◌==◌, List, ◌∷◌, ◌++◌, Option, Some, None, Ok, Err, slice_get, refl, sym, ap, subst, ◌∙◌, arith, inl, inr, IsTrue, IsFalse}
use Rattle.std.specs.Prelude.{Result, codes, count_by, []}
use Rattle.std.proofs.{lemmas.Bool.or_parts, lemmas.Bool.or_from, lemmas.Bool.false≢true, lemmas.Option.same_Some}
use Rattle.base_core.specs.Counts.{Rose}
use Rattle.flash_core.specs.{Told.NothingDirty, declared.flash.Counts.Counts}
use Rattle.fwu_formats.specs.{Layout.Layout, Manifest.version, declared.kinds.LayoutFault.LayoutFault}
use Rattle.fwu_formats.specs.Image.{layout_seen, deciding}
use Rattle.fwu_model.specs.{State.State, Sound.Setting, Sound.choice, Seen.seen, Answer.booted_package, Call.Call, Reply.Reply}
use Rattle.fwu_model.specs.{Reply.Turn, Script.script_of, Script.is_too_long, Asked.script_asked, Wrote.may_lack}
use Rattle.fwu_model.specs.declared.kinds.Note.{Note}
use Rattle.fwu_model.specs.Call as call
use Rattle.fwu_model.specs.Reply as reply
use Rattle.fwu_model.specs.Causes.{LossesAreCounted, Faults, cuts_in, is_cut, is_lost, may_fail_before, status_by, note_by}
use Rattle.fwu_model.specs.declared.kinds.NoBoot.TheVariants as no_boot
use Rattle.fwu_model.specs.declared.kinds.Note.TheVariants as note
use Rattle.fwu_model.proofs.Shown.{shown-by}
use Rattle.early_boot.specs.EndsBy.{Chose}
use Rattle.host_io.specs.Contents.{Directory}
use Rattle.fwu_words.specs.Order.{Asked}
use Rattle.fwu_words.specs.Order as ask
use Rattle.script_runs.specs.{Sourced.in_short, Ending.Ending, Ending.World}
use Rattle.script_turns.specs.Boots.{BootsFrom, ChoseBank, ChoseNone}
use Rattle.script_turns.specs.{Powered.TurnMoment, Powered.at, Runs.Ran, Runs.calls_of}
use Rattle.script_runs.specs.Ending.{ScriptEnded, status_of_last, note_of_last, last_turn}
use Rattle.script_runs.specs.Ways.{Given, Way, Refuses, usage, too_long, bad_script, starved, refused, ran}
use Rattle.script_runs.proofs.{TopSources.by-plan, Making.boot-is-script, Making.boot-script, Making.same-calls}
use Rattle.script_cmd.specs.{Handed.Inputs, Promises.BootWordBy, Promises.BootWordHolds, Promises.given_to}
use Rattle.script_cmd.proofs.PromiseTurns.{some-at}

same-Ok : (x y : Layout) → ◌≡◌ {A = Result Layout LayoutFault} (Ok x) (Ok y) → x ≡ y
same-Ok x y e = cc

same-Err : (x y : LayoutFault) → ◌≡◌ {A = Result Layout LayoutFault} (Err x) (Err y) → x ≡ y
same-Err x y e = cc

-- ---- the first turn by the bytes

module _ (passes : List ℕ → Bool) (image : List ℕ) (status : ℕ) (noted : Note) (journal : List Turn) (t : Turn) (first : slice_get journal 0 ≡ Some t)
    (status_is : status ≡ status_by t.reply) (noted_is : noted ≡ note_by t.reply) where
  no-both : (f : LayoutFault) (L : Layout) → layout_seen image ≡ Err f → layout_seen image ≡ Ok L → ⊥
  no-both f L e is = let both = sym is ∙ e in absurd (cc)

  no-decision : (L : Layout) (s : State) → layout_seen image ≡ Ok L → seen image ≡ Some s → deciding L image ≡ None → ⊥
  no-decision L s is shows none =
      let decides = (shown-by L image s is shows).1 in
      let both = sym decides ∙ none in
      absurd (cc)

  -- a choice is that of each setting with this layout and verifier
  chosen : (L : Layout) (x : State) (o : Option ℕ) → Chose passes image L x o → (E : Setting) (s : State) → layout_seen image ≡ Ok E.layout → passes ≡ E.passes → seen image ≡ Some s → (x ≡ s) × (choice E s ≡ o)
  chosen L x o chose E s is test shows =
      let same : x ≡ s = same_Some x s (sym chose.shows ∙ shows) in
      (same, ap (choice E) (sym same) ∙ chose.choice_is E (same-Ok E.layout L (sym is ∙ chose.has_layout)) (sym test))

  says : (r : Reply) → t.reply ≡ r → (status ≡ status_by r) × (noted ≡ note_by r)
  says r is = (status_is ∙ ap status_by is, noted_is ∙ ap note_by is)

  by-bank : (b v trials counter : ℕ) (fallback : Bool) → t.reply ≡ reply.Booted b v trials counter fallback → ChoseBank passes image b v → BootWordBy passes image status noted journal
  by-bank b v trials counter fallback replied x = record {
    no_layout = λ f e. absurd (no-both f x.layout e x.chose.has_layout);
    no_metadata = λ L is none. absurd (no-decision L x.state is x.chose.shows none);
    no_bank = λ E s is test shows none.
        let h = chosen x.layout x.state (Some b) x.chose E s is test shows in
        let both = sym none ∙ h.1 in
        absurd (cc);
    bank = λ E s k is test shows some.
        let h = chosen x.layout x.state (Some b) x.chose E s is test shows in
        let same : b ≡ k = same_Some b k (sym h.1 ∙ some) in (
          (says (reply.Booted b v trials counter fallback) replied).0,
          t,
          first,
          trials,
          counter,
          fallback,
          replied ∙ ap (λ (n : ℕ). reply.Booted b n trials counter fallback) x.version_is
              ∙ ap (λ (y : State). reply.Booted b (version (booted_package y b)) trials counter fallback) h.0
              ∙ ap (λ (n : ℕ). reply.Booted n (version (booted_package s n)) trials counter fallback) same,
        );
  }

  by-layout : (f : LayoutFault) → t.reply ≡ reply.NotBooted (no_boot.Layout f) → layout_seen image ≡ Err f → BootWordBy passes image status noted journal
  by-layout f replied e = record {
    no_layout = λ k is.
        let h = says (reply.NotBooted (no_boot.Layout f)) replied in
        (h.0, h.1 ∙ ap (λ (x : LayoutFault). note.Boot (no_boot.Layout x)) (same-Err f k (sym e ∙ is)));
    no_metadata = λ L is none. absurd (no-both f L e is);
    no_bank = λ E s is test shows none. absurd (no-both f E.layout e is);
    bank = λ E s k is test shows some. absurd (no-both f E.layout e is);
  }

  by-metadata : t.reply ≡ reply.NotBooted no_boot.Metadata → (L : Layout) → layout_seen image ≡ Ok L → deciding L image ≡ None → BootWordBy passes image status noted journal
  by-metadata replied L has nothing =
      let undecided : (M : Layout) → layout_seen image ≡ Ok M → deciding M image ≡ None = λ M is. subst (λ (K : Layout). deciding K image ≡ None) (same-Ok L M (sym has ∙ is)) nothing in
      record {
        no_layout = λ f e. absurd (no-both f L e has);
        no_metadata = λ M is none. says (reply.NotBooted no_boot.Metadata) replied;
        no_bank = λ E s is test shows none. absurd (no-decision E.layout s is shows (undecided E.layout is));
        bank = λ E s k is test shows some. absurd (no-decision E.layout s is shows (undecided E.layout is));
      }

  by-none : (active previous : ℕ) → t.reply ≡ reply.NotBooted (no_boot.Bank active previous) → ChoseNone passes image active previous → BootWordBy passes image status noted journal
  by-none active previous replied x = record {
    no_layout = λ f e. absurd (no-both f x.layout e x.chose.has_layout);
    no_metadata = λ L is none. absurd (no-decision L x.state is x.chose.shows none);
    no_bank = λ E s is test shows none.
        let h = says (reply.NotBooted (no_boot.Bank active previous)) replied in
        let same = (chosen x.layout x.state None x.chose E s is test shows).0 in (
          h.0,
          h.1 ∙ ap (λ (a : ℕ). note.Boot (no_boot.Bank a previous)) (x.active_is ∙ ap (λ (y : State). y.active) same)
              ∙ ap (λ (p : ℕ). note.Boot (no_boot.Bank s.active p)) (x.previous_is ∙ ap (λ (y : State). y.previous) same),
        );
    bank = λ E s k is test shows some.
        let h = chosen x.layout x.state None x.chose E s is test shows in
        let both = sym some ∙ h.1 in
        absurd (cc);
  }

  by-reply : (r : Reply) → t.reply ≡ r → BootsFrom passes image r → r ≢ reply.Lost → r ≢ reply.Fault → BootWordBy passes image status noted journal
  by-reply (reply.Booted b v trials counter fallback) is h lost fault = by-bank b v trials counter fallback is h
  by-reply (reply.NotBooted (no_boot.Layout f)) is h lost fault = by-layout f is h
  by-reply (reply.NotBooted no_boot.Metadata) is h lost fault = by-metadata is h.0 h.1 h.2
  by-reply (reply.NotBooted (no_boot.Bank active previous)) is h lost fault = by-none active previous is h
  by-reply reply.Lost is h lost fault = absurd (lost refl)
  by-reply reply.Fault is h lost fault = absurd (fault refl)
  by-reply other is h lost fault = absurd h

-- ---- the turns of the script of one boot

no-more : (turns : List Turn) (more : List Call) → calls_of turns ++ more ≡ [] → turns ≡ []
no-more [] more e = refl
no-more (t ∷ turns) more e = absurd (cc)

one-boot : (t : Turn) (turns : List Turn) (more : List Call) → calls_of (t ∷ turns) ++ more ≡ call.Boot ∷ [] → (t.call ≡ call.Boot) × (turns ≡ [])
one-boot t turns more e =
    let first : t.call ≡ call.Boot = cc in
    let rest : calls_of turns ++ more ≡ [] = cc in
    (first, no-more turns more rest)

whole : (status : ℕ) → IsFalse (may_fail_before status || (status == 13)) → IsFalse (may_lack status)
whole status fails =
    let parts = or_parts (may_fail_before status) (status == 13) fails in
    let more = or_parts ((status == 2) || (status == 3)) (status == 9) parts.0 in
    or_from (status == 3) (status == 9) (or_parts (status == 2) (status == 3) more.0).1 more.1

not-lost : (t : Turn) (before after : Counts) → LossesAreCounted (t ∷ []) before after → (Rose before.cuts after.cuts → ⊥) → (Rose before.reached after.reached → ⊥) → t.reply ≢ reply.Lost
not-lost t before after (inl counted) cuts reached is =
    let one : count_by (λ (x : Turn). is_lost x.reply) (t ∷ []) ≡ 1 = ap (λ (r : Reply). count_by (λ (x : Reply). is_lost x) (r ∷ [])) is in
    let less : before.cuts < after.cuts → ⊥ = λ lt. cuts (inl lt) in
    let fewer : before.reached < after.reached → ⊥ = λ lt. reached (inl lt) in
    omega arith
not-lost t before after (inr (inl top)) cuts reached is = cuts (inr top)
not-lost t before after (inr (inr top)) cuts reached is = reached (inr top)

no-cut : (t : Turn) → t.call ≡ call.Boot → cuts_in (t ∷ []) ≡ 0
no-cut t is = ap (λ (c : Call). count_by is_cut (c ∷ [])) is

module _ (passes : List ℕ → Bool) (tells : Bool) (files : Option Directory) (status : ℕ) (noted : Note) (old : TurnMoment) (from to : ℕ) where
  by-journal : (journal : List Turn) (new : TurnMoment) → Ran passes tells files journal old new from to → ScriptEnded (call.Boot ∷ []) journal status noted
      → IsTrue tells → NothingDirty old.told → IsFalse (may_lack status) → (old.armed ≡ None) ⊎ (Rose old.counts.reached new.counts.reached → ⊥) → (Rose old.counts.faults new.counts.faults → ⊥) → (Rose old.counts.cuts new.counts.cuts → ⊥)
      → BootWordBy passes old.told.now status noted journal
  by-journal [] new did ended told clean lacks unarmed faults cuts = let none = ended.all_calls (ended.status_is lacks) in absurd (cc)
  by-journal (t ∷ turns) new did ended told clean lacks unarmed faults cuts =
      let one = one-boot t turns ended.calls.0 ended.calls.1 in
      let last : last_turn (t ∷ turns) ≡ Some t = ap (λ (ts : List Turn). last_turn (t ∷ ts)) one.1 in
      let uncut : cuts_in (t ∷ turns) ≡ 0 = ap (λ (ts : List Turn). cuts_in (t ∷ ts)) one.1 ∙ no-cut t one.0 in
      let lost : t.reply ≢ reply.Lost = elim unarmed [
        | inl none ↦ λ is. cuts ((did.free none uncut).lost t (0, omega arith, refl) is)
        | inr quiet ↦ not-lost t old.counts new.counts (subst (λ (ts : List Turn). LossesAreCounted (t ∷ ts) old.counts new.counts) one.1 did.lost_turns) cuts quiet
      ] in
      by-reply passes old.told.now status noted (t ∷ turns) t refl (ended.status_is lacks ∙ ap status_of_last last) (ended.noted_is ∙ ap note_of_last last)
      t.reply refl (did.first told clean t refl one.0) lost (λ is. faults (did.fault_turns t (0, omega arith, refl) is))

-- ---- nothing ran

no-refusal : (asked : Option Asked) (g : Given) (faults_before faults_after : Faults) (planned : ℕ) (noted : Note) (line : List ℕ) → asked ≡ Some ask.boot → g.script ≡ Some (codes "boot\n") → Refuses asked g faults_before faults_after planned noted line
    → IsTrue (may_fail_before planned || (planned == 13))
no-refusal asked g faults_before faults_after planned noted line boot script (usage good none) = let both = sym boot ∙ none in absurd (cc)
no-refusal asked g faults_before faults_after planned noted line boot script (too_long good run long) = let both = sym boot ∙ run in absurd (cc)
no-refusal asked g faults_before faults_after planned noted line boot script (bad_script n good asks short bad) =
    let both = sym boot-is-script ∙ some-at g.script (λ b. script_of b ≡ Err n) (codes "boot\n") bad script in
    absurd (cc)
no-refusal asked g faults_before faults_after planned noted line boot script other = refl

pub ways-boot : (passes : List ℕ → Bool) (tells : Bool) (inputs : Inputs) (end : Ending Note) (old new : World) → Way passes tells inputs.asked (given_to inputs) end old new
    → BootWordHolds passes tells inputs.asked end old.flash new.flash
ways-boot passes tells inputs end old new (starved empty same nine quiet stuck) told clean boot fails unarmed faults cuts =
    absurd (false≢true (sym fails ∙ subst (λ (k : ℕ). IsTrue (may_fail_before k || (k == 13))) (sym nine) refl))
ways-boot passes tells inputs end old new (refused planned line empty same why prints) told clean boot fails unarmed faults cuts =
    let g = given_to inputs in
    absurd (false≢true (sym fails ∙ by-plan line planned end.status old.taken new.taken old.faults.sink new.faults.sink prints (λ k. may_fail_before k || (k == 13)) refl refl
    (no-refusal inputs.asked g old.faults new.faults planned end.noted line boot (boot-script inputs.asked inputs.source boot) why)))
ways-boot passes tells inputs end old new (ran calls on good asks has turns ended printed) told clean boot fails unarmed faults cuts =
    let is = (some-at (script_asked (in_short inputs.asked) inputs.source) (λ b. (is_too_long b ≡ false) × (script_of b ≡ Ok calls)) (codes "boot\n") has (boot-script inputs.asked inputs.source boot)).1 in
    let same : calls ≡ call.Boot ∷ [] = same-calls calls (call.Boot ∷ []) (sym is ∙ boot-is-script) in
    by-journal passes tells inputs.files end.status end.noted old.flash old.faults.files new.faults.files end.journal (at on new.flash.told new.flash.writes new.flash.counts new.flash.armed new.flash.power) turns (subst (λ (c : List Call). ScriptEnded c end.journal end.status end.noted) same ended) told clean (whole end.status fails) unarmed faults cuts
