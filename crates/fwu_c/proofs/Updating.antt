-- An update, by what its device tells and by its steps.
use Rattle.std.proofs.Common.{Bool, ◌≡◌, ◌∙◌, inl, refl, ℕ, ◌+◌, ◌*◌, ◌≤◌, List, length, Some, None, Ok, Err, ap, subst, take, arith, get_or}
use Rattle.std.proofs.Math.ListN.{get_or-map}
use Rattle.std.specs.Prelude.{All, IsTrue, IsFalse}
use Rattle.base_core.specs.Block.{block_bytes}
use Rattle.flash_core.specs.Told.{Told}
use Rattle.fwu_formats.specs.{Digests.passes_any, Image.layout_seen, Image.deciding, declared.kinds.LayoutFault.LayoutFault}
use Rattle.fwu_formats.specs.{declared.kinds.BankState.TheVariants.Invalid, Places.counter_block}
use Rattle.fwu_formats.specs.Layout.{Layout, fits_layout, start}
use Rattle.fwu_model.specs.State.{State, Numbers, Bank, bank, no_bank, numbers_of, is_valid}
use Rattle.fwu_model.specs.Seen.{seen}
use Rattle.moves.specs.Moved.{IsShown}
use Rattle.moves.proofs.Agree.{layout-kept}
use Rattle.early_boot.specs.{Numbers.ShowsNumbers, Started.Started, Ends.Ended, Ends.booted, EndsBy.BootEnds, EndsBy.TouchesBoot}
use Rattle.early_boot.proofs.Touching.{boot-spares}
use Rattle.step_flash.specs.{declared.step.Step.Step, declared.flash.StepFlash.StepFlash, Flash.block_count, Flash.image_of}
use Rattle.step_flash.specs.{Flash.steps_of, Flash.told_of, Flash.writes_of, Guard.start_with, Writes.LiesWithin, Writes.writes_in}
use Rattle.fwu_c.specs.{declared.report.Report.Report, Agents.BeginsAgent, Reports.end_code}
use Rattle.fwu_c.specs.Handed.{HandsOver, IsJustMade, HasFlashSize, IsDeviceEnd, TellsSteps, boot_reach, is_idle_number}
use Rattle.fwu_c.specs.Sendings.{InstallsBy, SendOutcome, outcome_code}
use Rattle.fwu_c.specs.Updates.{BootsUp, IsOnTrial, LiesInUpdate, SparesInUse, TouchesUpdate, UpdateEnds, UpdatesBy}
use Rattle.update_client.specs.declared.stops.SendStop.TheVariants.{ReadFailed}
use Rattle.agent_machine.specs.{Moment.Moment, Beside.IsSparedByAll, Beside.SparesBlocksByAll}
use Rattle.fwu_formats.proofs.Read.{layout-fits}
use Rattle.fwu_c.proofs.{Calls.setting_of, Telling.keeps_fault, Telling.lie_further, Telling.starts_none, Telling.told_handed}
use Rattle.fwu_c.proofs.Places.{behind-front, behind-untouched, between-unwritten, either-place, has-blocks, in-use-unwritten, marks-spared, update-bank, update-touches}
use Rattle.fwu_c.proofs.Booting.{beside_marks_by, boot_counts, code_few, counted_from_none, end_same, guard_kept, lies_over, none_taken, over, unwritten}

-- ---- trials

active_state : (s : State) → get_or (numbers_of s).states (numbers_of s).active Invalid ≡ (bank s s.active).state
active_state s = get_or-map (λ (k : Bank). k.state) s.banks s.active no_bank

-- by the numbers that an image shows its active bank is on trial, or not
pub trial_by : (image : List ℕ) (n : Numbers) → ShowsNumbers image n → IsTrue (is_valid (get_or n.states n.active Invalid)) → IsOnTrial image
trial_by image n shows valid = let active = active_state shows.0 in (shows.0, shows.1, cc)

pub no_trial_by : (image : List ℕ) (n : Numbers) → ShowsNumbers image n → IsFalse (is_valid (get_or n.states n.active Invalid)) → IsOnTrial image → ⊥
no_trial_by image n shows other trial = let active = active_state shows.0 in absurd (cc)

-- an image without a layout, or without metadata, has no bank on trial
pub no_layout_no_trial : (image : List ℕ) (f : LayoutFault) → layout_seen image ≡ Err f → IsOnTrial image → ⊥
unfolding seen
no_layout_no_trial image f is trial = let shown = rw is at trial.1 in absurd (cc)

pub no_metadata_no_trial : (image : List ℕ) (L : Layout) → layout_seen image ≡ Ok L → deciding L image ≡ None → IsOnTrial image → ⊥
unfolding seen
no_metadata_no_trial image L layout none trial = let shown = rw (layout, none) at trial.1 in absurd (cc)

-- ---- numbers

pub outcome_starts : (outcome : SendOutcome) → IsTrue (starts_none (outcome_code outcome)) → ⊥
outcome_starts (Some (Err ReadFailed)) none = absurd (cc)
outcome_starts outcome none = absurd (cc)

-- so steps are told
pub never_idle : (outcome : SendOutcome) (number : ℕ) → number ≡ outcome_code outcome → IsFalse (is_idle_number number)
never_idle (Some (Err ReadFailed)) number is = rw is refl
never_idle outcome number is = rw is refl

-- a boot has none of the numbers 4, 6 and 7
pub boots_end_is : (e : Ended) (number : ℕ) (first left : StepFlash) (old r : Report) → BootsUp e number first left old r → IsDeviceEnd number
boots_end_is e number first left old r boots = grind (arith, boots.unlost, boots.number_is, code_few e)

-- an update is refused before it boots
pub told_denied : (image : List ℕ) (r : Report) (steps : List Step) (room : List ℕ) → HasFlashSize image
    → TellsSteps image 16 r steps room (record r { steps = 0; bytes = 0 }) steps room
told_denied image r steps room is =
    told_handed image 16 16 r steps room (record r { steps = 0; bytes = 0 }) steps room is (grind arith) (inl refl)
    (λ idle. absurd (cc)) (keeps_fault 16 r _ refl (λ none. absurd (cc))) (λ not k d lt. absurd (omega (arith, lt))) (refl, refl)
    (λ five. absurd (omega (arith, five))) (λ seven. absurd (omega (arith, seven)))

-- ---- the record

-- a sending keeps the guard, since the boot before it left a flash that shows a state
guard_by : (file : List ℕ) (request : ℕ) (b : Started) (outcome : SendOutcome) (old t : Told) (s : State) → IsShown b.layout old.now s
    → InstallsBy file request b outcome old t → t.guard ≡ old.guard
guard_by file request b None old t s shown by = cc
guard_by file request b (Some result) old t s shown by = (by.answers (setting_of b.layout) s refl refl shown).guard_is

-- what a sending spares, by the bank that was started
abbrev pub SendingSpares : Started → StepFlash → StepFlash → Type 0
SendingSpares b mid d = (k : ℕ) → IsSparedByAll b.layout b.bank (block_bytes * k) → writes_of d k ≡ writes_of mid k

pub sending_spares : (b : Started) (m : Moment) (gone : Bool) (mid d : StepFlash) → BeginsAgent b m gone
    → SparesBlocksByAll m.fields (writes_of mid) (writes_of d) → SendingSpares b mid d
sending_spares b m gone mid d begins touches k spared =
    touches k (rw (begins.from.layout, begins.from.boot) spared)

-- where the boot started no bank
none_ends : (file : List ℕ) (request : ℕ) (e : Ended) (number : ℕ) (t : Told) → number ≡ end_code e → 1 ≤ number
    → UpdateEnds file request e number t t
none_ends file request (booted b n) number t is some = absurd (omega (arith, is, some))
none_ends file request e number t is some = (is, refl)

none_spared : (e : Ended) (steps : List Step) → 1 ≤ end_code e → SparesInUse e steps
none_spared (booted b n) steps some = absurd (omega (arith, some))
none_spared e steps some = tt

none_behind : (e : Ended) (writes : ℕ → ℕ) → 1 ≤ end_code e → TouchesBoot e (λ k. 0) writes → TouchesUpdate e writes
none_behind (booted b n) writes some boot = absurd (omega (arith, some))
none_behind e writes some boot = (writes, boot, refl)

none_lie : (e : Ended) (steps : List Step) → 1 ≤ end_code e → All (LiesWithin block_bytes boot_reach) steps → All (LiesInUpdate e) steps
none_lie (booted b n) steps some lie = absurd (omega (arith, some))
none_lie e steps some lie = lie

module _ (file : List ℕ) (request : ℕ) (first d : StepFlash) (made : IsJustMade file first) (number : ℕ) (old told r : Report)
    (steps : List Step) (room : List ℕ) (hands : HandsOver d told r steps room) where
  updates_by : (e : Ended) (given : ℕ) (mid : StepFlash) → BootsUp e given first mid old told → (told_of d).guard ≡ (told_of mid).guard
      → UpdateEnds file request e number (told_of mid) (told_of d) → All (LiesInUpdate e) (take r.steps steps) → SparesInUse e (take r.steps steps)
      → writes_of d counter_block ≡ writes_of mid counter_block → TouchesUpdate e (writes_in (take r.steps steps))
      → UpdatesBy (image_of first) file request number old r steps room
  updates_by e given mid boots guard ends places spared still fewer = record {
    end = e;
    mid = told_of mid;
    boots = subst (λ (x : Told). BootEnds (λ m. passes_any m) x e (told_of mid)) made.fresh boots.ends;
    t = told_of d;
    ends = ends;
    made = over file first d told r steps room made
        (guard ∙ guard_kept (told_of first) (told_of mid) e boots.ends.by_bytes) hands;
    places = places;
    spared = spared;
    beside_marks = beside_marks_by d _ hands.lie
        (still ∙ boot-spares e (writes_of first) (writes_of mid) boots.touches_fewer ∙ unwritten made counter_block);
    touches_fewer = fewer;
    reports = end_same e old told r hands.same boots.reports;
  }

  -- the boot started no bank
  pub unbooted_by : (given : ℕ) (e : Ended) → BootsUp e given first d old told → 1 ≤ given → number ≡ given
      → (IsFalse (is_idle_number number) → take r.steps steps ≡ steps_of d) → (IsTrue (is_idle_number number) → r.steps ≡ 0)
      → UpdatesBy (image_of first) file request number old r steps room
  unbooted_by given e boots some is counted idle =
      updates_by e given d boots refl
      (none_ends file request e number (told_of d) (is ∙ boots.number_is) (omega (arith, some, is)))
      (none_lie e _ (omega (arith, some, boots.number_is))
      (hands.lie.places 1 7 (counted_from_none block_bytes boot_reach (unwritten made) boots.touches)))
      (none_spared e _ (omega (arith, some, boots.number_is))) refl
      (none_behind e _ (omega (arith, some, boots.number_is)) (boot_counts e first d number (take r.steps steps) (is ∙ boots.number_is)
      (unwritten made) boots.touches_fewer counted (λ none. none_taken r.steps steps (idle none))))

  module _ (mid : StepFlash) (b : Started) (n : Numbers) (boots : BootsUp (booted b n) 0 first mid old told)
      (sent : SendingSpares b mid d) (outcome : SendOutcome) (installs : InstallsBy file request b outcome (told_of mid) (told_of d)) where
    layout : layout_seen (told_of mid).now ≡ Ok b.layout
    layout =
        layout-kept b.layout _ _ (told_of first) (told_of mid) (omega arith) boots.ends.by_bytes.others boots.ends.by_bytes.chose.has_layout

    fits : IsTrue (fits_layout b.layout)
    fits = layout-fits _ _ b.layout layout

    guard : (told_of d).guard ≡ (told_of mid).guard
    guard =
        let shows = boots.ends.by_bytes.shows in
        guard_by file request b outcome (told_of mid) (told_of d) shows.0 (record { layout = layout; shows = shows.1 }) installs

    -- where the steps behind a boot of a bank lie: behind block 0
    pub tried_places : All (LiesWithin block_bytes (length (image_of first))) (take r.steps steps)
    tried_places =
        let touches = update-touches b.layout b.bank fits first mid d (unwritten made) boots.touches sent in
        let both = lies_over file first d made (guard ∙ guard_kept (told_of first) (told_of mid) (booted b n) boots.ends.by_bytes) in
        let long = ap (λ (i : List ℕ). length i) both.0 in
        lie_further block_bytes (block_bytes * block_count d) (length (image_of first)) _
        (omega (arith, d.device.value.size, long)) (hands.lie.places 1 (block_count d) touches)

    -- a bank was started, and the package tried
    pub tried_by : number ≡ outcome_code outcome → take r.steps steps ≡ steps_of d
        → UpdatesBy (image_of first) file request number old r steps room
    tried_by is counted =
        updates_by (booted b n) 0 mid boots guard (outcome, is, installs)
        (either-place b.layout (update-bank b.layout b.bank) _
        (hands.lie.places 1 (start b.layout (update-bank b.layout b.bank + 1) 0)
        (behind-untouched b.layout b.bank fits first mid d (unwritten made) boots.touches sent))
        (hands.lie.beside 7 (start b.layout (update-bank b.layout b.bank) 0) (behind-front b.layout (update-bank b.layout b.bank))
        (between-unwritten b.layout b.bank fits first mid d (unwritten made) boots.touches sent)))
        (hands.lie.beside (start b.layout b.bank 0) (start b.layout (b.bank + 1) 0) (has-blocks b.layout b.bank fits)
        (in-use-unwritten b.layout b.bank fits first mid d (unwritten made) boots.touches sent))
        (sent counter_block (marks-spared b.layout b.bank fits)) (
          writes_of mid,
          subst (λ (w : ℕ → ℕ). TouchesBoot (booted b n) w (writes_of mid)) (λ i k. unwritten made k i) boots.touches_fewer,
          λ k spared. ap (λ (ss : List Step). writes_in ss k) counted ∙ sent k spared,
        )
