-- `show` and `format` do all that they are asked for, where nothing is lacking and nothing failed, unless memory was wanting.
use Rattle.std.proofs.Common.{◌≡◌, ◌⊎◌, inl, inr, ℕ, Bool, true, List, Option, Some, None, Result, Ok, Err, refl, sym, subst, ◌∙◌, IsTrue, IsFalse, IsSome}
use Rattle.std.proofs.lemmas.Bool.{false≢true}
use Rattle.flash_core.specs.{Counts.Rose, Told.Told, Told.NothingDirty, declared.flash.Counts.Counts}
use Rattle.fwu_formats.specs.{Layout.Layout, Image.deciding}
use Rattle.fwu_model.specs.{Allow.list_bytes, Causes.Faults, Causes.LacksList, Wrote.IsBadList, Wrote.bad_list_line, Wrote.not_read_line}
use Rattle.fwu_model.specs.{declared.kinds.Note.Note, declared.kinds.NoBoot.NoBoot}
use Rattle.fwu_model.specs.declared.kinds.Note.TheVariants as note
use Rattle.fwu_model.specs.declared.kinds.NoBoot.TheVariants as no_boot
use Rattle.fip_tables.specs.Files.{Tells, Lacks}
use Rattle.flash_format.specs.{Stops.RefusesAs, Stops.IsEarlyStop, declared.formatting.Formatted.Formatted}
use Rattle.flash_format.specs.{declared.stops.FormatStop.FormatStop, declared.stops.InputFault.InputFault}
use Rattle.flash_format.specs.declared.stops.FormatStop.TheVariants.{Input, ReadFailed, Flash}
use Rattle.flash_format.specs.declared.stops.InputFault.TheVariants as fault
use Rattle.host_io.specs.{Contents.Directory, Printed.Prints, Printed.all, Printed.front, Printed.nothing}
use Rattle.fwu_words.specs.Order.{Asked}
use Rattle.fwu_words.specs.Order as ask
use Rattle.script_turns.specs.Powered.{TurnMoment}
use Rattle.script_runs.specs.{Ending.noted, Ending.World, ByTable.StopHasCause, declared.done.Note.Note as Said}
use Rattle.script_runs.specs.Ways.{Given, Refuses, bad_list, bad_script, list_not_read, not_read, too_long, usage}
use Rattle.flash_commands.specs.Showing.{ShowFinds, RefusedList, Showed, ShowsNone}
use Rattle.flash_commands.specs.Showing as show
use Rattle.flash_commands.specs.Formatting.{Formats, Tries, format_status, format_text}
use Rattle.flash_commands.specs.Formatting as format
use Rattle.script_runs.proofs.{TopWays.device-of, TopWays.world-of, TopSources.by-plan, TopSources.raised-rose}
use Rattle.flash_commands.proofs.FormatFlash.{wakes-clean}
use Rattle.script_cmd.specs.NoTurns.{HasMetadata, IsFormattable}
use Rattle.script_cmd.specs.{Handed.may_lack_list, Handed.HasReadList, Handed.IsGranted}

-- a line whose status was to be 0, at a sink that did not fail
pub printed : (line : List ℕ) (status : ℕ) (old new : Option (List ℕ)) (faults_before faults_after : ℕ) → (Rose faults_before faults_after → ⊥) → Prints line 0 status old new faults_before faults_after → (status ≡ 0) ⊎ (status ≡ 9)
printed line status old new faults_before faults_after fails (all is appends later) = inl is
printed line status old new faults_before faults_after fails (front is n appends later once) = absurd (fails (raised-rose faults_before faults_after once))
printed line status old new faults_before faults_after fails (nothing is same later) = inr is

-- ---- a list that was refused

module _ (asked : Asked) (runs : Some asked ≡ Some ask.run → ⊥) (boots : Some asked ≡ Some ask.boot → ⊥) where
  -- a command that runs no script is refused for its list alone
  pub list-cause : (g : Given) (before after : Faults) (planned : ℕ) (noted : Note) (line : List ℕ)
      → Refuses (Some asked) g before after planned noted line
      → ((planned ≡ 2) × IsSome g.list × (Rose before.files after.files ⊎ LacksList g.files g.list) × (noted ≡ note.Nothing)
      × (line ≡ not_read_line))
      ⊎ ((planned ≡ 13) × IsSome g.list × (n : ℕ) × (noted ≡ note.BadList n) × IsBadList (list_bytes g.list g.files) n
      × (line ≡ bad_list_line n))
  list-cause g before after planned noted line (usage good is) = cc
  list-cause g before after planned noted line (not_read good is rose) = absurd (runs is)
  list-cause g before after planned noted line (list_not_read some why) = inl (refl, some, why, refl, refl)
  list-cause g before after planned noted line (too_long good is long) = absurd (runs is)
  list-cause g before after planned noted line (bad_script n good (inl is) short bad) = absurd (runs is)
  list-cause g before after planned noted line (bad_script n good (inr is) short bad) = absurd (boots is)
  list-cause g before after planned noted line (bad_list n some there bad) = inr (refl, some, n, refl, bad, refl)

  -- where it is there and has no bad line it is not
  pub list-granted : (g : Given) (before after : Faults) (planned : ℕ) (noted : Note) (line : List ℕ) → HasReadList g before after
      → Refuses (Some asked) g before after planned noted line → ⊥
  list-granted g before after planned noted line has why = elim (list-cause g before after planned noted line why) [
    | inl c ↦ elim c.2 [ inl rose ↦ has.read rose | inr lacks ↦ has.there lacks ]
    | inr c ↦ has.good c.2 c.1 c.4
  ]

  pub granted : (g : Given) (before after : Counts) (faults_before faults_after : Faults) (planned : ℕ) (noted : Note) (line : List ℕ)
      → IsGranted g before after faults_before faults_after → Refuses (Some asked) g faults_before faults_after planned noted line → ⊥
  granted g before after faults_before faults_after planned noted line has = list-granted g faults_before faults_after planned noted line has.list

  module _ (g : Given) (status : ℕ) (noted : Note) (old new : World) (refused : RefusedList asked g status noted old new) where
    -- the statuses of that: the sink may fail at the line, or memory be wanting
    pub list-status : (f : ℕ → Bool) → IsTrue (f 2) → IsTrue (f 3) → IsTrue (f 9) → IsTrue (f 13) → IsTrue (f status)
    list-status f two three nine thirteen = go refused
      where
        go : RefusedList asked g status noted old new → IsTrue (f status)
        go (planned, line, why, prints) =
            by-plan line planned status old.taken new.taken old.faults.sink new.faults.sink prints f three nine
            (elim (list-cause g old.faults new.faults planned noted line why) [
              | inl c ↦ subst (λ (k : ℕ). IsTrue (f k)) (sym c.0) two
              | inr c ↦ subst (λ (k : ℕ). IsTrue (f k)) (sym c.0) thirteen
            ])

    -- no other status is of a list
    pub list-other : (k : ℕ) → IsFalse (may_lack_list k) → status ≡ k → ⊥
    list-other k other is =
        false≢true (sym other ∙ subst (λ (n : ℕ). IsTrue (may_lack_list n)) is (list-status may_lack_list refl refl refl refl))

module _ (g : Given) (before after : Counts) (status : ℕ) (taken_before taken_after : Option (List ℕ)) (faults_before faults_after : Faults) where
  -- a flash with metadata shows its numbers
  found : (known : Type 0) (image : List ℕ) (planned : ℕ) (told : Note) (line : List ℕ) → known → HasMetadata image → IsGranted g before after faults_before faults_after → ShowFinds known image before after planned told line
      → Prints line planned status taken_before taken_after faults_before.sink faults_after.sink → (status ≡ 0) ⊎ (status ≡ 9)
  found known image planned told line knows has grants (show.numbers n are shows) prints = printed line status taken_before taken_after faults_before.sink faults_after.sink grants.no_sink_fault prints
  found known image planned told line knows has grants (show.none why none) prints = absurd (no why (none knows))
    where
      no : (why : NoBoot) → ShowsNone image why → ⊥
      no (no_boot.Layout f) is = let layout = has.has_layout in cc
      no no_boot.Metadata is = let one = is.1 in let layout = has.has_layout in let same : is.0 ≡ has.layout = cc in let none : deciding has.layout image ≡ None = subst (λ (L : Layout). deciding L image ≡ None) same is.2 in let some = has.decides in cc
      no (no_boot.Bank active previous) is = is
  found known image planned told line knows has grants (show.stopped (inl fault)) prints = absurd (grants.no_fault fault)
  found known image planned told line knows has grants (show.stopped (inr cut)) prints = absurd (grants.no_cut cut)

  pub show-completes : (tells : Bool) (old new : TurnMoment) (told : Note) → old.counts ≡ before → new.counts ≡ after → Showed tells g (world-of old taken_before faults_before) (world-of new taken_after faults_after) status told
      → IsTrue tells → NothingDirty old.told → HasMetadata old.told.now → IsGranted g before after faults_before faults_after → (status ≡ 0) ⊎ (status ≡ 9)
  show-completes tells old new told first last (show.starved is quiet same none) knows clean has grants = inr is
  show-completes tells old new told first last (show.found good planned line wakes finds once power still prints) knows clean has grants =
      found (IsTrue tells) new.told.now planned told line knows (subst (λ (t : Told). HasMetadata t.now) (sym (wakes-clean old.told new.told clean (wakes knows))) has) grants
      (subst (λ (x : Counts). ShowFinds (IsTrue tells) new.told.now x after planned told line) first
      (subst (λ (x : Counts). ShowFinds (IsTrue tells) new.told.now old.counts x planned told line) last finds)) prints
  show-completes tells old new told first last (show.list_refused same refused) knows clean has grants = absurd
      (granted ask.show (λ is. cc) (λ is. cc) g before after faults_before faults_after refused.0 told refused.1 grants refused.2)

-- a name that is told isn't lacking
pub there : (told : Option Directory) (name file : List ℕ) → Tells told name file → Lacks told name → ⊥
there None name file tells lacks = lacks
there (Some files) name file tells lacks = cc

not-refused : (r : Result Formatted FormatStop) (asks : Option InputFault) → asks ≡ None → RefusesAs asks r → IsEarlyStop r → ⊥
not-refused r asks none answers = subst (λ (o : Option InputFault). RefusesAs o r) none answers

-- what can be formatted is not refused
pub no-input : (passes : List ℕ → Bool) (tells : Bool) (files : Option Directory) (name : List ℕ) (L : Layout) (blocks : ℕ) (old new : TurnMoment)
    (was are : ℕ) (f : InputFault) → IsTrue tells → IsFormattable passes files name L blocks
    → Tries passes tells files name L blocks old new was are (Err (Input f)) → ⊥
no-input passes tells files name L blocks old new was are (fault.Incomplete verdict) told can tries =
    tries.deserved verdict refl told can.file can.toc can.is_there can.is_package can.complete can.permitted
no-input passes tells files name L blocks old new was are other told can tries =
    not-refused _ _ can.fits (tries.answers can.file can.is_there) tt

module _ (passes : List ℕ → Bool) (g : Given) (name : List ℕ) (L : Layout) (blocks : ℕ) (old new : TurnMoment) (status : ℕ) (said : Said) (taken_before taken_after : Option (List ℕ)) (faults_before faults_after : Faults) where
  tried : (r : Result Formatted FormatStop) → IsFormattable passes g.files name L blocks → IsGranted g old.counts new.counts faults_before faults_after
      → Tries passes true g.files name L blocks old new faults_before.files faults_after.files r → Prints (format_text r) (format_status r) status taken_before taken_after faults_before.sink faults_after.sink → (status ≡ 0) ⊎ (status ≡ 9)
  tried (Ok done) can grants tries prints = printed (format_text (Ok done)) status taken_before taken_after faults_before.sink faults_after.sink grants.no_sink_fault prints
  tried (Err (Input f)) can grants tries prints =
      absurd (no-input passes true g.files name L blocks old new faults_before.files faults_after.files f refl can tries)
  tried (Err ReadFailed) can grants tries prints = absurd (unread (tries.reads.failed refl))
    where
      unread : Rose faults_before.files faults_after.files ⊎ Lacks g.files name → ⊥
      unread (inl rose) = grants.list.read rose
      unread (inr lacks) = there g.files name can.file can.is_there lacks
  tried (Err (Flash stop)) can grants tries prints = absurd (stopped (tries.stopped stop refl))
    where
      stopped : StopHasCause old.counts new.counts → ⊥
      stopped (inl fault) = grants.no_fault fault
      stopped (inr cut) = grants.no_cut cut

  by-formats : Formats passes (device-of true blocks) g name L (world-of old taken_before faults_before) (world-of new taken_after faults_after) status said → IsFormattable passes g.files name L blocks → IsGranted g old.counts new.counts faults_before faults_after → (status ≡ 0) ⊎ (status ≡ 9)
  by-formats (format.starved nine is same taken_after still) can grants = inr nine
  by-formats (format.tried good r tries prints is) can grants = tried r can grants tries prints
  by-formats (format.list_refused same quiet refused) can grants =
      absurd
      (granted (ask.format L.banks L.rows name) (λ is. cc) (λ is. cc) g old.counts new.counts faults_before faults_after
      refused.0 (noted said) refused.1 grants refused.2)

  pub format-completes : (tells : Bool) → Formats passes (device-of tells blocks) g name L (world-of old taken_before faults_before) (world-of new taken_after faults_after) status said → IsTrue tells → IsFormattable passes g.files name L blocks → IsGranted g old.counts new.counts faults_before faults_after
      → (status ≡ 0) ⊎ (status ≡ 9)
  format-completes tells formats told = by-formats (subst (λ (x : Bool). Formats passes (device-of x blocks) g name L (world-of old taken_before faults_before) (world-of new taken_after faults_after) status said) told formats)
