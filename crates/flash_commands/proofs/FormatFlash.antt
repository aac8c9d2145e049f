-- What `show` and `format` do, and the line of a format.
use Rattle.std.proofs.Common.{◌≡◌, ℕ, ◌+◌, ◌≤◌, arith, List, Option, None, Ok, Err, Result, refl, sym, ap, subst, ◌∙◌, inl, inr, ◌⊎◌, ◌∷◌, ◌++◌, length, decimal, append_assoc, []}
use Rattle.flash_core.specs.{Told.Told, Told.fresh, May.Leaves, declared.flash.Arming.Arming}
use Rattle.flash_core.specs.{declared.flash.Counts.Counts, declared.flash.FlashStop.FlashStop}
use Rattle.flash_core.specs.Counts.{Idles, ReachesNone, Spends, all_stops, arming_kept, stops_in}
use Rattle.flash_core.specs.declared.flash.FlashStop.TheVariants as flash_stop
use Rattle.fwu_model.specs.declared.kinds.Note.TheVariants as note
use Rattle.script_turns.specs.Turning.{NoneFalls}
use Rattle.script_turns.proofs.RunTurns.{rose-before}
pub use Rattle.flash_core.proofs.OneCall.{sure_settled as clean-sure}
pub use Rattle.script_runs.proofs.TableOpens.{woken-same as wakes-clean}
use Rattle.fwu_model.specs.{declared.kinds.Note.Note, declared.kinds.NoBoot.NoBoot, Text.format_line}
use Rattle.script_runs.specs.ByTable.{Wakes, StopHasCause}
use Rattle.std.specs.Prelude.{IsTrue, is_ok, codes}
use Rattle.flash_format.specs.{Stops.flash_result, declared.formatting.Formatted.Formatted, declared.stops.FormatStop.FormatStop}
use Rattle.flash_format.specs.declared.stops.FormatStop.TheVariants.{Input, ReadFailed, Flash}
use Rattle.host_io.specs.Printed.{Prints}
use Rattle.fwu_formats.specs.Layout.{Layout, blocks_needed}
use Rattle.flash_commands.specs.Showing as show
use Rattle.flash_commands.specs.Showing.{ShowFinds, ShowsNone, not_shown_line}
use Rattle.flash_commands.specs.Formatting.{format_status}

-- ---- the command `show`: a clean flash is read as it is

-- a power-on guards the same blocks
pub power-on-guards : (old new : Told) → new ≡ fresh old.guard new.now → new.guard ≡ old.guard
unfolding fresh
power-on-guards old new is = ap (λ (t : Told). t.guard) is

pub wakes-guard : {old new : Told} → Wakes old new → new.guard ≡ old.guard
wakes-guard {old = old} {new = new} wakes = power-on-guards old new wakes.fresh_is

-- where no loss is armed, none is after a call that arms none
pub kept-none : {T : Type 0} (result : Result T FlashStop) (old new : Option Arming) → old ≡ None → new ≡ arming_kept result old → new ≡ None
kept-none result old new none is = is ∙ ap (arming_kept result) none ∙ still result
  where
    still : {T : Type 0} (r : Result T FlashStop) → arming_kept r None ≡ None
    still (Ok x) = refl
    still (Err flash_stop.Lost) = refl
    still (Err flash_stop.Failed) = refl

-- power comes back, and then calls are made
pub none-falls : {T : Type 0} (result : Result T FlashStop) (before mid after : Counts) → Idles before mid → Spends result mid after → NoneFalls before after
none-falls result before mid after idle spends = record {
  faults = omega (arith, idle.faults, spends.faults);
  cuts = omega (arith, idle.cuts, spends.cuts);
  reached = omega (arith, idle.reached, spends.reached);
  chances = omega (arith, idle.chances, spends.chances);
}

pub stops-then : {T : Type 0} (result : Result T FlashStop) (before mid after : Counts) → Idles before mid → Spends result mid after → all_stops after ≤ all_stops before + stops_in result
stops-then result before mid after idle spends = omega (arith, idle.faults, idle.cuts, idle.reached, spends.once)

-- power comes back, and then the flash stops a call that reaches no armed loss
pub has-cause : (stop : FlashStop) (before mid after : Counts) → Idles before mid → Spends {T = Unit {0}} (Err stop) mid after → ReachesNone {T = Unit {0}} (Err stop) mid after → StopHasCause before after
has-cause flash_stop.Lost before mid after idle spends reaches = inr (rose-before before.cuts mid.cuts after.cuts (omega (arith, idle.cuts)) (reaches.lost refl))
has-cause flash_stop.Failed before mid after idle spends reaches = inl (rose-before before.faults mid.faults after.faults (omega (arith, idle.faults)) (spends.failed refl))

pub not-found : {known : Type 0} {image : List ℕ} {before after : Counts} {status : ℕ} {noted : Note} {line : List ℕ} (why : NoBoot)
    → status ≡ 6 → noted ≡ note.Boot why → line ≡ not_shown_line why → (known → ShowsNone image why) → ShowFinds known image before after status noted line
not-found {known = known} {image = image} {before = before} {after = after} {noted = noted} {line = line} why s n l none =
    subst (λ (x : ℕ). ShowFinds known image before after x noted line) (sym s)
    (subst (λ (x : Note). ShowFinds known image before after 6 x line) (sym n)
    (subst (λ (x : List ℕ). ShowFinds known image before after 6 (note.Boot why) x) (sym l) (show.none why none)))

-- power comes back, and what is there is read
pub wakes-on : {old mid new : Told} → new ≡ mid → mid ≡ fresh old.guard mid.now → Leaves old mid.now → Wakes old new
wakes-on {old = old} same is leaves = subst (λ (t : Told). Wakes old t) (sym same) (record { fresh_is = is; leaves = leaves })

-- ---- the command `format`: a stop of the flash has its cause, after the power came

pub stop-cause : (r : Result Formatted FormatStop) (stop : FlashStop) (before mid after : Counts) → r ≡ Err (Flash stop) → Idles before mid → Spends (flash_result r) mid after → ReachesNone (flash_result r) mid after
    → StopHasCause before after
stop-cause r stop before mid after is idle spends reaches =
    has-cause stop before mid after idle
    (subst (λ (x : Result Formatted FormatStop). Spends (flash_result x) mid after) is spends)
    (subst (λ (x : Result Formatted FormatStop). ReachesNone (flash_result x) mid after) is reaches)

pub as-planned : (piece other : List ℕ) (planned plan status : ℕ) (old new : Option (List ℕ)) (faults_before faults_after : ℕ) → other ≡ piece → plan ≡ planned → Prints other plan status old new faults_before faults_after → Prints piece planned status old new faults_before faults_after
as-planned piece other planned plan status old new faults_before faults_after same is p =
    subst (λ (n : ℕ). Prints piece n status old new faults_before faults_after) is (subst (λ (l : List ℕ). Prints l plan status old new faults_before faults_after) same p)

-- where the flash is as the power left it, nothing was erased or programmed
pub unwritten-by : {D A B : Type 0} (writes : D → ℕ → ℕ) (old mid new : D) → writes mid ≡ writes old → (A → new ≡ mid) → (B → new ≡ mid) → A ⊎ B → writes new ≡ writes old
unwritten-by writes old mid new power first second (inl a) = ap writes (first a) ∙ power
unwritten-by writes old mid new power first second (inr b) = ap writes (second b) ∙ power

-- what was formatted was stopped by no flash
pub format-done : (r : Result Formatted FormatStop) → format_status r ≡ 0 → IsTrue (is_ok (flash_result r))
format-done (Ok done) zero = refl
format-done (Err (Input f)) zero = refl
format-done (Err ReadFailed) zero = refl
format-done (Err (Flash stop)) zero = cc

-- ---- the line of a flash that was formatted, from its pieces

-- four pairs and an end
flat : (a b c d e f g h n : List ℕ) → a ++ b ++ c ++ d ++ e ++ f ++ g ++ h ++ n ≡ (a ++ b) ++ ((c ++ d) ++ ((e ++ f) ++ ((g ++ h) ++ n)))
flat a b c d e f g h n =
    ap (λ (l : List ℕ). l ++ e ++ f ++ g ++ h ++ n) (append_assoc (a ++ b) c d)
    ∙ ap (λ (l : List ℕ). l ++ g ++ h ++ n) (append_assoc ((a ++ b) ++ (c ++ d)) e f)
    ∙ ap (λ (l : List ℕ). l ++ n) (append_assoc ((a ++ b) ++ (c ++ d) ++ (e ++ f)) g h)
    ∙ append_assoc ((a ++ b) ++ (c ++ d) ++ (e ++ f)) (g ++ h) n
    ∙ append_assoc ((a ++ b) ++ (c ++ d)) (e ++ f) ((g ++ h) ++ n)
    ∙ append_assoc (a ++ b) (c ++ d) ((e ++ f) ++ ((g ++ h) ++ n))

-- from the images on
abbrev images-on : Layout → ℕ → List ℕ
images-on L version = codes " images=" ++ decimal (length L.rows) ++ (codes " blocks=" ++ decimal (blocks_needed L) ++ (codes " version=" ++ decimal version ++ 10 ∷ []))

pub format-whole : (old mid new : List ℕ) (L : Layout) (version banks : ℕ) → banks ≡ L.banks → mid ≡ old ++ (codes "format banks=" ++ decimal banks) → new ≡ mid ++ images-on L version → new ≡ old ++ format_line L version
unfolding format_line
format-whole old mid new L version banks same front rest =
    rest ∙ ap (λ (l : List ℕ). l ++ images-on L version) front ∙ append_assoc old (codes "format banks=" ++ decimal banks) (images-on L version)
    ∙ ap (λ (l : List ℕ). old ++ l)
    (ap (λ (n : ℕ). (codes "format banks=" ++ decimal n) ++ images-on L version) same
    ∙ sym (flat (codes "format banks=") (decimal L.banks) (codes " images=") (decimal (length L.rows)) (codes " blocks=") (decimal (blocks_needed L)) (codes " version=") (decimal version) (10 ∷ [])))
