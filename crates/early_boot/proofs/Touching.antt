-- Which blocks a boot may erase or program, and how much nearer an armed loss it comes, by the bytes that its device told at entry.
use Rattle.std.proofs.Common.{◌≡◌, inl, inr, ℕ, Bool, true, false, cond, ◌==◌, Option, Some, None, Ok, Err, sym, ap, subst, ◌∙◌, arith, not, List, refl}
use Rattle.std.specs.Prelude.{Result, slice_index_or}
use Rattle.flash_core.specs.{declared.flash.FlashStop.FlashStop, Touches.TouchesOnly, declared.flash.Arming.Arming}
use Rattle.flash_core.proofs.Touches.{touches_none, touches_then, touches_wider}
use Rattle.fwu_formats.specs.{Metadata.state_at, Metadata.MetaRead, Places.counter_block}
use Rattle.fwu_formats.specs.declared.kinds.BankState.TheVariants.{Invalid}
use Rattle.fwu_model.specs.State.{Numbers}
use Rattle.early_boot.specs.{declared.choosing.Chosen.Chosen, declared.counting_starts.Counting.Counting}
use Rattle.early_boot.specs.{declared.showing.Shown.Shown, Numbers.numbers_shown, Showing.ShowsImage, Tells.started_as}
use Rattle.early_boot.specs.Starting.{TouchesCounting, counting_in, counting_of, mended, TouchesFound, TouchesRepairAndStart, TakesMending, TakesMendingAndStart, TakesRepairAndStart, CountsLater, TakesCounting}
use Rattle.early_boot.specs.Ends.{Ended, booted, no_bank, lost, failed}
use Rattle.early_boot.specs.EndsBy.{TouchesBoot, TouchesStart, TouchesStopped, counting_told, TakesBoot, TakesLoaded, TakesLoadedAndStart, TakesStart}
use Rattle.early_boot.specs.declared.counting_starts.Counting.TheVariants as counting
use Rattle.replicas.specs.{declared.which.Which.Which, Which.form_read_of, Stores.TouchesRepair, Stores.TakesRepair}
use Rattle.replicas.specs.declared.which.Which.TheVariants.{Same, RepairZero, RepairOne}

-- after reads
pub touches-behind : (low high : ℕ) {a b c : ℕ → ℕ} → b ≡ a → TouchesOnly low high b c → TouchesOnly low high a c
touches-behind low high same only = touches_then low high (touches_none low high same) only

-- all of it lies in blocks 1 to 6
counting-within : (k : Counting) (a b : ℕ → ℕ) → TouchesCounting k a b → TouchesOnly 4096 28672 a b
counting-within counting.Nothing a b same = touches_none 4096 28672 same
counting-within counting.Trial a b only = touches_wider 12288 16384 4096 28672 (omega arith) (omega arith) only
counting-within counting.Raise a b (inl first) = touches_wider 20480 24576 4096 28672 (omega arith) (omega arith) first
counting-within counting.Raise a b (inr second) = touches_wider 24576 28672 4096 28672 (omega arith) (omega arith) second

found-within : (result : Result (Option (Shown × Chosen)) FlashStop) (shown : Shown) (a b : ℕ → ℕ) → TouchesFound result shown a b → TouchesOnly 4096 28672 a b
found-within (Ok None) shown a b same = touches_none 4096 28672 same
found-within (Ok (Some start)) shown a b only = counting-within (counting_in shown start.1) a b only
found-within (Err stop) shown a b (inl same) = touches_none 4096 28672 same
found-within (Err stop) shown a b (inr (chosen, only)) = counting-within (counting_in shown chosen) a b only

pub repair-within : (which : Which) (a b : ℕ → ℕ) → TouchesRepair which a b → TouchesOnly 4096 12288 a b
repair-within Same a b same = touches_none 4096 12288 same
repair-within RepairZero a b only = touches_wider 4096 8192 4096 12288 (omega arith) (omega arith) only
repair-within RepairOne a b only = touches_wider 8192 12288 4096 12288 (omega arith) (omega arith) only
repair-within migrates a b only = only

pub boot-within : (result : Result (Option (Shown × Chosen)) FlashStop) (shown : Shown) (a b : ℕ → ℕ) → TouchesRepairAndStart result shown a b → TouchesOnly 4096 28672 a b
boot-within result shown a b all =
    touches_then 4096 28672 (touches_wider 4096 12288 4096 28672 (omega arith) (omega arith) (repair-within shown.which a all.repaired all.repair))
    (found-within result (mended shown) all.repaired b all.start)

-- ---- by the end

-- A choice is counted by the state of the active bank and the counter that the numbers tell, or as nothing.
module _ (shown : Shown) (n : Numbers) (read : n ≡ numbers_shown shown) (old new : ℕ → ℕ) where
  counted-stop : (b : Bool) (v : ℕ) → TouchesCounting (cond b (counting_of (state_at shown.meta.meta shown.meta.meta.active) shown.counter v) counting.Nothing) old new
      → TouchesStopped n old new
  counted-stop true v only =
      inr (v, subst (λ (m : Numbers). TouchesCounting (counting_of (slice_index_or m.states m.active Invalid) m.counter v) old new) (sym read) only)
  counted-stop false v same = inl same

  pub stopped-by-numbers : (stop : FlashStop) → TouchesFound (Err stop) (mended shown) old new → TouchesStopped n old new
  stopped-by-numbers stop (inl same) = inl same
  stopped-by-numbers stop (inr (chosen, only)) = counted-stop (chosen.bank == shown.meta.meta.active) chosen.version only

module _ (shown : Shown) (n : Numbers) (read : n ≡ numbers_shown shown) (form : shown.meta.form ≡ form_read_of shown.which) (old new : ℕ → ℕ) where
  pub stopped-start : (stop : FlashStop) → TouchesRepairAndStart (Err stop) shown old new
      → TouchesStart n (TouchesStopped n) old new
  stopped-start stop all = record {
    which = shown.which;
    version_is = ap (λ (m : Numbers). m.form) read ∙ form;
    repaired = all.repaired;
    repair = all.repair;
    start = stopped-by-numbers shown n read all.repaired new stop all.start;
  }

  -- where no bank was started, the repair alone
  pub none-touches : (active previous : ℕ) → TouchesRepairAndStart (Ok None) shown old new → TouchesBoot (no_bank active previous) old new
  none-touches active previous all = (shown.which, subst (λ (w : ℕ → ℕ). TouchesRepair shown.which old w) (sym all.start) all.repair)

-- ---- the block of the counter's marks

same-at : (b : ℕ) (w v : ℕ → ℕ) → v ≡ w → v b ≡ w b
same-at b w v same = ap (λ (writes : ℕ → ℕ). writes b) same

repair-spares : (which : Which) (w v : ℕ → ℕ) → TouchesRepair which w v → v counter_block ≡ w counter_block
repair-spares Same w v same = same-at counter_block w v same
repair-spares s w v only = only counter_block (inr (omega arith))

counting-spares : (k : Counting) (w v : ℕ → ℕ) → TouchesCounting k w v → v counter_block ≡ w counter_block
counting-spares counting.Nothing w v same = same-at counter_block w v same
counting-spares counting.Trial w v only = only counter_block (inr (omega arith))
counting-spares counting.Raise w v (inl first) = first counter_block (inl (omega arith))
counting-spares counting.Raise w v (inr second) = second counter_block (inl (omega arith))

stopped-spares : (n : Numbers) (w v : ℕ → ℕ) → TouchesStopped n w v → v counter_block ≡ w counter_block
stopped-spares n w v (inl same) = same-at counter_block w v same
stopped-spares n w v (inr (version, only)) = counting-spares _ w v only

start-spares : (n : Numbers) (w v : ℕ → ℕ) → TouchesStart n (TouchesStopped n) w v → v counter_block ≡ w counter_block
start-spares n w v start = stopped-spares n start.repaired v start.start ∙ repair-spares start.which w start.repaired start.repair

pub boot-spares : (e : Ended) (w v : ℕ → ℕ) → TouchesBoot e w v → v counter_block ≡ w counter_block
boot-spares (booted b n) w v start = counting-spares (counting_told b n) start.repaired v start.start ∙ repair-spares start.which w start.repaired start.repair
boot-spares (no_bank active previous) w v (which, repair) = repair-spares which w v repair
boot-spares (lost (Some n)) w v start = start-spares n w v start
boot-spares (failed (Some n)) w v start = start-spares n w v start
boot-spares e w v same = same-at counter_block w v same

-- ---- how much nearer an armed loss

pub none-spent : (shown : Shown) (active previous : ℕ) (armed arming : Option Arming) → TakesRepairAndStart shown None armed arming → TakesBoot (no_bank active previous) armed arming
none-spent shown active previous armed arming takes = (shown.which, subst (λ (left : Option Arming). TakesRepair shown.which armed left) (sym takes.start) takes.repair)

-- ---- what the start is counted as is told by the numbers

swapped : (b : Bool) (x y : Counting) → cond b x y ≡ cond (not b) y x
swapped true x y = refl
swapped false x y = refl

module _ (shown after : Shown) (chosen : Chosen) (n : Numbers) (read : n ≡ numbers_shown shown) (later : CountsLater (mended shown) after) where
  abbrev counted : Counting
  counted = counting_of (state_at shown.meta.meta shown.meta.meta.active) shown.counter chosen.version

  pub counting-is : counting_in (mended shown) chosen ≡ counting_told (started_as after chosen) n
  counting-is =
      swapped (chosen.bank == shown.meta.meta.active) counted counting.Nothing
      ∙ ap (λ (r : MetaRead). cond (not (chosen.bank == r.meta.active)) counting.Nothing counted) (sym later.meta)
      ∙ ap (λ (m : Numbers). counting_told (started_as after chosen) m) (sym read)

  pub start-spent : (armed arming : Option Arming) → shown.meta.form ≡ form_read_of shown.which → TakesRepairAndStart shown (Some (after, chosen)) armed arming → TakesStart (started_as after chosen) n armed arming
  start-spent armed arming form takes = record {
    which = shown.which;
    version_is = ap (λ (m : Numbers). m.form) read ∙ form;
    repaired = takes.repaired;
    repair = takes.repair;
    counting = subst (λ (k : Counting). TakesCounting k takes.repaired arming) counting-is takes.start;
  }

  pub start-touches : (old new : ℕ → ℕ) → shown.meta.form ≡ form_read_of shown.which → TouchesRepairAndStart (Ok (Some (after, chosen))) shown old new
      → TouchesStart n (TouchesCounting (counting_told (started_as after chosen) n)) old new
  start-touches old new form all = record {
    which = shown.which;
    version_is = ap (λ (m : Numbers). m.form) read ∙ form;
    repaired = all.repaired;
    repair = all.repair;
    start = subst (λ (k : Counting). TouchesCounting k all.repaired new) counting-is all.start;
  }

  pub start-takes : (image : List ℕ) (armed arming : Option Arming) → ShowsImage image shown → TakesMendingAndStart shown image (Some (after, chosen)) armed arming
      → TakesLoadedAndStart image (started_as after chosen) n armed arming
  start-takes image armed arming shows takes = record {
    repaired = takes.repaired;
    repair = record {
      layout = shown.layout;
      layout_is = shows.layout_is;
      which = shown.which;
      meta = shown.meta;
      loads = shows.loads;
      takes = takes.repair;
    };
    counting = subst (λ (k : Counting). TakesCounting k takes.repaired arming) counting-is takes.start;
  }

-- where none was started, the repair alone
pub none-takes : (shown : Shown) (image : List ℕ) (armed arming : Option Arming) → ShowsImage image shown → TakesMendingAndStart shown image None armed arming
    → TakesLoaded image armed arming
none-takes shown image armed arming shows takes = record {
  layout = shown.layout;
  layout_is = shows.layout_is;
  which = shown.which;
  meta = shown.meta;
  loads = shows.loads;
  takes = subst (λ (a : Option Arming). TakesMending shown.layout shown.which shown.meta image armed a) (sym takes.start) takes.repair;
}
