-- The entries of a plan can be read of the file, and what is written by them.
use Rattle.std.proofs.Common.{◌≡◌, ◌+◌, ◌^◌, ◌<◌, ◌≤◌, ℕ, List, length, Option, Result, Ok, arith, subst, sym, ◌∙◌}
use Rattle.std.specs.List.{All}
use Rattle.host_io.specs.Contents.{Directory}
use Rattle.fwu_formats.specs.Layout.{Layout, slot_total, blocks_needed, fits_layout}
use Rattle.fwu_formats.specs.Package.{Entry, Toc, toc_of}
use Rattle.fwu_formats.specs.declared.kinds.FipFault.{FipFault}
use Rattle.fip_tables.specs.{Files.Lacks, Files.Tells, Images.AreImages}
use Rattle.image_check.proofs.OfBank.{bank_fits}
use Rattle.fwu_formats.proofs.{SealLaws.limits, Tables.ends-within}
use Rattle.std.specs.Prelude.{IsTrue}
use Rattle.flash_format.specs.Choosing.{IsPlan}
use Rattle.fip_tables.proofs.Chosen.{chosen_have}

pub same_ok : {X F : Type 0} (x y : X) → ◌≡◌ {A = Result X F} (Ok x) (Ok y) → x ≡ y
same_ok x y e = cc

pub plan_from : (told : Option Directory) (name : List ℕ) (L : Layout) (toc : Toc) (entries : List Entry) → AreImages L.rows toc entries → All (λ e. e.offset + e.size < 2 ^ 64) toc.entries
    → ((file : List ℕ) → Tells told name file → toc_of file ≡ Ok toc) → (Lacks told name → ⊥) → IsPlan told name L entries
plan_from told name L toc entries chosen ends is there = record {
  count = chosen.count;
  fit = chosen.fit;
  stored = λ k d below. record {
    ends = chosen_have (λ e. e.offset + e.size < 2 ^ 64) L.rows toc entries chosen ends k d below;
    within = λ file tells. chosen_have (λ e. e.offset + e.size ≤ length file) L.rows toc entries chosen (ends-within file toc (is file tells)) k d below;
    there = there;
  };
  chosen = λ file other tells has. subst (λ (t : Toc). AreImages L.rows t entries) (same_ok {F = FipFault} toc other (sym (is file tells) ∙ has)) chosen;
}

-- bank 0 is one of the layout's
pub bank_within : (L : Layout) → IsTrue (fits_layout L) → 8 + slot_total L.rows ≤ blocks_needed L
bank_within L fits = let few = (limits L fits).fewest_banks in let h = bank_fits 0 L.banks (slot_total L.rows) (blocks_needed L) (omega (arith, few)) (omega arith) in omega (arith, h)
