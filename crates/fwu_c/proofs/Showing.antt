-- The banks of what an image shows.
use Rattle.std.proofs.Common.{◌≡◌, ◌∙◌, refl, None, sym, ap, ℕ, ◌*◌, ◌/◌, ◌≤◌, List, length, Ok, Option, Some, arith}
use Rattle.std.specs.Prelude.{◌↔◌, option_map}
use Rattle.std.proofs.lemmas.List.{length-map}
use Rattle.base_core.specs.Block.{block, block_bytes}
use Rattle.meta_layout.proofs.Places.{length-listed}
use Rattle.fwu_formats.specs.{Image.deciding, Image.layout_seen, Metadata.MetaRead, Places.layout_block}
use Rattle.fwu_formats.specs.Layout.{Layout, blocks_needed}
use Rattle.fwu_model.specs.{State.Bank, State.Numbers, State.State, Seen.bank_in, Seen.seen, Seen.state_of}
use Rattle.early_boot.specs.Numbers.{ShowsNumbers}
use Rattle.early_boot.proofs.Lookups.{layout-inside}
use Rattle.fwu_c.specs.{Handed.HasFlashSize, Shows.TellsShown, declared.show.FlashShown.FlashShown}

by_layout : (L : Layout) (image : List ℕ) (read : Option MetaRead) (s : State) → option_map (state_of L image) read ≡ Some s
    → length s.banks ≡ L.banks
by_layout L image None s is = absurd (cc)
by_layout L image (Some r) s is =
    let same : state_of L image r ≡ s = cc in
    ap (λ (t : State). length t.banks) (sym same) ∙ length-listed (bank_in L image r.meta) _ L.banks refl

-- an image shows as many banks as its layout has
pub banks_are : (image : List ℕ) (L : Layout) (n : Numbers) → layout_seen image ≡ Ok L → ShowsNumbers image n
    → length n.states ≡ L.banks
unfolding seen
banks_are image L n layout shows =
    ap (λ (m : Numbers). length m.states) shows.2 ∙ length-map shows.0.banks (λ (k : Bank). k.state)
    ∙ by_layout L image (deciding L image) shows.0 (rw layout at shows.1)

-- and the layout's banks lie in the flash
pub inside : (image : List ℕ) (L : Layout) (blocks : ℕ) → layout_seen image ≡ Ok L → length image ≡ block_bytes * blocks
    → blocks_needed L ≤ blocks
inside image L blocks layout size =
    omega (arith, layout-inside (block layout_block image) (length image / block_bytes) L layout, size)

-- ---- what is told

-- the bytes are those of a flash, and the number isn't 6
pub no_six : (image : List ℕ) (number : ℕ) → HasFlashSize image → (number ≡ 6 → ⊥) → (number ≡ 6) ↔ (HasFlashSize image → ⊥)
no_six image number is other = (λ six. absurd (other six), λ none. absurd (none is))

pub tells_nothing : (image : List ℕ) (number : ℕ) (s : FlashShown) → (number ≡ 6) ↔ (HasFlashSize image → ⊥)
    → TellsShown image number s s
tells_nothing image number s no_flash = record { fault = λ one. refl; fault_stays = λ other. refl; behind = refl; no_flash = no_flash; untouched = λ low. refl }
