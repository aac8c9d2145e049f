-- The metadata after a plan is of the layout that it was of.
use Rattle.std.proofs.Common.{◌≡◌, ℕ, ◌<◌, Bool, true, false, List, [], length, set, map, Some, None, refl, sym, ap, ◌∙◌, subst, arith, length-set, IsTrue}
use Rattle.std.proofs.lemmas.List.{length-map}
use Rattle.fwu_formats.specs.{Layout.Layout, Layout.ImageRow, Metadata.Meta, Metadata.fits_meta}
use Rattle.fwu_formats.specs.declared.kinds.BankState.TheVariants.{Invalid}
use Rattle.fwu_model.specs.declared.kinds.Op.TheVariants as op
use Rattle.fwu_model.specs.State.{Free, Switch, Accept, Back, state_by}
use Rattle.fwu_model.specs.MoveMetas.{bits_in, accepted_bits, meta_after}
use Rattle.meta_layout.proofs.Fits.{MetaFits, meta-fits, row-length, fits-active, fits-previous, fits-state, fits-bits}
use Rattle.agent_kept.specs.{declared.kinds.Plan.Plan, Kept.Kept}
use Rattle.agent_kept.specs.declared.kinds.Plan.TheVariants as plan
use Rattle.agent_state.specs.{Decides.next_bank, Decides.IsMetaOf, Settles.Changes, Settles.bits_kept, Settles.meta_planned}
use Rattle.agent_state.proofs.Collected.{bits-count}

module _ (k : Kept) (m : Meta) (fits : IsMetaOf k m) where
  abbrev L : Layout
  L = record { banks = length m.states; rows = k.rows }

  whole : MetaFits L m
  whole = meta-fits L m fits

  next-below : next_bank m < length m.states
  next-below = let some : 0 < length m.states = omega (arith, whole.active) in omega arith

  -- of this layout, with as many states
  abbrev IsStill : Meta → Type 0
  IsStill n = IsTrue (fits_meta L n) × (length n.states ≡ length m.states)

  still : IsStill m
  still = (fits, refl)

  freed-still : IsStill (meta_after m (Free (next_bank m)))
  freed-still =
      let b : ℕ = next_bank m in
      let bits : List Bool = map (λ (bit : Bool). false) (bits_in m b) in
      let row : length bits ≡ length k.rows = length-map (bits_in m b) (λ (bit : Bool). false) ∙ row-length L m b whole next-below in
      (fits-bits L (record m { states = set m.states b Invalid }) (fits-state L m fits b Invalid) b bits row, length-set m.states b Invalid)

  switched-still : IsStill (meta_after m (Switch (next_bank m) [] (bits_kept k)))
  switched-still =
      let b : ℕ = next_bank m in
      let bits = bits_kept k in
      let one : Meta = record m { previous = m.active } in
      let two : Meta = record one { active = b } in
      let three : Meta = record two { states = set m.states b (state_by bits) } in
      (fits-bits L three (fits-state L two (fits-active L one (fits-previous L m fits m.active whole.active) b next-below) b (state_by bits)) b bits (bits-count k), length-set m.states b (state_by bits))

  accepted-still : (image : ℕ) → IsStill (meta_after m (Accept image))
  accepted-still image =
      let bits = accepted_bits m image in
      let row : length bits ≡ length k.rows = length-set (bits_in m m.active) image true ∙ row-length L m m.active whole whole.active in
      let after = meta_after m (Accept image) in
      (fits-bits L (record m { states = after.states }) (fits-state L m fits m.active _) m.active bits row, length-set m.states m.active _)

  back-still : IsStill (meta_after m Back)
  back-still =
      let one : Meta = record m { previous = m.active } in
      (fits-active L one (fits-previous L m fits m.active whole.active) m.previous whole.previous, refl)

  planned-still : (p : Plan) → IsStill (meta_planned k m p)
  planned-still (plan.Begin true) = freed-still
  planned-still (plan.BeginPartial true named) = freed-still
  planned-still plan.End = switched-still
  planned-still (plan.Accept image true) = accepted-still image
  planned-still plan.Back = back-still
  planned-still other = still

  -- the images stay
  rows-stay : (bytes : List ℕ) (p : Plan) (new : Kept) → Changes k bytes p new → new.rows ≡ k.rows
  rows-stay bytes (plan.Begin store) new c = c.rows
  rows-stay bytes (plan.BeginPartial store named) new c = c.rows
  rows-stay bytes (plan.Open number None op.Write total) new c = absurd c
  rows-stay bytes (plan.Open number (Some image) op.Write total) new c = c.rows
  rows-stay bytes (plan.Write number image at n) new c = c.rest.rows
  rows-stay bytes (plan.Commit number (Some image) bit) new c = c.rows
  rows-stay bytes plan.End new c = c.rows
  rows-stay bytes plan.Cancel new c = c.rows
  rows-stay bytes other new c = ap (λ (x : Kept). x.rows) c

  pub planned-fits : (bytes : List ℕ) (p : Plan) (new : Kept) (n : Meta) → Changes k bytes p new → n ≡ meta_planned k m p → IsMetaOf new n
  planned-fits bytes p new n changes is =
      subst (IsMetaOf new) (sym is)
      (subst (λ (rs : List ImageRow). IsTrue (fits_meta (record { banks = length (meta_planned k m p).states; rows = rs }) (meta_planned k m p))) (sym (rows-stay bytes p new changes))
      (subst (λ (b : ℕ). IsTrue (fits_meta (record { banks = b; rows = k.rows }) (meta_planned k m p))) (sym (planned-still p).1) (planned-still p).0))
