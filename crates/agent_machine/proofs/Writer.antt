-- Within an image: what the agent keeps of the handle that writes it, and how many bytes it has.
use Rattle.std.proofs.Common.{◌≡◌, ℕ, ◌<◌, List, length, get_or, set, Option, Some, refl, sym, ap, ◌∙◌, arith, length-set, get_or-set_same}
use Rattle.std.proofs.lemmas.List.FromFn.{length-map-range_with_len}
use Rattle.std.proofs.lemmas.Option.{cond_some}
use Rattle.std.proofs.Math.ListN as listn
use Rattle.sha2.specs.declared.Sha256.{Sha256}
use Rattle.fwu_model.specs.{State.State, Session.On, Session.Staged, Session.no_handles}
use Rattle.fwu_model.specs.Session as machine
use Rattle.agent_kept.specs.{declared.parts.Part.Part, declared.parts.Handle.Handle}
use Rattle.agent_kept.specs.declared.parts.Part.TheVariants.{Nothing, Open, Committed}
use Rattle.agent_kept.specs.declared.parts.Handle.TheVariants.{Free, Reads, Writes}
use Rattle.agent_kept.specs.Kept.{Kept, size_of, part_at, handle_kept, part_meant, handle_meant, parts_meant, staging_meant, handles_meant}
use Rattle.agent_kept.proofs.Meant.{part-meant}
use Rattle.agent_machine.specs.{Moment.Moment, Moment.Shows, Filling.within}

writes-is : (h : Handle) (image : ℕ) → handle_meant h ≡ machine.Writes image → h ≡ Writes image
writes-is Free image e = absurd cc
writes-is (Reads i at total) image e = absurd cc
writes-is (Writes i) image e = let same : i ≡ image = cc in ap Writes same

open-is : (p : Part) (bytes before : List ℕ) → part_meant p bytes ≡ machine.Open before
    → (size : ℕ) × (hasher : Sha256) × (p ≡ Open size hasher) × (bytes ≡ before)
open-is Nothing bytes before e = absurd cc
open-is (Open size hasher) bytes before e = (size, hasher, refl, cc)
open-is (Committed size digest bit) bytes before e = absurd cc

-- a session of these parts and handles
session-is : (boot b : ℕ) (parts : List Staged) (hs : List machine.Handle) (staging : Option (List Staged)) (gs : List machine.Handle)
    → On boot (Some parts) hs ≡ On b staging gs → (Some parts ≡ staging) × (hs ≡ gs)
session-is boot b parts hs staging gs e = (cc, cc)

staged-is : (k : Kept) (bytes : ℕ → List ℕ) (parts : List Staged) → Some parts ≡ staging_meant k bytes → parts ≡ parts_meant k bytes
staged-is k bytes parts e = sym (cond_some k.staging (parts_meant k bytes) parts (sym e)).1

module _ (old : Moment) (s : State) (boot : ℕ) (parts : List Staged) (i : ℕ) (before : List ℕ) (below : i < length parts)
    (shows : Shows old s (within boot parts i before)) where
  abbrev k : Kept
  k = old.fields.session

  abbrev now : List Staged
  now = set parts i (machine.Open before)

  both : (Some now ≡ staging_meant k shows.staged) × (set no_handles 0 (machine.Writes i) ≡ handles_meant k)
  both = session-is boot old.fields.boot now (set no_handles 0 (machine.Writes i)) (staging_meant k shows.staged) (handles_meant k) shows.means

  -- handle 1 writes the image
  pub writer : handle_kept k 0 ≡ Writes i
  writer = writes-is (handle_kept k 0) i
      (sym (listn.get_or-map handle_meant k.handles 0 Free) ∙ ap (λ (hs : List machine.Handle). get_or hs 0 machine.Free) (sym both.1))

  parts-are : now ≡ parts_meant k shows.staged
  parts-are = staged-is k shows.staged now both.0

  there : i < length k.rows
  there = omega (
    arith,
    below,
    length-set parts i (machine.Open before),
    ap (λ (l : List Staged). length l) parts-are,
    length-map-range_with_len (λ (j : ℕ). part_meant (part_at k j) (shows.staged j)) 0 (length k.rows),
  )

  part-is : part_meant (part_at k i) (shows.staged i) ≡ machine.Open before
  part-is = sym (part-meant k shows.staged i there) ∙ ap (λ (l : List Staged). get_or l i machine.Nothing) (sym parts-are)
      ∙ get_or-set_same parts i (machine.Open before) machine.Nothing below

  -- which has so many bytes
  pub written : size_of (part_at k i) ≡ length before
  written =
      let opened = open-is (part_at k i) (shows.staged i) before part-is in
      ap size_of opened.2 ∙ (shows.kept.opened i opened.0 opened.1 there opened.2).0 ∙ ap (λ (l : List ℕ). length l) opened.3
