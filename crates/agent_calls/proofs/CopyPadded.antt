-- Behind an image that a partial begin copied the block that it ends in is blank, where it is so behind each committed one.
use Rattle.std.proofs.Common.{◌≡◌, ℕ, ◌+◌, ◌%◌, ◌<◌, Bool, true, false, cond, not, is_ok, List, length, get_or, Option, Some, None, Result, Ok, Err, refl, sym, ap, subst, ◌∙◌, arith, OnOk, IsTrue}
use Rattle.std.proofs.lemmas.List.{length-map}
use Rattle.std.proofs.lemmas.List.FromFn.{get_or-map-range_with_len}
use Rattle.std.specs.List.{list_any}
use Rattle.base_core.specs.Bytes.{same_bytes}
use Rattle.fwu_formats.specs.{Layout.ImageRow, Layout.Layout, Layout.start, Metadata.MetaRead}
use Rattle.fwu_model.specs.{State.State, Sound.Setting, Reply.Success}
use Rattle.fwu_model.specs.Session.{Session, On, Off, Staged, Handle, Nothing, Committed}
use Rattle.fwu_model.specs.Answer.{answered, are_named, begin_moves, cannot_begin, copied_part, copied_parts, names_unknown, refused}
use Rattle.fwu_model.specs.declared.kinds.Status.TheVariants as status
use Rattle.slot_writer.specs.Slots.{IsBlankAhead}
use Rattle.agent_kept.specs.declared.parts.Part.{Part}
use Rattle.agent_kept.specs.Kept.{Kept, part_at, part_meant, parts_meant, staging_meant, handles_meant}
use Rattle.agent_kept.specs.declared.parts.Part.TheVariants as part
use Rattle.agent_state.proofs.Machine.{part-is}
use Rattle.agent_machine.specs.{declared.stop.Stop.Stop, Meets.flash_result, Moment.Moment, Moment.Shows, Filling.between}
use Rattle.agent_machine.specs.Fields.{target, total_of}
use Rattle.agent_calls.specs.{Copies.BeginsPartly, Metas.meta_begun, Partly.begins_over}
use Rattle.agent_machine.proofs.StoredCalls.{plain-of}
use Rattle.agent_calls.proofs.CopyFilling.{begun-active}

-- behind each committed image
abbrev pub ArePadded : Moment → Type 0
ArePadded m = (image size : ℕ) (digest : List ℕ) (bit : Bool) → image < length m.fields.layout.rows
    → part_at m.fields.session image ≡ part.Committed size digest bit
    → IsBlankAhead (start m.fields.layout (target m.fields) image) size m.told.now

-- the session of an answered partial begin
next-is : (E : Setting) (s : State) (boot : ℕ) (staging : Option (List Staged)) (handles : List Handle) (types : List (List ℕ)) (bytes : ℕ → List ℕ)
    → (begins_over E s (On boot staging handles) types bytes).reply ≡ Success
    → (begins_over E s (On boot staging handles) types bytes).next ≡ between boot (copied_parts (are_named E.layout.rows types) bytes)
next-is E s boot staging handles types bytes is = by (cannot_begin s boot staging) (names_unknown E.layout.rows types) is
  where
    by : (b u : Bool) → let began = between boot (copied_parts (are_named E.layout.rows types) bytes) in
        let a = cond b (refused status.Denied (On boot staging handles))
        (cond u (refused status.Unknown (On boot staging handles)) (answered Success (begin_moves s) began)) in
        a.reply ≡ Success → a.next ≡ began
    by true u h = absurd cc
    by false true h = absurd cc
    by false false h = refl

abbrev staging-of : Session → Option (List Staged)
staging-of Off = None
staging-of (On boot staging handles) = staging

parts-same : (on : Bool) (ps qs : List Staged) → cond on (Some ps) None ≡ Some qs → ps ≡ qs
parts-same true ps qs e = cc
parts-same false ps qs e = absurd cc

copied-at : (named : List Bool) (bytes : ℕ → List ℕ) (i : ℕ) → i < length named → get_or (copied_parts named bytes) i Nothing ≡ copied_part (get_or named i true) (bytes i)
unfolding copied_parts
copied-at named bytes i lt = get_or-map-range_with_len (λ (j : ℕ). copied_part (get_or named j true) (bytes j)) 0 (length named) i i Nothing lt (omega arith)

-- what is committed with these bytes
pub record IsCommitted (p : Part) (own bytes : List ℕ) : Type 0 where
  pub size : ℕ
  pub digest : List ℕ
  pub bit : Bool
  pub is : p ≡ part.Committed size digest bit
  pub same : own ≡ bytes

committed-of : (p : Part) (own bytes : List ℕ) (bit : Bool) → part_meant p own ≡ Committed bytes bit → IsCommitted p own bytes
committed-of part.Nothing own bytes bit e = absurd cc
committed-of (part.Open size hasher) own bytes bit e = absurd cc
committed-of (part.Committed size digest b) own bytes bit e = record { size = size; digest = digest; bit = b; is = refl; same = cc }

pub copied-padded : (old new : Moment) (types : List (List ℕ)) (passes : List ℕ → Bool) (q : Result (Unit {0}) Stop)
    → BeginsPartly types (are_named old.fields.layout.rows types) passes q old new → OnOk q (new.fields.meta ≡ meta_begun old.fields)
    → OnOk q (new.fields.session.rows ≡ new.fields.layout.rows) → (IsTrue old.tells → (s : State) × (x : Session) × Shows old s x) → OnOk q (IsTrue old.tells → ArePadded new)
    → OnOk q (IsTrue old.tells → (image : ℕ) → image < length old.fields.layout.rows → get_or (are_named old.fields.layout.rows types) image true ≡ false
    → IsBlankAhead (start old.fields.layout (target old.fields) image) (total_of old.fields (Some image)) new.told.now)
copied-padded old new types passes (Err e) begins keeps rows some padded = tt
copied-padded old new types passes (Ok u) begins keeps rows some padded = λ tells image lt un.
    let named = are_named old.fields.layout.rows types in
    let w = some tells in
    let E = plain-of old.fields passes in
    let a = begins.exact E w.0 w.1 (record { layout = refl; verifier = refl }) w.2 in
    let k : Kept = new.fields.session in
    let own = a.1.staged in
    let long : length named ≡ length old.fields.layout.rows = length-map old.fields.layout.rows (λ (r : ImageRow). list_any (same_bytes r.guid) types) in
    let here : length k.rows ≡ length old.fields.layout.rows = ap (λ (l : List ImageRow). length l) rows ∙ ap (λ (L : Layout). length L.rows) begins.stays.layout in
    let there : (begins_over E w.0 w.1 types begins.bytes).next ≡ between old.fields.boot (copied_parts named begins.bytes) =
    subst (λ (y : Session). (begins_over E w.0 y types begins.bytes).reply ≡ Success → (begins_over E w.0 y types begins.bytes).next ≡ between old.fields.boot (copied_parts named begins.bytes))
    (sym w.2.means) (next-is E w.0 old.fields.boot (staging_meant old.fields.session w.2.staged) (handles_meant old.fields.session) types begins.bytes) a.0 in
    let parts : parts_meant k own ≡ copied_parts named begins.bytes =
    parts-same k.staging (parts_meant k own) (copied_parts named begins.bytes) (ap staging-of (sym a.1.means ∙ there)) in
    let meant : part_meant (part_at k image) (own image) ≡ Committed (begins.bytes image) true =
    sym (part-is k own image (omega (arith, lt, here))) ∙ ap (λ (ps : List Staged). get_or ps image Nothing) parts
    ∙ copied-at named begins.bytes image (omega (arith, lt, long)) ∙ ap (λ (b : Bool). copied_part b (begins.bytes image)) un in
    let c = committed-of (part_at k image) (own image) (begins.bytes image) true meant in
    let size : c.size ≡ total_of old.fields (Some image) =
    (a.1.kept.committed image c.size c.digest c.bit (omega (arith, lt, here)) c.is).0 ∙ ap (λ (l : List ℕ). length l) c.same
    ∙ begins.count tt image (omega (arith, lt, long)) un in
    let active : new.fields.meta.meta.active ≡ old.fields.meta.meta.active = ap (λ (r : MetaRead). r.meta.active) keeps ∙ begun-active old.fields in
    let first : start new.fields.layout (target new.fields) image ≡ start old.fields.layout (target old.fields) image =
    ap (λ (L : Layout). start L ((new.fields.meta.meta.active + 1) % L.banks) image) begins.stays.layout
    ∙ ap (λ (n : ℕ). start old.fields.layout ((n + 1) % old.fields.layout.banks) image) active in
    subst (λ (n : ℕ). IsBlankAhead (start old.fields.layout (target old.fields) image) n new.told.now) size
    (subst (λ (b : ℕ). IsBlankAhead b c.size new.told.now) first
    (padded tells image c.size c.digest c.bit (omega (arith, lt, ap (λ (L : Layout). length L.rows) begins.stays.layout)) c.is))

-- what holds where a result is an answer
pub on-ok : {A : Type 0} (q : Result (Unit {0}) Stop) → (not (is_ok (flash_result q)) ≡ false → A) → OnOk q A
on-ok (Ok u) holds = holds refl
on-ok (Err e) holds = tt
