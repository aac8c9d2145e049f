-- A plan of which nothing is done on the flash: what the agent knows afterwards.
use Rattle.std.proofs.Common.{◌≡◌, inl, inr, ℕ, ◌+◌, ◌-◌, ◌*◌, ◌<◌, ◌≤◌, Bool, true, false, List, [], length, get_or, set, replicate, Option, Some, None, refl, sym, ap, ◌∙◌, subst, arith, IsTrue}
use Rattle.std.proofs.lemmas.Bool.{cases_eq}
use Rattle.flash_core.specs.{Told.Told, May.Quiet}
use Rattle.sha2.specs.declared.Sha256.{Sha256}
use Rattle.fwu_model.specs.declared.kinds.Op.TheVariants as op
use Rattle.fwu_formats.specs.{Layout.start, Layout.slot_bytes, Metadata.Meta, Metadata.MetaRead, Metadata.state_at}
use Rattle.fwu_model.specs.{Session.Staged, Sound.Setting, Seen.state_of}
use Rattle.fwu_model.specs.State.{State, Move, bank, after, is_accepted}
use Rattle.slot_writer.specs.Slots.{IsBlankAhead, done_of}
use Rattle.agent_kept.specs.{declared.parts.Part.Part, declared.parts.Handle.Handle, declared.kinds.Plan.Plan}
use Rattle.agent_kept.specs.declared.parts.Part.TheVariants.{Nothing, Open, Committed}
use Rattle.agent_kept.specs.declared.parts.Handle.TheVariants.{Free, Reads, Writes}
use Rattle.agent_kept.specs.Kept.{Kept, IsKept, HasNothing, OpensPart, IsNewPart, size_of, part_at, part_meant, handle_kept, staging_meant, with_handle}
use Rattle.agent_kept.specs.declared.kinds.Plan.TheVariants as plan
use Rattle.agent_kept.specs.declared.kinds.Decision.TheVariants as decision
use Rattle.agent_kept.proofs.{Sounds.frees, After.open-committed}
use Rattle.agent_state.specs.Settles.{IsPlanOf, Changes, HasTotal, Settles, SettlesBy, meta_planned, staged_after, with_bytes}
use Rattle.agent_machine.specs.{Asks.IsQuietPlan, Machine.state_in, Machine.staged_bytes, Machine.part_bytes, Moment.SpeaksOf}
use Rattle.agent_machine.specs.Fields.{Fields, IsImageOrDirectory, target, total_of, rest_of, with_session}
use Rattle.agent_machine.specs.Knows.{Fitting, SessionSound, HasStaged, Knows, SomeStaged}
use Rattle.agent_machine.specs.Carries.{MeansSame, planned_moves, CarriedOut, MayKeep}
use Rattle.agent_machine.proofs.{Answered.kept-same, Answered.content-total, Showing.some-after, Showing.kept-after}
use Rattle.agent_machine.proofs.Room.{MayStage, ReadsWell, free-well, writer-well, old-readers, set-readers, staged-before, fitting-again, rows-some}
use Rattle.agent_machine.proofs.Stored.{not-both, nothing-means, nothing-staged}
use Rattle.agent_state.proofs.Settled.{with-here, with-there}

-- ---- what changes

-- The handles alone; or nothing is kept of any image, and no handle is open; or an image is opened.
data Change (tells : Bool) (f : Fields) (k : Kept) (bytes : List ℕ) (p : Plan) : Type 0 where
  Handles : (handles : List Handle) → k ≡ record f.session { handles = handles }
      → ((place : ℕ) → ReadsWell f (get_or handles place Free))
      → ((was : ℕ → List ℕ) (i : ℕ) → staged_after p bytes was i ≡ was i) → Change tells f k bytes p
  Restarted : k.rows ≡ f.session.rows → HasNothing k → k.handles ≡ replicate 32 Free → MayStage f k
      → (k.staging ≡ true → IsTrue tells → IsTrue (is_accepted (state_at f.meta.meta f.meta.meta.active)))
      → Change tells f k bytes p
  Opened : (image place : ℕ) → f.session.staging ≡ true → OpensPart f.session image place k
      → ((was : ℕ → List ℕ) (i : ℕ) → staged_after p bytes was i ≡ with_bytes was image [] i) → Change tells f k bytes p

module _ (tells : Bool) (f : Fields) (k : Kept) (bytes : List ℕ) (fitting : Fitting f) where
  handle-set : (p : Plan) (number : ℕ) (h : Handle) → k ≡ with_handle f.session number h → ReadsWell f h
      → ((was : ℕ → List ℕ) (i : ℕ) → staged_after p bytes was i ≡ was i) → Change tells f k bytes p
  handle-set p number h e well staged =
      Handles (set f.session.handles (number - 1) h) e (set-readers f f.session.handles (number - 1) h (old-readers f fitting) well)
      staged

  reader-well : (image : Option ℕ) (at total : ℕ) → (total ≡ total_of f image) × IsImageOrDirectory f image
      → ReadsWell f (Reads image at total)
  reader-well image at total well other place n e =
      let same : image ≡ other = cc in
      let much : total ≡ n = cc in
      subst (λ (o : Option ℕ). (n ≡ total_of f o) × IsImageOrDirectory f o) same (sym much ∙ well.0, well.1)

  change-of : (p : Plan) → IsQuietPlan p → IsPlanOf f.session p → MayKeep tells f p → Changes f.session bytes p k
      → Change tells f k bytes p
  change-of plan.Tell quiet of may e = Handles f.session.handles e (old-readers f fitting) (λ was i. refl)
  change-of (plan.Begin false) quiet of may c = Restarted c.rows c.nothing c.closed (λ on. (may.0, may.1)) (λ on told. may.2 told)
  change-of (plan.Open number None op.Read total) quiet of may e =
      handle-set _ number (Reads None 0 total) e (reader-well None 0 total may) (λ was i. refl)
  change-of (plan.Open number (Some image) op.Read total) quiet of may e =
      handle-set _ number (Reads (Some image) 0 total) e (reader-well (Some image) 0 total may) (λ was i. refl)
  change-of (plan.Open number None op.Write total) quiet of may c = absurd c
  change-of (plan.Open number (Some image) op.Write total) quiet of may c = Opened image (number - 1) of.2 c (λ was i. refl)
  change-of (plan.Read number image at n total) quiet of may e =
      handle-set _ number (Reads image (at + n) total) e
      (reader-well image (at + n) total (old-readers f fitting (number - 1) image at total of.1)) (λ was i. refl)
  change-of (plan.Commit number None bit) quiet of may e = handle-set _ number Free e (free-well f) (λ was i. refl)
  change-of plan.Cancel quiet of may c =
      Restarted c.rows c.nothing c.closed (λ on. absurd (not-both k.staging c.staging_is on))
      (λ on. absurd (not-both k.staging c.staging_is on))
  change-of (plan.Accept image false) quiet of may e = Handles f.session.handles e (old-readers f fitting) (λ was i. refl)
  change-of other quiet of may c = absurd quiet

  -- ---- what the flash has of the staged images then

  module _ (t : Told) (knows : Knows f t) (p : Plan) where
    abbrev g : Fields
    g = with_session f k f.rests

    abbrev was : ℕ → List ℕ
    was = staged_bytes f t.now

    record Still : Type 0 where
      pub means : MeansSame k (staged_after p bytes was) (staged_bytes g t.now)
      pub ahead : (image size : ℕ) (hasher : Sha256) → image < length f.layout.rows → part_at k image ≡ Open size hasher
          → IsBlankAhead (start f.layout (target f) image) (done_of size) t.now
      pub padded : (image size : ℕ) (digest : List ℕ) (bit : Bool) → image < length f.layout.rows
          → part_at k image ≡ Committed size digest bit
          → IsBlankAhead (start f.layout (target f) image) size t.now
      pub sure : (image size : ℕ) (digest : List ℕ) (bit : Bool) → image < length f.layout.rows
          → part_at k image ≡ Committed size digest bit
          → Quiet (4096 * start f.layout (target f) image) (4096 * start f.layout (target f) image + slot_bytes f.layout image) t

    empty-still : HasNothing k → Still
    empty-still nothing =
        let means : MeansSame k (staged_after p bytes was) (staged_bytes g t.now) =
        nothing-means k _ (staged_bytes g t.now) nothing in
        let has : HasStaged g t = nothing-staged g t nothing in
        assumption

    -- the same is kept of each image
    same-still : ((i : ℕ) → part_at k i ≡ part_at f.session i) → ((i : ℕ) → staged_after p bytes was i ≡ was i) → Still
    same-still same staged = record {
      means = λ i lt. ap (part_meant (part_at k i))
          (ap (λ (q : Part). part_bytes (start f.layout (target f) i) q (rest_of f i) t.now) (same i) ∙ sym (staged i));
      ahead = λ i size hasher lt is. knows.staged.ahead i size hasher lt (sym (same i) ∙ is);
      padded = λ i size digest bit lt is. knows.staged.padded i size digest bit lt (sym (same i) ∙ is);
      sure = λ i size digest bit lt is. knows.staged.sure i size digest bit lt (sym (same i) ∙ is);
    }

    -- an image is opened
    new-is : (q : Part) → IsNewPart q → (hasher : Sha256) × (q ≡ Open 0 hasher)
    new-is Nothing it = absurd it
    new-is (Open size hasher) it = (hasher, ap (λ (n : ℕ). Open n hasher) it.0)
    new-is (Committed size digest bit) it = absurd it

    module _ (image place : ℕ) (opens : OpensPart f.session image place k) where
      opened : (i : ℕ) → i ≡ image → part_at k i ≡ Open 0 (new-is (part_at k image) opens.part).0
      opened i same = ap (part_at k) same ∙ (new-is (part_at k image) opens.part).1

      committed-before : (i size : ℕ) (digest : List ℕ) (bit : Bool) → part_at k i ≡ Committed size digest bit
          → part_at f.session i ≡ Committed size digest bit
      committed-before i size digest bit is = elim (cases_eq i image) [
        | inl same ↦ absurd (open-committed 0 size _ digest bit (sym (opened i same) ∙ is))
        | inr ne ↦ sym (opens.others i ne) ∙ is
      ]

      bytes-after : (i : ℕ) → staged_bytes g t.now i ≡ with_bytes was image [] i
      bytes-after i = elim (cases_eq i image) [
        | inl same ↦ ap (λ (q : Part). part_bytes (start f.layout (target f) i) q (rest_of f i) t.now) (opened i same)
            ∙ sym (with-here was image []) ∙ ap (with_bytes was image []) (sym same)
        | inr ne ↦ ap (λ (q : Part). part_bytes (start f.layout (target f) i) q (rest_of f i) t.now) (opens.others i ne)
            ∙ sym (with-there was image [] i ne)
      ]

      open-still : ((i : ℕ) → staged_after p bytes was i ≡ with_bytes was image [] i) → Still
      open-still staged = record {
        means = λ i lt. ap (part_meant (part_at k i)) (bytes-after i ∙ sym (staged i));
        ahead = λ i size hasher lt is. elim (cases_eq i image) [
          | inl same ↦ λ at above below. let none : 0 ≡ size = ap size_of (sym (opened i same) ∙ is) in
              absurd (omega (arith, none, above, below))
          | inr ne ↦ knows.staged.ahead i size hasher lt (sym (opens.others i ne) ∙ is)
        ];
        padded = λ i size digest bit lt is. knows.staged.padded i size digest bit lt (committed-before i size digest bit is);
        sure = λ i size digest bit lt is. knows.staged.sure i size digest bit lt (committed-before i size digest bit is);
      }

    still : Change tells f k bytes p → Still
    still (Handles handles e readers staged) = same-still (λ i. ap (λ (x : Kept). part_at x i) e) (staged was)
    still (Restarted rows nothing closed may accepted) = empty-still nothing
    still (Opened image place on opens staged) = open-still image place opens (staged was)

    -- what an agent with another session knows of the same flash
    quiet-known : Change tells f k bytes p → 1 ≤ length k.rows → IsKept k (staged_after p bytes was)
        → (k.staging ≡ true → IsTrue (is_accepted (state_at f.meta.meta f.meta.meta.active))) → Knows g t
    quiet-known change some kept accepted =
        let it : Still = still change in
        let kept-now : IsKept k (staged_bytes g t.now) =
        kept-same k (staged_after p bytes was) (staged_bytes g t.now) some it.means kept in
        assumption

  -- ---- the fields after such a plan

  closed-readers : k.handles ≡ replicate 32 Free → (place : ℕ) → ReadsWell f (handle_kept k place)
  closed-readers closed place = subst (ReadsWell f) (sym (ap (λ (hs : List Handle). get_or hs place Free) closed ∙ frees 32 place)) (free-well f)

  -- what is staged may be, what is kept is kept in a staging alone, and the readers have their totals
  quiet-fitting : (p : Plan) → Change tells f k bytes p → Fitting (with_session f k f.rests)
  quiet-fitting p (Handles handles e readers staged) =
      subst (λ (x : Kept). Fitting (with_session f x f.rests)) (sym e)
      (fitting-again f (record f.session { handles = handles }) f.rests fitting refl (staged-before f f.session fitting refl)
      fitting.idle fitting.rests readers)
  quiet-fitting p (Restarted rows nothing closed may accepted) =
      fitting-again f k f.rests fitting rows may (λ off. nothing) fitting.rests (closed-readers closed)
  quiet-fitting p (Opened image place on opens staged) =
      fitting-again f k f.rests fitting opens.rows (staged-before f k fitting opens.staging)
      (λ off. absurd (not-both k.staging off (opens.staging ∙ on)))
      fitting.rests (λ at. subst (λ (hs : List Handle). ReadsWell f (get_or hs at Free)) (sym opens.handles)
      (set-readers f f.session.handles place (Writes image) (old-readers f fitting) (writer-well f image) at))

  -- where a package is staged afterwards, the active bank is accepted
  quiet-accepted : (p : Plan) → Change tells f k bytes p → IsTrue tells
      → (f.session.staging ≡ true → IsTrue (is_accepted (state_at f.meta.meta f.meta.meta.active)))
      → k.staging ≡ true → IsTrue (is_accepted (state_at f.meta.meta f.meta.meta.active))
  quiet-accepted p (Handles handles e readers staged) told was is = was (sym (ap (λ (x : Kept). x.staging) e) ∙ is)
  quiet-accepted p (Restarted rows nothing closed may accepted) told was is = accepted is told
  quiet-accepted p (Opened image place on opens staged) told was is = was on

-- ---- such a plan is carried out as what is kept is settled

pub quiet-meta : (k : Kept) (m : Meta) (p : Plan) → IsQuietPlan p → meta_planned k m p ≡ m
quiet-meta k m (plan.BeginPartial store named) quiet = absurd quiet
quiet-meta k m (plan.Begin true) quiet = absurd quiet
quiet-meta k m (plan.Write number image at n) quiet = absurd quiet
quiet-meta k m plan.End quiet = absurd quiet
quiet-meta k m (plan.Accept image true) quiet = absurd quiet
quiet-meta k m plan.Back quiet = absurd quiet
quiet-meta k m s quiet = refl

pub quiet-moves : (s : State) (stg : Option (List Staged)) (p : Plan) → IsQuietPlan p → planned_moves s stg p ≡ []
quiet-moves s stg (plan.BeginPartial store named) quiet = absurd quiet
quiet-moves s stg (plan.Begin true) quiet = absurd quiet
quiet-moves s stg (plan.Write number image at n) quiet = absurd quiet
quiet-moves s stg plan.End quiet = absurd quiet
quiet-moves s stg (plan.Accept image true) quiet = absurd quiet
quiet-moves s stg plan.Back quiet = absurd quiet
quiet-moves s stg q quiet = refl

-- what is opened for reading has its total
pub keeps-total : (tells : Bool) (f : Fields) → Fitting f → (p : Plan) → MayKeep tells f p → (E : Setting) (s : State) → E.layout ≡ f.layout → SpeaksOf f s
    → HasTotal E s f.boot p
keeps-total tells f fitting (plan.Open number image op.Read total) may E s same speaks = may.0
    ∙ sym (content-total f E s fitting.layout same speaks image may.1)
keeps-total tells f fitting q may E s same speaks = tt

-- settling such a plan is as it says
quiet-settles : (k : Kept) (m : MetaRead) (bytes : List ℕ) (p : Plan) (new_meta : MetaRead) (new : Kept) → IsQuietPlan p
    → SettlesBy k m bytes (decision.Do p) new_meta new → Settles k m bytes p new_meta new
quiet-settles k m bytes (plan.BeginPartial store named) new_meta new quiet settles = absurd quiet
quiet-settles k m bytes other new_meta new quiet settles = settles

module _ (tells : Bool) (t : Told) (f : Fields) (k : Kept) (new_meta : MetaRead) (bytes : List ℕ) (p : Plan) (fitting : Fitting f) (sound : SessionSound f)
    (knows : IsTrue tells → Knows f t) (quiet : IsQuietPlan p) (of : IsPlanOf f.session p) (may : MayKeep tells f p)
    (changes : Changes f.session bytes p k) (meta : new_meta ≡ record f.meta { meta = meta_planned f.session f.meta.meta p })
    (settled : SettlesBy f.session f.meta bytes (decision.Do p) new_meta k) where
  change : Change tells f k bytes p
  change = change-of tells f k bytes fitting p quiet of may changes

  settles : Settles f.session f.meta bytes p new_meta k
  settles = quiet-settles f.session f.meta bytes p new_meta k quiet settled

  abbrev after_it : Fields
  after_it = record (with_session f k f.rests) { meta = new_meta }

  same-meta : new_meta ≡ f.meta
  same-meta = meta ∙ ap (λ (m : Meta). record f.meta { meta = m }) (quiet-meta f.session f.meta.meta p quiet)

  -- by the metadata as it was
  with-meta : (P : Fields → Type 0) → P (with_session f k f.rests) → P after_it
  with-meta P h = subst (λ (m : MetaRead). P (record (with_session f k f.rests) { meta = m })) (sym same-meta) h

  pub keeps-fitting : Fitting after_it
  keeps-fitting = with-meta Fitting (quiet-fitting tells f k bytes fitting p change)

  pub keeps-known : IsTrue tells → Knows after_it t
  keeps-known told =
      let it = knows told in
      with-meta (λ (g : Fields). Knows g t)
      (quiet-known tells f k bytes fitting t it p change
      (rows-some (with_session f k f.rests) (quiet-fitting tells f k bytes fitting p change))
      (kept-after f fitting sound bytes p new_meta k settles (keeps-total tells f fitting p may) t it)
      (quiet-accepted tells f k bytes fitting p change told it.accepted))

  pub keeps-some : ∥ SomeStaged f.session ∥₁ → ∥ SomeStaged k ∥₁
  keeps-some some = some-after f fitting sound bytes p new_meta k settles (keeps-total tells f fitting p may) some

  pub quiet-carried : {old_writes new_writes : ℕ → ℕ} → CarriedOut p bytes (record { tells = tells; told = t; writes = old_writes; fields = f })
      (record { tells = tells; told = t; writes = new_writes; fields = after_it })
  quiet-carried = record {
    tells = refl;
    beside = record { layout = refl; boot = refl; counter = refl; lengths = refl; form = ap (λ (r : MetaRead). r.form) same-meta };
    settles = settles;
    total = keeps-total tells f fitting p may;
    trials = λ s staged speaks kept. speaks.trials_are ∙ sym
        (ap (λ (ms : List Move). (after s ms).trials) (quiet-moves s (staging_meant f.session staged) p quiet));
    held = λ s staged speaks kept. ap (λ (ms : List Move). (bank (after s ms) f.boot).held) (quiet-moves s (staging_meant f.session staged) p quiet);
    state_is = λ told. ap (state_of f.layout t.now) same-meta
        ∙ sym (ap (after (state_in f t.now)) (quiet-moves (state_in f t.now) (staging_meant f.session (staged_bytes f t.now)) p quiet));
    staged_are = λ told. with-meta (λ (g : Fields). MeansSame k (staged_after p bytes (staged_bytes f t.now)) (staged_bytes g t.now))
        (still tells f k bytes fitting t (knows told) p change).means;
  }
