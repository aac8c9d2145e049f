-- A read: what it says, and what it leaves.
use Rattle.std.proofs.Common.{◌≡◌, inl, ℕ, ◌+◌, ◌≤◌, Bool, List, [], ◌++◌, length, take, drop, Option, Result, Ok, Err, refl, sym, ◌-◌, ap, ◌∙◌, subst, arith, IsTrue}
use Rattle.std.proofs.lemmas.List.{length-take-le, take_at, length-take, length-drop}
use Rattle.flash_core.specs.{declared.flash.FlashStop.FlashStop, Told.Told}
use Rattle.flash_core.specs.declared.flash.FlashStop.TheVariants as flash_stop
use Rattle.fwu_model.specs.{declared.kinds.Status.Status, Sound.Setting, Reply.Reply, Answer.content, State.State}
use Rattle.fwu_model.specs.Session.{Session, Staged, Handle}
use Rattle.agent_kept.specs.{declared.kinds.Plan.Plan, declared.kinds.Request.Request, Kept.staging_meant, Kept.handles_meant}
use Rattle.agent_kept.specs.Plans.{call_of, planned, planned_in}
use Rattle.agent_kept.specs.declared.kinds.Plan.TheVariants as plan
use Rattle.agent_kept.specs.declared.kinds.Request.TheVariants as request
use Rattle.agent_kept.specs.declared.kinds.Decision.TheVariants as decision
use Rattle.agent_state.specs.{Decides.DecidesRequest, Settles.IsPlanOf}
use Rattle.agent_machine.specs.declared.stop.Stop.TheVariants as stop
use Rattle.agent_machine.specs.{Carries.CarriedOut, Directory.piece_of, Knows.Fitting, Knows.SessionSound, Knows.Knows}
use Rattle.agent_machine.specs.{Moment.Moment, Moment.Shows, Meets.IsGot, Meets.LeavesFlash, Meets.Meets, Meets.Stays}
use Rattle.agent_machine.specs.Fields.{Fields, total_of, IsImageOrDirectory}
use Rattle.agent_machine.proofs.{Room.old-readers, Reading.piece-is}
use Rattle.agent_machine.proofs.Answered.{FitsEach, shown-totals, refused-meets, done-meets, stopped-meets, moves-told, still-leaves, content-total}
use Rattle.fwu_model.specs.Reply as reply

-- what is told counts where it is told alone
pub carried-from : (p : Plan) (bytes : List ℕ) (tells : Bool) (s t : Told) {old_writes new_writes : ℕ → ℕ} (f g : Fields) (new : Moment) → g ≡ f
    → (IsTrue tells → t ≡ s)
    → CarriedOut p bytes (record { tells = tells; told = t; writes = new_writes; fields = g }) new
    → CarriedOut p bytes (record { tells = tells; told = s; writes = old_writes; fields = f }) new
carried-from p bytes tells s t {old_writes = old_writes} {new_writes = new_writes} f g new fields told out =
    let here : CarriedOut p bytes (record { tells = tells; told = t; writes = new_writes; fields = f }) new = subst
    (λ (x : Fields). CarriedOut p bytes (record { tells = tells; told = t; writes = new_writes; fields = x }) new) fields out in
    let at : IsTrue tells → CarriedOut p bytes (record { tells = tells; told = s; writes = new_writes; fields = f }) new =
    λ is. subst
    (λ (x : Told). CarriedOut p bytes (record { tells = tells; told = x; writes = new_writes; fields = f }) new) (told is) here in
    record {
      tells = here.tells;
      beside = here.beside;
      settles = here.settles;
      total = here.total;
      trials = here.trials;
      held = here.held;
      state_is = λ is. (at is).state_is is;
      staged_are = λ is. (at is).staged_are is;
    }

-- a piece of so many bytes was filled at the front of the buffer
pub filled : (out piece all : List ℕ) (n : ℕ) (bytes : ℕ → List ℕ) → n ≤ length out → length piece ≡ length (take n out) → all ≡ piece ++ drop n out
    → piece ≡ bytes (length (take n out)) → take n all ≡ bytes n
filled out piece all n bytes fits long is read =
    let asked : length (take n out) ≡ n = length-take-le n out fits in
    ap (take n) is ∙ take_at piece (drop n out) n (long ∙ asked) ∙ read ∙ ap bytes asked

-- ---- what a read says

read-reply : (E : Setting) (s : State) (boot : ℕ) (stg : Option (List Staged)) (hs : List Handle) (bytes : List ℕ) (h : ℕ) (image : Option ℕ) (at n total : ℕ)
    → (planned E s boot stg hs bytes (plan.Read h image at n total)).reply ≡ reply.Got total (take n (drop at (content E s boot image)))
unfolding planned
read-reply E s boot stg hs bytes h image at n total = refl

module _ (m : Moment) (fitting : Fitting m.fields) (number : ℕ) (image : Option ℕ) (at n total : ℕ)
    (of : IsPlanOf m.fields.session (plan.Read number image at n total)) where
  -- what is read is there
  read-there : IsImageOrDirectory m.fields image
  read-there = (old-readers m.fields fitting (number - 1) image at total of.1).1

  read-total : total ≡ total_of m.fields image
  read-total = (old-readers m.fields fitting (number - 1) image at total of.1).0

  pub read-inside : at + n ≤ total_of m.fields image
  read-inside = omega (arith, read-total, of.2)

  -- all of the piece is there
  piece-long : (E : Setting) (s : State) (x : Session) → E.layout ≡ m.fields.layout → Shows m s x → length (take n (drop at (content E s m.fields.boot image))) ≡ n
  piece-long E s x same shows =
      let all = content E s m.fields.boot image in
      let long : length all ≡ total_of m.fields image = content-total m.fields E s fitting.layout same shows.speaks image read-there in
      length-take n (drop at all) ∙ omega (arith, length-drop at all, long, read-total, of.2)

  read-says : (knows : IsTrue m.tells → Knows m.fields m.told) (E : Setting) (s : State) (x : Session) → E.layout ≡ m.fields.layout → Shows m s x → (out : List ℕ)
      → (IsTrue m.tells → take n out ≡ piece_of m.fields.layout m.fields.meta.meta m.fields.boot m.fields.lengths m.told.now image at n)
      → IsGot m.tells out (n, total) (planned_in E s x [] (plan.Read number image at n total)).reply
  read-says knows E s x same shows out read =
      let got = read-reply E s m.fields.boot (staging_meant m.fields.session shows.staged) (handles_meant m.fields.session) [] number image at n total in
      subst (λ (y : Session). IsGot m.tells out (n, total) (planned_in E s y [] (plan.Read number image at n total)).reply) (sym shows.means) (
        λ tells. got ∙ ap (reply.Got total) (
            ap (λ (y : State). take n (drop at (content E y m.fields.boot image))) (shows.told tells).0
            ∙ piece-is E m.fields m.told image at n same fitting (knows tells) read-there (omega (arith, of.2, read-total)) ∙ sym (read tells)),
        (take n (drop at (content E s m.fields.boot image)), got, piece-long E s x same shows),
      )

-- ---- what it leaves

module _ (old : Moment) (fitting : Fitting old.fields) (sound : SessionSound old.fields) (knows : IsTrue old.tells → Knows old.fields old.told)
    (h room : ℕ) where
  abbrev f : Fields
  f = old.fields

  abbrev asked : Request
  asked = request.Read h room

  -- the handle has the total of what it reads
  reader-fits : (passes : List ℕ → Bool) → FitsEach f passes asked []
  reader-fits passes = λ E s setting speaks image at total is.
      (shown-totals f fitting sound E s setting.layout speaks).total (h - 1) image at total is

  pub read-refused : (Says : ℕ × ℕ → Reply → Type 0) (st : Status) → ((passes : List ℕ → Bool)
      → DecidesRequest passes f.meta f.counter f.session f.boot asked (decision.Refused st)) → (passes : List ℕ → Bool)
      → Meets {T = ℕ × ℕ} Says (Err (stop.Status st)) passes (call_of asked []) old old
  read-refused Says st decides passes = refused-meets old fitting sound passes asked [] (reader-fits passes) st (decides passes) Says

  module _ (p : Plan) (decides : (passes : List ℕ → Bool) → DecidesRequest passes f.meta f.counter f.session f.boot asked (decision.Do p)) (number : ℕ)
      (image : Option ℕ) (at n total : ℕ) (is : p ≡ plan.Read number image at n total) (of-it : IsPlanOf f.session p) where
    abbrev own : Plan
    own = plan.Read number image at n total

    of : IsPlanOf f.session own
    of = subst (IsPlanOf f.session) is of-it

    reads : (passes : List ℕ → Bool) → DecidesRequest passes f.meta f.counter f.session f.boot asked (decision.Do own)
    reads passes = subst (λ (q : Plan). DecidesRequest passes f.meta f.counter f.session f.boot asked (decision.Do q)) is (decides passes)

    module _ (new : Moment) (told : IsTrue old.tells → new.told ≡ old.told) (still : new.writes ≡ old.writes) (passes : List ℕ → Bool) where
      leaves : (result : Result (Unit {0}) FlashStop) → Stays old new → LeavesFlash result passes (call_of asked []) old new
      leaves result stays = still-leaves result passes (call_of asked []) old new told still stays (λ E s x setting shows tells.
          inl (moves-told old new fitting sound knows passes asked [] (reader-fits passes) own (reads passes) E s x setting shows
          tells))

      pub read-lost : (Says : ℕ × ℕ → Reply → Type 0) → Stays old new → Meets {T = ℕ × ℕ} Says (Err stop.Lost) passes (call_of asked []) old new
      read-lost Says stays =
          stopped-meets Says stop.Lost passes (call_of asked []) old new tt (leaves (Err flash_stop.Lost) stays)

      pub read-faulty : (Says : ℕ × ℕ → Reply → Type 0) → Stays old new → Meets {T = ℕ × ℕ} Says (Err stop.Fault) passes (call_of asked []) old new
      read-faulty Says stays =
          stopped-meets Says stop.Fault passes (call_of asked []) old new tt (leaves (Err flash_stop.Failed) stays)

      pub read-meets : (out : List ℕ) → (IsTrue old.tells → take n out ≡ piece_of f.layout f.meta.meta f.boot f.lengths old.told.now image at n)
          → CarriedOut own [] old new
          → Meets {T = ℕ × ℕ} (IsGot old.tells out) (Ok (n, total)) passes (call_of asked []) old new
      read-meets out read carried =
          done-meets old new fitting sound knows passes asked [] (reader-fits passes) own (reads passes) carried (IsGot old.tells out) (n, total)
          (λ E s x setting shows. read-says old fitting number image at n total of knows E s x setting.layout shows out read)
          (leaves (Ok tt)
          (let guard : IsTrue old.tells → new.told.guard ≡ old.told.guard = λ is. ap (λ (t : Told). t.guard) (told is) in
          assumption))
