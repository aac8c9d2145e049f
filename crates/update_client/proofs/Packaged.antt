-- A package that is staged and installed: a begin, its images and an end, as one answer of the machine or a part of one.
use Rattle.std.proofs.Common.{◌≡◌, cond, ℕ, ◌+◌, ◌<◌, ◌≤◌, Bool, true, false, not, List, [], ◌∷◌, ◌++◌, ◌⊎◌, inl, inr, length, get_or, set, replicate, Option, Some, None, Result, Ok, Err, refl, sym, ap, subst, ◌∙◌, arith, append-nil, get_or-set_same, length-set}
use Rattle.std.proofs.Math.Nat.{mod-lt}
use Rattle.flash_core.specs.declared.flash.FlashStop.{FlashStop}
use Rattle.flash_core.specs.declared.flash.FlashStop.TheVariants as flash_stop
use Rattle.fwu_model.specs.{Sound.Setting, Reply.Reply, declared.kinds.Status.Status}
use Rattle.fwu_model.specs.State.{Bank, State, Move, Free, Switch, after, bank, freed, is_invalid, no_bank, state_by, update_bank}
use Rattle.fwu_model.specs.Session.{Session, Off, On, Staged, Handle, Nothing, no_handles}
use Rattle.fwu_model.specs.Answer.{Answer, answer, answered, refused, begin_moves, cannot_begin, install_package, install_unless, may_install}
use Rattle.fwu_model.specs.Call as call
use Rattle.fwu_model.specs.Reply as reply
use Rattle.fwu_model.specs.declared.kinds.Status.TheVariants as status
use Rattle.agent_machine.specs.{declared.stop.Stop.Stop, Meets.flash_result, Goes.GoesByMoves, Filling.between}
use Rattle.agent_machine.specs.Moment.{Moment, Shows}
use Rattle.agent_machine.specs.declared.stop.Stop.TheVariants as stop
use Rattle.agent_machine.proofs.Going.{goes-then, goes-nothing, goes-stopped}
use Rattle.agent_calls.specs.Copies.{AnswersAs}
use Rattle.update_client.specs.{declared.stops.SendStop.SendStop, Sends.refused_image, Halts.unbegun_as, Partial.GoesAs}
use Rattle.update_client.specs.declared.stops.SendStop.TheVariants.{MissingImage, ImageTooLarge, End, ReadFailed, Lost, Fault}
use Rattle.update_client.specs.Images.{FinishesSend, end_moves}
use Rattle.update_client.specs.Sends.{AnswersBy, AllowsBegin, IsInstalled}
use Rattle.update_client.proofs.Staging.{begin-answers, begun-keeps, begun-may}

some-is : (a b : SendStop) → ◌≡◌ {A = Option SendStop} (Some a) (Some b) → a ≡ b
some-is a b e = cc

-- what is refused before any call
pub early-cases : (o : Option Reply) (halt : SendStop) → refused_image o ≡ Some halt
    → ((g : List ℕ) × (halt ≡ MissingImage g) × (o ≡ Some (reply.Missing g)))
    ⊎ ((g : List ℕ) × (halt ≡ ImageTooLarge g) × (o ≡ Some (reply.TooLarge g)))
early-cases (Some (reply.Missing g)) halt is = inl (g, sym (some-is (MissingImage g) halt is), refl)
early-cases (Some (reply.TooLarge g)) halt is = inr (g, sym (some-is (ImageTooLarge g) halt is), refl)
early-cases other halt is = absurd cc

-- an agent shows no machine that is off
pub never-off : (m : Moment) (s : State) → Shows m s Off → ⊥
never-off m s shows = is-on shows.means
  where
    is-on : {boot : ℕ} {staging : Option (List Staged)} {handles : List Handle} → Off ≡ On boot staging handles → ⊥
    is-on e = cc

pub each-on : (m : Moment) (P : State → Session → Type 0)
    → ((s : State) (boot : ℕ) (staging : Option (List Staged)) (handles : List Handle) → Shows m s (On boot staging handles) → P s (On boot staging handles))
    → (s : State) (x : Session) → Shows m s x → P s x
each-on m P on s Off shows = absurd (never-off m s shows)
each-on m P on s (On boot staging handles) shows = on s boot staging handles shows

module _ (E : Setting) (s : State) (boot : ℕ) (staging : Option (List Staged)) (handles : List Handle) where
  abbrev x : Session
  x = On boot staging handles

  abbrev ended : Session
  ended = On boot None no_handles

  -- ---- the begin, of all images or of some

  module _ (now : List Staged) (began : Answer)
      (is : began ≡ cond (cannot_begin s boot staging) (refused status.Denied x) (answered reply.Success (begin_moves s) (between boot now))) where
    abbrev begun_by : Bool → Answer
    begun_by cannot = cond cannot (refused status.Denied x) (answered reply.Success (begin_moves s) (between boot now))

    can-begin : began.reply ≡ reply.Success → cannot_begin s boot staging ≡ false
    can-begin replied = by-test (cannot_begin s boot staging) (sym (ap (λ (v : Answer). v.reply) is) ∙ replied)
      where
        by-test : (t : Bool) → (begun_by t).reply ≡ reply.Success → t ≡ false
        by-test true replied = absurd cc
        by-test false replied = refl

    begun-is : began.reply ≡ reply.Success → began ≡ begun_by false
    begun-is replied = is ∙ ap begun_by (can-begin replied)

    pub begin-done : (old mid : Moment) → began.reply ≡ reply.Success → GoesByMoves E (Ok tt) old mid s began.moves began.next
        → (cannot_begin s boot staging ≡ false) × GoesByMoves E (Ok tt) old mid s (begin_moves s) (between boot now)
    begin-done old mid replied goes =
        (can-begin replied, subst (λ (v : Answer). GoesByMoves E (Ok tt) old mid s v.moves v.next) (begun-is replied) goes)

  -- ---- the answer

  module _ (p : List (List ℕ)) (bits : List Bool) (done : Reply) where
    abbrev a : Answer
    a = install_package E s boot staging handles p bits done

    -- by whether it may begin, and may be installed
    abbrev answer_by : Bool → Bool → Answer
    answer_by cannot may =
        cond cannot (answered (reply.BeginRefused status.Denied) [] x)
        (cond (not may) (answered (reply.EndRefused status.AuthFail) (begin_moves s) ended)
        (answered done (begin_moves s ++ Switch (update_bank s) p bits ∷ []) ended))

    answer-at : (cannot may : Bool) → cannot_begin s boot staging ≡ cannot → may_install E s p ≡ may → a ≡ answer_by cannot may
    answer-at cannot may is it = ap (λ (b : Bool). answer_by b (may_install E s p)) is ∙ ap (answer_by cannot) it

    -- an image at fault is refused before any call
    pub early : (o : Option Reply) (halt : SendStop) (old : Moment) → refused_image o ≡ Some halt → Shows old s x
        → GoesAs (Err halt) (install_unless o E s boot staging handles p bits done) E old old s x
    early o halt old it shows = elim (early-cases o halt it) [
      | inl m ↦ at (MissingImage m.0) (reply.Missing m.0) m.1 m.2 (λ goes. goes)
      | inr l ↦ at (ImageTooLarge l.0) (reply.TooLarge l.0) l.1 l.2 (λ goes. goes)
    ]
      where
        at : (h : SendStop) (r : Reply) → halt ≡ h → o ≡ Some r → (AnswersBy r (answered r [] x) E old old s → GoesAs (Err h) (answered r [] x) E old old s x)
            → GoesAs (Err halt) (install_unless o E s boot staging handles p bits done) E old old s x
        at h r same is by = rw (same, is) (by (refl, goes-nothing E old s x shows))

    -- ---- what is begun

    module _ (can : cannot_begin s boot staging ≡ false) where
      begun-moves : a.moves ≡ begin_moves s ++ end_moves E s p bits
      begun-moves = ap (λ (w : Answer). w.moves) (answer-at false (may_install E s p) can refl) ∙ by-test (may_install E s p)
        where
          by-test : (t : Bool) → (answer_by false t).moves ≡ begin_moves s ++ cond t (Switch (update_bank s) p bits ∷ []) []
          by-test true = refl
          by-test false = sym (append-nil (begin_moves s))

      begun-next : a.next ≡ ended
      begun-next = ap (λ (w : Answer). w.next) (answer-at false (may_install E s p) can refl) ∙ by-test (may_install E s p)
        where
          by-test : (t : Bool) → (answer_by false t).next ≡ ended
          by-test true = refl
          by-test false = refl

      -- a begin of all images isn't refused either
      begun-whole : answer E s x (call.Begin 0) ≡ answered reply.Success (begin_moves s) (between boot (replicate (length E.layout.rows) Nothing))
      begun-whole = begin-answers E s boot staging handles (length E.layout.rows) refl ∙ ap (λ (t : Bool). cond t (refused status.Denied x)
          (answered reply.Success (begin_moves s) (between boot (replicate (length E.layout.rows) Nothing)))) can

      is-begun : AllowsBegin E s x
      is-begun = ap (λ (w : Answer). w.reply) begun-whole

      -- the images were sent into the staging
      module _ (old m1 new : Moment) (y : Session) (begun : GoesByMoves E (Ok tt) old m1 s (begin_moves s) y) where
        abbrev w : State
        w = after s (begin_moves s)

        all-moves : begin_moves s ++ end_moves E w p bits ≡ a.moves
        all-moves = ap (λ (b : Bool). begin_moves s ++ cond b (Switch (update_bank w) p bits ∷ []) []) (begun-may E s p)
            ∙ ap (λ (u : ℕ). begin_moves s ++ cond (may_install E s p) (Switch u p bits ∷ []) []) (begun-keeps s).0 ∙ sym begun-moves

        whole : (result : Result (Unit {0}) FlashStop) → GoesByMoves E result m1 new w (end_moves E w p bits) ended
            → GoesByMoves E result old new s a.moves ended
        whole result last = subst (λ (ms : List Move). GoesByMoves E result old new s ms ended) all-moves
            (goes-then E result old m1 new s (begin_moves s) (end_moves E w p bits) y ended begun last)

        -- by whether it may be installed
        answered-by : (may : Bool) → may_install E w p ≡ may → GoesByMoves E (Ok tt) m1 new w (end_moves E w p bits) ended
            → AnswersBy (answer_by false may).reply a E old new s
        answered-by may is last = (
          sym (ap (λ (v : Answer). v.reply) (answer-at false may can (sym (begun-may E s p) ∙ is))),
          subst (λ (z : Session). GoesByMoves E (Ok tt) old new s a.moves z) (sym begun-next) (whole (Ok tt) last),
        )

        pub sent-done : FinishesSend (Ok tt) E m1 new w boot p bits → AnswersBy done a E old new s
        sent-done last = answered-by true last.0 last.1

        pub sent-halted : (halt : SendStop) → FinishesSend (Err halt) E m1 new w boot p bits → GoesAs (Err halt) a E old new s x
        sent-halted (End st) last = let by = answered-by false last.1 last.2 in (ap reply.EndRefused last.0 ∙ by.0, by.1)
        sent-halted ReadFailed last = (
          is-begun,
          subst (λ (ms : List Move). GoesByMoves E (Ok tt) old new s ms ended) (append-nil (begin_moves s) ∙ sym (ap (λ (v : Answer). v.moves) begun-whole))
              (goes-then E (Ok tt) old m1 new s (begin_moves s) [] y ended begun last),
        )
        sent-halted Lost last = (is-begun, whole (Err flash_stop.Lost) last)
        sent-halted Fault last = (is-begun, whole (Err flash_stop.Failed) last)
        sent-halted q last = absurd last

    -- ---- a begin that was not done

    module _ (now : List Staged) (began : Answer)
        (is : began ≡ cond (cannot_begin s boot staging) (refused status.Denied x) (answered reply.Success (begin_moves s) (between boot now))) where
      begin-refused : (st : Status) (old new : Moment) → began.reply ≡ reply.Refused st
          → GoesByMoves E (Ok tt) old new s began.moves began.next → AnswersBy (reply.BeginRefused st) a E old new s
      begin-refused st old new replied goes = by-test (cannot_begin s boot staging) refl
        where
          by-test : (t : Bool) → cannot_begin s boot staging ≡ t → AnswersBy (reply.BeginRefused st) a E old new s
          by-test true t =
              let here : a ≡ answer_by true true = answer-at true (may_install E s p) t refl in
              let there : began ≡ begun_by now began is true = is ∙ ap (begun_by now began is) t in
              let said : reply.Refused st ≡ reply.Refused status.Denied = sym replied ∙ ap (λ (v : Answer). v.reply) there in
              let denied : st ≡ status.Denied = cc in (
                ap reply.BeginRefused denied ∙ sym (ap (λ (v : Answer). v.reply) here),
                subst (λ (v : Answer). GoesByMoves E (Ok tt) old new s v.moves v.next) (sym here)
                    (subst (λ (v : Answer). GoesByMoves E (Ok tt) old new s v.moves v.next) there goes),
              )
          by-test false t =
              let said : reply.Refused st ≡ reply.Success = sym replied ∙ ap (λ (v : Answer). v.reply) (is ∙ ap (begun_by now began is) t) in
              absurd cc

      begin-stopped : (e : FlashStop) (old new : Moment) (y : Session) → began.reply ≡ reply.Success → GoesByMoves E (Err e) old new s began.moves y
          → AllowsBegin E s x × GoesByMoves E (Err e) old new s a.moves ended
      begin-stopped e old new y replied goes = (
        is-begun (can-begin now began is replied),
        subst (λ (ms : List Move). GoesByMoves E (Err e) old new s ms ended) (sym (begun-moves (can-begin now began is replied)))
            (goes-stopped E (Err e) old new s (begin_moves s) (end_moves E s p bits) y ended refl
            (subst (λ (v : Answer). GoesByMoves E (Err e) old new s v.moves y) (begun-is now began is replied) goes)),
      )

      -- refused, or stopped by the flash
      pub unbegun : (halt : Stop) (old new : Moment) → (halt ≡ stop.Gone → ⊥) → AnswersAs (Err halt) began s new
          → GoesByMoves E (flash_result {T = Unit {0}} (Err halt)) old new s began.moves began.next → GoesAs (Err (unbegun_as halt)) a E old new s x
      unbegun (stop.Status st) old new there answers goes = begin-refused st old new answers.0 goes
      unbegun stop.Lost old new there answers goes = begin-stopped flash_stop.Lost old new _ answers goes
      unbegun stop.Fault old new there answers goes = begin-stopped flash_stop.Failed old new _ answers goes
      unbegun stop.Gone old new there answers goes = absurd (there refl)

    -- ---- what is installed

    -- the state after the moves of one that was done
    is-installed : 1 ≤ length s.banks → IsInstalled p bits s (after s (begin_moves s ++ Switch (update_bank s) p bits ∷ []))
    is-installed some = by-state (is_invalid (bank s (update_bank s)).state)
      where
        switched : (banks : List Bank) (k : Bank) → length banks ≡ length s.banks
            → get_or (set banks (update_bank s) k) (update_bank s) no_bank ≡ k
        switched banks k same = let below : update_bank s < length s.banks = mod-lt (s.active + 1) some in
            get_or-set_same banks (update_bank s) k no_bank (omega (arith, below, same))

        by-banks : (banks : List Bank) → length banks ≡ length s.banks
            → IsInstalled p bits s (after (record s { banks = banks }) (Switch (update_bank s) p bits ∷ []))
        by-banks banks same =
            let here = switched banks (record { state = state_by bits; bits = bits; held = Some p }) same in
            record { active = refl; previous = refl; held = ap (λ (k : Bank). k.held) here; accepted = ap (λ (k : Bank). k.bits) here; trials = refl; counter = refl }

        by-state : (b : Bool) → IsInstalled p bits s (after s (cond b [] (Free (update_bank s) ∷ []) ++ Switch (update_bank s) p bits ∷ []))
        by-state true = by-banks s.banks refl
        by-state false = by-banks (set s.banks (update_bank s) (freed (bank s (update_bank s)))) (length-set s.banks (update_bank s) (freed (bank s (update_bank s))))

    -- what answers otherwise than by a refusal was done
    pub installs : (r : Reply) → (r ≡ reply.BeginRefused status.Denied → ⊥) → (r ≡ reply.EndRefused status.AuthFail → ⊥) → r ≡ a.reply
        → 1 ≤ length s.banks → IsInstalled p bits s (after s a.moves)
    installs r begins ends said some = by-test (cannot_begin s boot staging) (may_install E s p) refl refl
      where
        by-test : (cannot may : Bool) → cannot_begin s boot staging ≡ cannot → may_install E s p ≡ may → IsInstalled p bits s (after s a.moves)
        by-test true may is it = absurd (begins (said ∙ ap (λ (v : Answer). v.reply) (answer-at true may is it)))
        by-test false false is it = absurd (ends (said ∙ ap (λ (v : Answer). v.reply) (answer-at false false is it)))
        by-test false true is it = subst (λ (ms : List Move). IsInstalled p bits s (after s ms)) (sym (ap (λ (v : Answer). v.moves) (answer-at false true is it)))
            (is-installed some)
