-- Which blocks a turn touches, by its call, and which a run of turns.
use Rattle.std.proofs.Common.{◌≡◌, ℕ, Bool, true, false, List, Option, Some, None, IsTrue, IsFalse, inl, inr, refl, ap, arith, ◌⊎◌, ◌∙◌, ◌+◌, ◌*◌, ◌%◌, ◌≤◌, cond, ◌∷◌, ◌++◌, sym, subst, []}
use Rattle.flash_core.specs.{Touches.TouchesOnly, declared.flash.Arming.Arming}
use Rattle.fwu_formats.specs.{Places.counter_block, Places.layout_block, Layout.Layout}
use Rattle.early_boot.specs.{Ends.Ended, EndsBy.TouchesBoot}
use Rattle.early_boot.proofs.Touching.{boot-spares}
use Rattle.fwu_model.specs.{Call.Call, Reply.Reply, Reply.Turn, Run.is_boot}
use Rattle.fwu_model.specs.Call as call
use Rattle.agent_machine.specs.Beside.{SparesBlocks, SparesBlocksByAll, IsBesideBank, IsBesideMetadata}
use Rattle.agent_machine.specs.{Fields.Fields, Meets.Stays}
use Rattle.std.proofs.{lemmas.List.Sums.sum_by-append, lemmas.Option.same_Some}
use Rattle.base_core.specs.Block.{block_bytes}
use Rattle.host_io.specs.Contents.{Directory}
use Rattle.fwu_model.specs.Reply as reply
use Rattle.agent_machine.specs.Moment as agent
use Rattle.agent_machine.proofs.Beside.{blocks-once}
use Rattle.script_turns.specs.{Replies.is_agents, Replies.is_composed, Powered.TurnMoment, Replies.AnswersTo, Replies.CallSays}
use Rattle.script_turns.specs.{Replies.Replies, Runs.RunTouches, Runs.SparesBanks, Runs.boots_in, Takes.TouchesBy}
use Rattle.script_turns.specs.{Takes.TouchesByBoot, Turning.Turns}
use Rattle.script_turns.specs.Sending.{send_call, AnswersSend, SendSays, SendsAs}

-- ---- which blocks a turn touches, by its call

-- of a call of the agent
pub touches-called : (c : Call) (f : Fields) (w v : ℕ → ℕ) → IsTrue (is_agents c) → SparesBlocksByAll f w v → (IsFalse (is_composed c) → SparesBlocks f w v) → TouchesBy c (Some f) w v
touches-called call.Boot f w v agents all one = absurd cc
touches-called call.Show f w v agents all one = absurd cc
touches-called call.NoCall f w v agents all one = absurd cc
touches-called (call.Cut n k) f w v agents all one = absurd cc
touches-called (call.BeginPartial types) f w v agents all one = all
touches-called (call.Send name request) f w v agents all one = all
touches-called (call.SendPartial name request) f w v agents all one = all
touches-called other f w v agents all one = one refl

-- of a sending
pub touches-sent : (partly : Bool) (name : List ℕ) (request : ℕ) (f : Fields) (w v : ℕ → ℕ) → SparesBlocksByAll f w v → TouchesBy (send_call partly name request) (Some f) w v
touches-sent false name request f w v all = all
touches-sent true name request f w v all = all

same-at : (b : ℕ) (w v : ℕ → ℕ) → v ≡ w → v b ≡ w b
same-at b w v same = ap (λ (writes : ℕ → ℕ). writes b) same

pub boot-touches : (e : Ended) (w v : ℕ → ℕ) → TouchesOnly 4096 28672 w v → TouchesBoot e w v → TouchesByBoot w v
boot-touches e w v front fewer = record { front = front; marks_still = boot-spares e w v fewer }

-- where a bank was started, and it is no boot
called-spares : (c : Call) (f : Fields) (w v : ℕ → ℕ) → IsFalse (is_boot c) → TouchesBy c (Some f) w v → SparesBlocksByAll f w v
called-spares call.Boot f w v never touches = absurd cc
called-spares call.Show f w v never touches = λ b out. ap (λ (writes : ℕ → ℕ). writes b) touches
called-spares call.NoCall f w v never touches = λ b out. ap (λ (writes : ℕ → ℕ). writes b) touches
called-spares (call.Cut n k) f w v never touches = λ b out. ap (λ (writes : ℕ → ℕ). writes b) touches
called-spares (call.BeginPartial types) f w v never touches = touches
called-spares (call.Send name request) f w v never touches = touches
called-spares (call.SendPartial name request) f w v never touches = touches
called-spares other f w v never touches = blocks-once f touches

-- ---- blocks 0 and 4

-- neither is touched
abbrev pub LeavesFixed : (ℕ → ℕ) → (ℕ → ℕ) → Type 0
LeavesFixed w v = (v layout_block ≡ w layout_block) × (v counter_block ≡ w counter_block)

same-left : (w v : ℕ → ℕ) → v ≡ w → LeavesFixed w v
same-left w v same = (same-at layout_block w v same, same-at counter_block w v same)

boot-left : (w v : ℕ → ℕ) → TouchesByBoot w v → LeavesFixed w v
boot-left w v boot = (boot.front layout_block (inl (omega arith)), boot.marks_still)

all-left : (f : Fields) (w v : ℕ → ℕ) → SparesBlocksByAll f w v → LeavesFixed w v
all-left f w v all = (all layout_block (inl (omega arith), inl (omega arith)), all counter_block (inr (omega arith), inl (omega arith)))

-- no turn touches them
pub fixed-left : (c : Call) (on : Option Fields) (w v : ℕ → ℕ) → TouchesBy c on w v → LeavesFixed w v
fixed-left call.Boot on w v touches = boot-left w v touches
fixed-left other None w v touches = same-left w v touches
fixed-left other (Some f) w v touches = all-left f w v (called-spares other f w v refl touches)

-- ---- the counts, by the call

-- where nothing is on, nothing is touched but by a boot
off-still : (c : Call) (on : Option Fields) (w v : ℕ → ℕ) → IsFalse (is_boot c) → on ≡ None → TouchesBy c on w v → v ≡ w
off-still c (Some f) w v never off touches = absurd cc
off-still call.Boot None w v never off touches = absurd cc
off-still other None w v never off touches = touches

booted-touches : (c : Call) (on : Option Fields) (w v : ℕ → ℕ) → IsTrue (is_boot c) → TouchesBy c on w v → TouchesByBoot w v
booted-touches call.Boot on w v boot touches = touches
booted-touches other on w v boot touches = absurd cc

on-spares : (c : Call) (on : Option Fields) (f : Fields) (w v : ℕ → ℕ) → IsFalse (is_boot c) → on ≡ Some f → TouchesBy c on w v → SparesBlocksByAll f w v
on-spares c on f w v never is touches = called-spares c f w v never (subst (λ (o : Option Fields). TouchesBy c o w v) is touches)

-- ---- the agent, by the call

-- the same layout, and the same bank
abbrev IsSame : Fields → Fields → Type 0
IsSame f g = (g.layout ≡ f.layout) × (g.boot ≡ f.boot)

same-stays : (old new : agent.Moment) → Stays old new → IsSame old.fields new.fields
same-stays old new stays = (stays.layout, stays.boot)

-- what is on stays
same-on : (old new : Option Fields) (f g : Fields) → old ≡ Some f → new ≡ Some g → new ≡ old → IsSame f g
same-on old new f g is are same =
    let one = same_Some f g (sym is ∙ sym same ∙ are) in (ap (λ (h : Fields). h.layout) (sym one), ap (λ (h : Fields). h.boot) (sym one))

-- what is said of two that are on
between : (Says : Option Fields → Option Fields → Type 0) {old new : Option Fields} {f g : Fields} → old ≡ Some f → new ≡ Some g
    → Says old new → Says (Some f) (Some g)
between Says {old = old} {g = g} is are says = subst (λ (o : Option Fields). Says o (Some g)) is (subst (Says old) are says)

module _ (passes : List ℕ → Bool) (tells : Bool) (files : Option Directory) where
  -- no call but a boot starts a bank
  off-after : (c : Call) (old : TurnMoment) (t : Turn) (new : TurnMoment) → IsFalse (is_boot c) → old.on ≡ None → Replies passes tells files c old t new → new.on ≡ None
  off-after call.Boot old t new never off replies = absurd cc
  off-after call.Show old t new never off replies = replies.1 ∙ off
  off-after call.NoCall old t new never off replies = replies.1 ∙ off
  off-after (call.Cut n k) old t new never off replies = replies.1.on_is ∙ off
  off-after (call.Send name request) old t new never off replies =
      (subst (λ (o : Option Fields). SendSays false passes tells files name request o old t.reply new.on new) off replies).1
  off-after (call.SendPartial name request) old t new never off replies =
      (subst (λ (o : Option Fields). SendSays true passes tells files name request o old t.reply new.on new) off replies).1
  off-after other old t new never off replies =
      (subst (λ (o : Option Fields). CallSays passes tells other o old t.reply new.on new) off replies).1

  stays-to : (c : Call) (r : Reply) (old new : agent.Moment) → AnswersTo passes c r old new → IsSame old.fields new.fields
  stays-to (call.BeginPartial types) r old new answers = same-stays old new answers.stays
  stays-to other r old new answers = same-stays old new answers.stays

  sends-to : (partial : Bool) (name : List ℕ) (request : ℕ) (r : Reply) (old new : agent.Moment) (armed arming : Option Arming)
      → SendsAs partial passes files name request r old new armed arming → IsSame old.fields new.fields
  sends-to false name request r old new armed arming sends = same-stays old new sends.stays
  sends-to true name request r old new armed arming sends = same-stays old new sends.stays

  sent-to : (partial : Bool) (name : List ℕ) (request : ℕ) (r : Reply) (old new : agent.Moment) (armed arming : Option Arming)
      → AnswersSend partial passes files name request r old new armed arming → IsSame old.fields new.fields
  sent-to partial name request (reply.BadPackage fault) old new armed arming says = (ap (λ (m : agent.Moment). m.fields.layout) says.1, ap (λ (m : agent.Moment). m.fields.boot) says.1)
  sent-to partial name request (reply.BadCapsule fault) old new armed arming says = (ap (λ (m : agent.Moment). m.fields.layout) says.1, ap (λ (m : agent.Moment). m.fields.boot) says.1)
  sent-to partial name request other old new armed arming says = sends-to partial name request other old new armed arming says

  -- and none changes the layout or the bank that was started
  on-after : (c : Call) (f g : Fields) (old : TurnMoment) (t : Turn) (new : TurnMoment) → IsFalse (is_boot c) → old.on ≡ Some f → new.on ≡ Some g → Replies passes tells files c old t new → IsSame f g
  on-after call.Boot f g old t new never is are replies = absurd cc
  on-after call.Show f g old t new never is are replies = same-on old.on new.on f g is are replies.1
  on-after call.NoCall f g old t new never is are replies = same-on old.on new.on f g is are replies.1
  on-after (call.Cut n k) f g old t new never is are replies = same-on old.on new.on f g is are replies.1.on_is
  on-after (call.Send name request) f g old t new never is are replies = sent-to false name request t.reply _ _ _ _
      (between (λ was now. SendSays false passes tells files name request was old t.reply now new) is are replies)
  on-after (call.SendPartial name request) f g old t new never is are replies = sent-to true name request t.reply _ _ _ _
      (between (λ was now. SendSays true passes tells files name request was old t.reply now new) is are replies)
  on-after other f g old t new never is are replies =
      stays-to other t.reply _ _ (between (λ was now. CallSays passes tells other was old t.reply now new) is are replies)

-- ---- one turn more

boots-more : (journal : List Turn) (t : Turn) → boots_in (journal ++ t ∷ []) ≡ boots_in journal + cond (is_boot t.call) 1 0
boots-more journal t = sum_by-append (λ (x : Turn). cond (is_boot x.call) 1 0) journal (t ∷ []) ∙ omega arith

beside-front : (b : ℕ) → (block_bytes * b + block_bytes ≤ block_bytes) ⊎ (block_bytes * 7 ≤ block_bytes * b) → IsBesideMetadata (block_bytes * b)
beside-front b (inl low) = inl (omega (arith, low))
beside-front b (inr high) = inr (omega (arith, high))

beside-same : (f g : Fields) (i : ℕ) → IsSame f g → IsBesideBank g.layout ((g.boot + 1) % g.layout.banks) i → IsBesideBank f.layout ((f.boot + 1) % f.layout.banks) i
beside-same f g i same beside =
    subst (λ (n : ℕ). IsBesideBank f.layout ((n + 1) % f.layout.banks) i) same.1
    (subst (λ (L : Layout). IsBesideBank L ((g.boot + 1) % L.banks) i) same.0 beside)

pub touches-nothing : (old : TurnMoment) → old.on ≡ None → RunTouches [] old old
touches-nothing old off = record { layout_still = refl; marks_still = refl; unbooted = λ none. (off, refl); banks = λ few f on. absurd (let e = sym off ∙ on in cc) }

module _ (passes : List ℕ → Bool) (tells : Bool) (files : Option Directory) (c : Call) (t : Turn) (journal : List Turn) (old mid new : TurnMoment) (through to : ℕ)
    (turned : Turns passes tells files c t mid new through to) (run : RunTouches journal old mid) where
  more : boots_in (journal ++ t ∷ []) ≡ boots_in journal + cond (is_boot c) 1 0
  more = boots-more journal t ∙ ap (λ (what : Call). boots_in journal + cond (is_boot what) 1 0) turned.call_is

  -- with no boot before it
  unbooted-on : (b : Bool) → is_boot c ≡ b → boots_in (journal ++ t ∷ []) ≡ 0 → (new.on ≡ None) × (new.writes ≡ old.writes)
  unbooted-on true boot none = let one = ap {B = ℕ} (λ (x : Bool). cond x 1 0) boot in absurd (omega (arith, more, one, none))
  unbooted-on false never none =
      let was = run.unbooted (omega (arith, more, none)) in
      (off-after passes tells files c mid t new never was.0 turned.replies, off-still c mid.on mid.writes new.writes never was.0 turned.touches ∙ was.1)

  banks-on : (b : Bool) → is_boot c ≡ b → boots_in (journal ++ t ∷ []) ≤ 1 → (f : Fields) → new.on ≡ Some f → SparesBanks f old.writes new.writes
  banks-on true boot few f on = λ b front beside.
      let one = ap {B = ℕ} (λ (x : Bool). cond x 1 0) boot in
      let was = run.unbooted (omega (arith, more, one, few)) in
      (booted-touches c mid.on mid.writes new.writes boot turned.touches).front b front ∙ ap (λ (writes : ℕ → ℕ). writes b) was.1
  banks-on false never few f on = by mid.on refl
    where
      by : (o : Option Fields) → mid.on ≡ o → SparesBanks f old.writes new.writes
      by None off = let none = off-after passes tells files c mid t new never off turned.replies in absurd (let e = sym none ∙ on in cc)
      by (Some g) is = λ b front beside.
          let there = beside-same g f (block_bytes * b) (on-after passes tells files c g f mid t new never is on turned.replies) beside in
          on-spares c mid.on g mid.writes new.writes never is turned.touches b (beside-front b front, there) ∙ run.banks (omega (arith, more, few)) g is b front there

  pub touches-more : RunTouches (journal ++ t ∷ []) old new
  touches-more = record {
    layout_still = (fixed-left c mid.on mid.writes new.writes turned.touches).0 ∙ run.layout_still;
    marks_still = (fixed-left c mid.on mid.writes new.writes turned.touches).1 ∙ run.marks_still;
    unbooted = unbooted-on (is_boot c) refl;
    banks = banks-on (is_boot c) refl;
  }
