-- Calls of the agent in a row.
use Rattle.std.proofs.Common.{◌≡◌, List, [], ◌++◌, Result, Ok, refl, sym, subst, ◌∙◌, IsTrue}
use Rattle.std.proofs.lemmas.Result.{on_ok_weaker, IfOk-from_err}
use Rattle.std.specs.Prelude.{IsErr, OnOk}
use Rattle.flash_core.specs.declared.flash.FlashStop.{FlashStop}
use Rattle.fwu_model.specs.{State.State, State.Move, State.after, Session.Session, Sound.Setting}
use Rattle.fwu_model.specs.{Call.Call, Answer.answer}
use Rattle.moves.specs.Moved.{Does, IsReady}
use Rattle.moves.proofs.Composed.{after-append, does-then, does-stopped, does-nothing}
use Rattle.agent_machine.specs.{Beside.IsSparedByAll, Moment.Moment, Moment.Shows}
use Rattle.agent_machine.specs.Meets.{LeavesFlash, Stays}
use Rattle.agent_machine.specs.Goes.{GoesByMoves}
use Rattle.agent_machine.proofs.Beside.{blocks-further, blocks-once, spared-further, spared-once, spared-same}

pub stays-then : (a b c : Moment) → Stays a b → Stays b c → Stays a c
stays-then a b c ab bc = record {
  tells = bc.tells ∙ ab.tells;
  layout = bc.layout ∙ ab.layout;
  boot = bc.boot ∙ ab.boot;
  counter = bc.counter ∙ ab.counter;
  lengths = bc.lengths ∙ ab.lengths;
  guard = λ told. bc.guard (subst IsTrue (sym ab.tells) told) ∙ ab.guard told;
}

-- what is done, and what comes next
pub goes-then : (E : Setting) (result : Result (Unit {0}) FlashStop) (a b c : Moment) (s : State) (ms ns : List Move) (y z : Session)
    → GoesByMoves E (Ok tt) a b s ms y → GoesByMoves E result b c (after s ms) ns z → GoesByMoves E result a c s (ms ++ ns) z
goes-then E result a b c s ms ns y z first second = record {
  shows = on_ok_weaker result (λ shown. subst (λ (w : State). Shows c w z) (sym (after-append s ms ns)) shown) second.shows;
  does = λ tells ready. does-then tt result E s ms ns b.told c.told (first.does tells ready)
      (λ next. second.does (subst IsTrue (sym first.stays.tells) tells) next);
  guarded = λ tells rest. second.guarded (subst IsTrue (sym first.stays.tells) tells) (first.guarded tells rest);
  keeps = λ tells. spared-further a.fields b.fields a.told b.told c.told first.stays.layout first.stays.boot (first.keeps tells)
      (second.keeps (subst IsTrue (sym first.stays.tells) tells));
  touches = blocks-further a.fields b.fields first.stays.layout first.stays.boot first.touches second.touches;
  stays = stays-then a b c first.stays second.stays;
}

-- what was stopped did a prefix of whatever was to follow
pub goes-stopped : (E : Setting) (result : Result (Unit {0}) FlashStop) (a b : Moment) (s : State) (ms ns : List Move) (y z : Session) → IsErr result
    → GoesByMoves E result a b s ms y → GoesByMoves E result a b s (ms ++ ns) z
goes-stopped E result a b s ms ns y z err goes =
    let shows : OnOk result (Shows b (after s (ms ++ ns)) z) = IfOk-from_err result (λ _. Shows b (after s (ms ++ ns)) z) err in
    let does : IsTrue a.tells → IsReady E a.told s → Does result E s (ms ++ ns) b.told = λ tells ready.
    does-stopped result result E s ms ns b.told err (goes.does tells ready) in
    assumption

-- no call
pub goes-nothing : (E : Setting) (a : Moment) (s : State) (x : Session) → Shows a s x → GoesByMoves E (Ok tt) a a s [] x
goes-nothing E a s x shows = record {
  shows = shows;
  does = λ tells ready. does-nothing {T = Unit {0}} (Ok tt) E s a.told ready;
  guarded = λ tells rest. rest;
  keeps = λ tells. spared-same (IsSparedByAll a.fields.layout a.fields.boot) a.told;
  touches = λ b spared. refl;
  stays = assumption;
}

-- ---- one call

-- what a call leaves of the flash, with the session that it leaves where the flash didn't stop it
pub leaves-goes : (E : Setting) (result : Result (Unit {0}) FlashStop) (c : Call) (old new : Moment) (s : State) (x y : Session)
    → E.layout ≡ old.fields.layout → Shows old s x → LeavesFlash result E.passes c old new
    → OnOk result (Shows new (after s (answer E s x c).moves) y)
    → GoesByMoves E result old new s (answer E s x c).moves y
leaves-goes E result c old new s x y layout shows leaves next = record {
  shows = next;
  does = λ tells ready. leaves.does E s x (record { layout = layout; verifier = refl }) shows tells ready;
  guarded = leaves.guarded;
  keeps = λ tells. spared-once old.fields old.told new.told (leaves.keeps tells);
  touches = blocks-once old.fields leaves.touches;
  stays = leaves.stays;
}
