use Rattle.std.proofs.Common.{◌≡◌, ℕ, Bool, List, Option, sym, ap, subst, ◌∙◌}
use Rattle.host_io.specs.Contents.{Directory}
use Rattle.fwu_model.specs.{Call.Call, Reply.Turn}
use Rattle.script_text.specs.Shown.{shown}
use Rattle.script_turns.specs.{Powered.TurnMoment, Turning.Turns}
use Rattle.script_turns.proofs.Called.{shown-open}
use Rattle.script_turns.proofs.calling.call_turn.Goals as goal

-- the turn of the call that this one is
as-called : (passes : List ℕ → Bool) (tells : Bool) (c what : Call) (t : Turn) (old new : TurnMoment) → c ≡ what → ((files : Option Directory) (faults : ℕ) → Turns passes tells files what t old new faults faults)
    → (files : Option Directory) (faults : ℕ) → Turns passes tells files c t old new faults faults
as-called passes tells c what t old new is turns files faults = subst (λ (x : Call). Turns passes tells files x t old new faults faults) (sym is) (turns files faults)

pub returns-in-Discover-clause-turns : goal.returns-in-Discover-clause-turns
returns-in-Discover-clause-turns g c = as-called _ _ _ _ _ _ _ (ap shown c.in-Discover.is) (c.discover_turn.ensures.turns (g.V.Verifier.passes c.args.verifier.now))

pub returns-in-Begin-clause-turns : goal.returns-in-Begin-clause-turns
returns-in-Begin-clause-turns g c = as-called _ _ _ _ _ _ _ (ap shown c.in-Begin.is) (c.begin_turn.ensures.turns (g.V.Verifier.passes c.args.verifier.now))

pub returns-in-BeginPartial-clause-turns : goal.returns-in-BeginPartial-clause-turns
returns-in-BeginPartial-clause-turns g c = as-called _ _ _ _ _ _ _ (ap shown c.in-BeginPartial.is) (c.begin_partial_turn.ensures.turns (g.V.Verifier.passes c.args.verifier.now))

pub returns-in-Open-clause-turns : goal.returns-in-Open-clause-turns
returns-in-Open-clause-turns g c = as-called _ _ _ _ _ _ _ (ap shown c.in-Open.is ∙ shown-open c.in-Open.guid c.in-Open.op) (c.open_turn.ensures.turns (g.V.Verifier.passes c.args.verifier.now))

pub returns-in-Write-clause-turns : goal.returns-in-Write-clause-turns
returns-in-Write-clause-turns g c = as-called _ _ _ _ _ _ _ (ap shown c.in-Write.is) (c.write_turn.ensures.turns (g.V.Verifier.passes c.args.verifier.now))

pub returns-in-Read-clause-turns : goal.returns-in-Read-clause-turns
returns-in-Read-clause-turns g c = as-called _ _ _ _ _ _ _ (ap shown c.in-Read.is) (c.read_turn.ensures.turns (g.V.Verifier.passes c.args.verifier.now))

pub returns-in-Commit-clause-turns : goal.returns-in-Commit-clause-turns
returns-in-Commit-clause-turns g c = as-called _ _ _ _ _ _ _ (ap shown c.in-Commit.is) (c.commit_turn.ensures.turns (g.V.Verifier.passes c.args.verifier.now))

pub returns-in-End-clause-turns : goal.returns-in-End-clause-turns
returns-in-End-clause-turns g c = as-called _ _ _ _ _ _ _ (ap shown c.in-End.is) c.end_turn.ensures.turns

pub returns-in-Cancel-clause-turns : goal.returns-in-Cancel-clause-turns
returns-in-Cancel-clause-turns g c = as-called _ _ _ _ _ _ _ (ap shown c.in-Cancel.is) (c.cancel_turn.ensures.turns (g.V.Verifier.passes c.args.verifier.now))

pub returns-in-Accept-clause-turns : goal.returns-in-Accept-clause-turns
returns-in-Accept-clause-turns g c = as-called _ _ _ _ _ _ _ (ap shown c.in-Accept.is) (c.accept_turn.ensures.turns (g.V.Verifier.passes c.args.verifier.now))

pub returns-in-Previous-clause-turns : goal.returns-in-Previous-clause-turns
returns-in-Previous-clause-turns g c = as-called _ _ _ _ _ _ _ (ap shown c.in-Previous.is) c.previous_turn.ensures.turns
