-- What an agent tells of what it is doing is the machine's.
use Rattle.std.proofs.Common.{◌≡◌, ℕ, Bool, true, false, cond, List, [], Option, Some, None, Ok, refl, sym, ap, ◌∙◌, subst}
use Rattle.fwu_model.specs.{declared.kinds.AgentState.AgentState, State.State, State.is_valid, State.bank, State.after}
use Rattle.fwu_model.specs.{Sound.Setting, Session.Session, Session.On, Session.Staged, Session.Handle}
use Rattle.fwu_model.specs.declared.kinds.AgentState.TheVariants.{Staging, Trial, Regular}
use Rattle.fwu_model.specs.Answer.{Answer, answer, answered, agent_state}
use Rattle.fwu_model.specs.Call as call
use Rattle.fwu_model.specs.Reply as reply
use Rattle.fwu_formats.specs.Metadata.{state_at}
use Rattle.agent_kept.specs.Kept.{staging_meant, handles_meant, parts_meant}
use Rattle.agent_state.proofs.Machine.{valid-is}
use Rattle.agent_machine.specs.{Fields.Fields, Moment.Moment, Moment.Shows, Meets.Meets}
use Rattle.agent_machine.proofs.Answered.{leaves-nothing}
use Rattle.agent_calls.specs.{declared.telling.Discovery.Discovery, Told.state_kept}

discovered : (E : Setting) (s : State) (boot : ℕ) (stg : Option (List Staged)) (hs : List Handle)
    → answer E s (On boot stg hs) call.Discover ≡ answered (reply.Discovered (agent_state s stg)) [] (On boot stg hs)
unfolding answer
discovered E s boot stg hs = refl

state-by : (s : State) (v staging : Bool) (parts : List Staged) → v ≡ is_valid (bank s s.active).state
    → agent_state s (cond staging (Some parts) None) ≡ cond staging Staging (cond v Trial Regular)
state-by s v true parts e = refl
state-by s v false parts e = ap (λ (b : Bool). cond b Trial Regular) (sym e)

module _ (m : Moment) where
  answer-is : (E : Setting) (s : State) (x : Session) → Shows m s x → answer E s x call.Discover ≡ answered (reply.Discovered (state_kept m.fields)) [] x
  answer-is E s x shows =
      let f : Fields = m.fields in
      let stg = staging_meant f.session shows.staged in
      let state : agent_state s stg ≡ state_kept f = state-by s (is_valid (state_at f.meta.meta f.meta.meta.active)) f.session.staging
      (parts_meant f.session shows.staged) (valid-is s f.meta shows.speaks.meta) in
      subst (λ (y : Session). answer E s y call.Discover ≡ answered (reply.Discovered (state_kept f)) [] y) (sym shows.means)
      (discovered E s f.boot stg (handles_meant f.session)
      ∙ ap (λ (a : AgentState). answered (reply.Discovered a) [] (On f.boot stg (handles_meant f.session))) state)

  pub tells-state : (passes : List ℕ → Bool) (d : Discovery) → d.state ≡ state_kept m.fields
      → Meets {T = Discovery} (λ told answer. answer ≡ reply.Discovered told.state) (Ok d) passes call.Discover m m
  tells-state passes d is = record {
    exact = λ E s x setting shows.
        let at = answer-is E s x shows in
        (ap (λ (a : Answer). a.reply) at ∙ ap reply.Discovered (sym is), subst (λ (a : Answer). Shows m (after s a.moves) a.next) (sym at) shows);
    leaves = leaves-nothing m passes call.Discover (λ E s x setting shows. ap (λ (a : Answer). a.moves) (answer-is E s x shows));
  }
