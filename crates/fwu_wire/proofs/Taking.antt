-- What an armed loss counts of a call of the agent, by its reply.
use Rattle.std.proofs.Common.{◌≡◌, List, length, ℕ, ◌-◌, Result, Ok, Err, IsTrue, ap, sym, subst, arith}
use Rattle.std.specs.Prelude.{IfOk, OnOk}
use Rattle.flash_core.specs.{declared.flash.Flash.Ghosts, Counts.Spends}
use Rattle.fwu_model.specs.declared.kinds.Op.{Op}
use Rattle.fwu_model.specs.declared.kinds.Op.TheVariants as op
use Rattle.fwu_model.specs.Call.{Call, open_call}
use Rattle.fwu_model.specs.Call as call
use Rattle.agent_machine.specs.declared.stop.Stop as agents
use Rattle.agent_machine.specs.declared.stop.Stop.TheVariants as agent_stop
use Rattle.slot_writer.specs.Writes.{SpendsArming, writes_to_append, writes_to_finish}
use Rattle.agent_kept.specs.Kept.{handle_kept, part_at, size_of}
use Rattle.agent_kept.specs.declared.parts.Handle.TheVariants.{Writes}
use Rattle.agent_machine.specs.{Ends.IsWriter, Meets.IsDone, Meets.IsRefused, Meets.flash_result, Stored.TakesStore}
use Rattle.agent_calls.specs.{declared.agent.Agent.Agent, Metas.has_invalid_target, Metas.meta_begun, Records.ReadsAlone}
use Rattle.agent_calls.specs.Shown.{device, fields}
use Rattle.agent_calls.proofs.Taking.{takes-begin}
use Rattle.fwu_wire.specs.{Replies.replied, declared.replies.AgentReply.AgentReply, declared.stops.Stop.Stop}
use Rattle.fwu_wire.specs.Taken.{TakesByReply, TakesIfDone, TakesIfRefused, agents_answer, said}
use Rattle.fwu_wire.specs.declared.replies.AgentReply.TheVariants as wire

module _ {D : Type 0} {F : Ghosts D} (old new : Agent D F) where
  abbrev TakesOf : Call → Result AgentReply Stop → List ℕ → Type 0
  TakesOf c result bytes = IfOk result (λ r. TakesByReply c (replied r bytes) old new)

  -- where it takes nothing that isn't known whatever its reply is
  pub takes-still : (c : Call) (result : Result AgentReply Stop) (bytes : List ℕ) → TakesIfDone c old new
      → (IsRefused (agents_answer result) → TakesIfRefused c old new) → TakesOf c result bytes
  takes-still c (Ok (wire.Refused st)) bytes done refused = refused tt
  takes-still c (Ok wire.Success) bytes done refused = done
  takes-still c (Ok (wire.Discovered state)) bytes done refused = done
  takes-still c (Ok (wire.Opened handle)) bytes done refused = done
  takes-still c (Ok (wire.Got total count)) bytes done refused = done
  takes-still c (Err why) bytes done refused = tt

  -- a call whose answer tells nothing but that it was done
  pub takes-done : (c : Call) (answer : Result (Unit {0}) agents.Stop) (bytes : List ℕ) → OnOk answer (TakesIfDone c old new)
      → (IsRefused answer → TakesIfRefused c old new) → TakesOf c (said (λ value. wire.Success) answer) bytes
  takes-done c (Ok value) bytes done refused = done
  takes-done c (Err (agent_stop.Status st)) bytes done refused = refused tt
  takes-done c (Err agent_stop.Lost) bytes done refused = tt
  takes-done c (Err agent_stop.Fault) bytes done refused = tt
  takes-done c (Err agent_stop.Gone) bytes done refused = tt

  -- an open leaves the device as it was, whatever it is for
  pub takes-open : (guid : List ℕ) (o : Op) (result : Result AgentReply Stop) (bytes : List ℕ) → device new ≡ device old
      → TakesOf (open_call guid o) result bytes
  takes-open guid op.Read result bytes same = takes-still (call.OpenRead guid) result bytes same (λ refused. same)
  takes-open guid op.Write result bytes same = takes-still (call.OpenWrite guid) result bytes same (λ refused. same)

  -- for the call that was asked for, and the reply that was made
  pub takes-as : (asked c : Call) (result made : Result AgentReply Stop) (bytes : List ℕ) → asked ≡ c → result ≡ made
      → TakesOf c made bytes → TakesOf asked result bytes
  takes-as asked c result made bytes call_is result_is takes =
      subst (λ (x : Call). TakesOf x result bytes) (sym call_is)
      (subst (λ (r : Result AgentReply Stop). TakesOf c r bytes) (sym result_is) takes)

  -- ---- what a call says that was done

  pub takes-begun : (count : ℕ) (answer : Result (Unit {0}) agents.Stop)
      → OnOk answer (TakesStore (fields old).meta (fields new).meta (F.arming (device old)) (F.arming (device new)))
      → (IsDone answer → (fields new).meta ≡ meta_begun (fields old))
      → (IsTrue (has_invalid_target (fields old)) → device new ≡ device old) → OnOk answer (TakesIfDone (call.Begin count) old new)
  takes-begun count (Ok value) spent keeps still =
      takes-begin (fields old) (fields new).meta (F.arming (device old)) (F.arming (device new)) spent (keeps tt) (λ is. ap F.arming (still is))
  takes-begun count (Err why) spent keeps still = tt

  pub takes-written : (handle : ℕ) (bytes : List ℕ) (answer : Result (Unit {0}) agents.Stop)
      → (IsDone answer → (image : ℕ) × (handle_kept (fields old).session (handle - 1) ≡ Writes image))
      → ((image : ℕ) → handle_kept (fields old).session (handle - 1) ≡ Writes image → IsDone answer
      → SpendsArming (flash_result answer) (writes_to_append (size_of (part_at (fields old).session image)) (length bytes))
      (F.arming (device old)) (F.arming (device new)) (F.counts (device old)) (F.counts (device new)))
      → OnOk answer (TakesIfDone (call.Write handle bytes) old new)
  takes-written handle bytes (Ok value) writes spent = let by = writes tt in (by.0, by.1, spent by.0 by.1 tt)
  takes-written handle bytes (Err why) writes spent = tt

  pub takes-committed : (handle request : ℕ) (answer : Result (Unit {0}) agents.Stop)
      → ((image : ℕ) → IsWriter (fields old) handle image
      → SpendsArming (flash_result answer) (writes_to_finish (size_of (part_at (fields old).session image)))
      (F.arming (device old)) (F.arming (device new)) (F.counts (device old)) (F.counts (device new)))
      → OnOk answer (TakesIfDone (call.Commit handle request) old new)
  takes-committed handle request (Ok value) spent = spent
  takes-committed handle request (Err why) spent = tt

-- a refusal that may have read the device
pub reads-refused : {D : Type 0} (g : Ghosts D) (answer : Result (Unit {0}) agents.Stop) (old new : D) → IsRefused answer
    → (IsTrue g.tells → g.told new ≡ g.told old) → g.arming new ≡ g.arming old → g.writes new ≡ g.writes old
    → Spends (flash_result answer) (g.counts old) (g.counts new) → ReadsAlone {X = Unit {0}} g (Ok tt) old new
reads-refused g (Err (agent_stop.Status st)) old new is content arming writes costs = record {
  content = content;
  arming = arming;
  reached = record { same = omega (arith, costs.faults, costs.cuts, costs.reached, costs.once); lost = λ is. absurd cc };
  writes = writes;
}
reads-refused g (Ok value) old new is content arming writes costs = absurd is
reads-refused g (Err agent_stop.Lost) old new is content arming writes costs = absurd is
reads-refused g (Err agent_stop.Fault) old new is content arming writes costs = absurd is
reads-refused g (Err agent_stop.Gone) old new is content arming writes costs = absurd is
