use Rattle.std.proofs.Common.{◌≡◌, length, take}
use Rattle.fwu_model.specs.Answer.{are_named}
use Rattle.agent_kept.specs.Kept.{kept}
use Rattle.agent_state.proofs.deciding.named.Given as goal

abbrev pub invariant-loop-image : goal.invariant-loop-image
invariant-loop-image l = record {
  long : length l.named ≡ 16;
  first : take l.image l.named ≡ are_named (take l.image (kept l.session).rows) l.list;
}
