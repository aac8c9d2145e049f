use Rattle.std.proofs.Common.{◌≡◌, List, [], get_or, ap, ◌∙◌, arith}
use Rattle.std.proofs.lemmas.List.{get_or_default}
use Rattle.base_core.specs.declared.rows.ImageRow.{ImageRow}
use Rattle.agent_machine.proofs.Room.{slot-small}
use Rattle.agent_calls.proofs.agent.Agent.slot_bytes.Goals as goal

pub overflow_mul-result : goal.overflow_mul-result
overflow_mul-result g c =
    let L = c.args.self.now.layout in
    let row : ImageRow = c.index-rows-image.result in
    let slots : (get_or c.rows.result.now c.args.image row).slots ≡ (get_or L.rows c.args.image (record { guid = []; slots = 0 })).slots =
    ap (λ (l : List ImageRow). (get_or l c.args.image row).slots) c.rows.ensures.value
    ∙ ap (λ (r : ImageRow). r.slots) (get_or_default L.rows c.args.image row (record { guid = []; slots = 0 }) c.requires) in
    let small = slot-small L c.args.image c.rows.ensures.fit c.requires in
    omega (arith, slots, small)
