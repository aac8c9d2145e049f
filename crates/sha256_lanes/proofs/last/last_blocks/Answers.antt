use Rattle.std.proofs.Common.{◌≡◌, ◌+◌, ◌-◌, ◌%◌, ◌≤◌, ◌∙◌, List, ℕ, ◌∷◌, ◌++◌, length, replicate, ap, arith}
use Rattle.sha256_lanes.proofs.Ends.{last_blocks_are}
use Rattle.sha256_lanes.proofs.last.last_blocks.Goals as goal

pub returns-clause-padded : goal.returns-clause-padded
returns-clause-padded c = λ counted.
    let left = c.args.left.now in
    let z = (119 - c.args.total % 64) % 64 in
    let size = c.size_of_last-size.result in
    let bits = c.to_be_bytes.result in
    let few : length left + z ≤ 119 = omega arith in
    let eight : length bits ≡ 8 = ap length c.to_be_bytes.ensures in
    last_blocks_are left bits c.put.new.out c.put-2.new.out c.put-3.new.out z size few (omega arith) eight c.put.ensures c.put-2.ensures c.put-3.ensures
    ∙ ap (λ (b : List ℕ). left ++ (0x80 ∷ replicate z 0 ++ b)) c.to_be_bytes.ensures
