use Rattle.std.proofs.Common.{◌-◌, ◌%◌, ◌++◌, ◌∙◌, length, take, refl}
use Rattle.std.proofs.lemmas.List.{take_rest}
use Rattle.sha256_lanes.proofs.{Blocks.of_whole_blocks, Ends.digest_of_padded}
use Rattle.sha256_lanes.proofs.alone.Message.finish.Goals as goal

pub returns : goal.returns
returns c = λ m counted held.
    let rest = c.args.rest.now in
    let whole = length rest - length rest % 64 in
    let blocks = take whole rest in
    let last = take c.last_blocks-size.result.1 c.last_blocks-size.result.0 in
    let front = c.absorb_blocks.ensures m held in
    let padded = c.absorb_blocks-2.ensures (m ++ blocks) front in
    c.digest_bytes.ensures
    ∙ digest_of_padded c.absorb_blocks-2.new.words m rest blocks _ last c.args.total whole counted (of_whole_blocks _ m held) refl refl (take_rest rest whole)
    c.last_blocks-size.ensures.padded padded
