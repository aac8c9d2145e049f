use Rattle.std.proofs.Common.{Some, ap, map, ◌∙◌, string_bytes}
use Rattle.fip_tool.proofs.{DoneBy.done-starved, DoneBy.done-usage, UnpackWords.asked-is-other}
use Rattle.fip_tool.proofs.top.run.Goals as goal

pub command-requires : goal.command-requires
command-requires g c = record { other = λ from prefix names e. asked-is-other from prefix names (map string_bytes c.args.words.now) (c.in-Ok.ensures ∙ ap Some e) }

pub returns-in-Err-Usage : goal.returns-in-Err-Usage
returns-in-Err-Usage g c = done-usage g.met.I.Source.at_rest (rw c.in-Err-Usage.field-0-is at c.in-Err-Usage.ensures) (g.met.H.Files.at_rest c.args.files.now)

pub returns-in-Err-NoMemory : goal.returns-in-Err-NoMemory
returns-in-Err-NoMemory g c = done-starved g.met.I.Source.at_rest (g.met.H.Files.at_rest c.args.files.now)
