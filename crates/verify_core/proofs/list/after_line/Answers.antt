use Rattle.std.proofs.Common.{◌-◌, arith, drop}
use Rattle.std.proofs.lemmas.List.{length-drop, take_all}
use Rattle.verify_core.proofs.list.after_line.Goals as goal

pub returns : goal.returns
returns c = take_all _ (drop 65 c.args.text.now) (omega (arith, length-drop 65 c.args.text.now))
