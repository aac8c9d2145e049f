use Rattle.std.proofs.Common.{◌∙◌, sym}
use Rattle.step_flash.proofs.Room.{no_room_bytes}
use Rattle.fwu_c.proofs.Booting.{none_noted}
use Rattle.fwu_c.proofs.handing.parts_of.Goals as goal

pub returns-then-is_idle-clause-noted : goal.returns-then-is_idle-clause-noted
returns-then-is_idle-clause-noted c =
    none_noted c.args.flash _ _ (c.requires (sym c.is_idle.ensures ∙ c.if-is_idle.true)) c.clear.ensures.items

pub returns-then-is_idle-clause-theirs : goal.returns-then-is_idle-clause-theirs
returns-then-is_idle-clause-theirs c = rw (c.clear-then-is_idle.ensures.items, c.clear.ensures.items) (sym no_room_bytes)
