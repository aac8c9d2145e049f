use Rattle.fwu_prog.proofs.refuse_flash.Goals as goal

pub returns : goal.returns
returns g c = rw c.as_slice.ensures at c.put_line.ensures
