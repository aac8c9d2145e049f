use Rattle.host_io.proofs.Pieces.{read_piece}
use Rattle.host_io.proofs.source.MemorySourceSource.read.Goals as goal

pub returns-clause-bytes : goal.returns-clause-bytes
returns-clause-bytes c =
    rw (← c.self.view_is) (read_piece c.self.inside.bytes.items c.args.out.now c.deref.result.now c.copy_from_slice.new.self c.self.inside.at c.min-count.result
    c.deref.ensures.value c.min-count.ensures c.copy_from_slice.ensures.after c.copy_from_slice.ensures.len)
