use Rattle.meta_layout.proofs.Writes.{seal-is, blank-tail}
use Rattle.meta_layout.proofs.bytes.seal.Goals as goal

pub returns : goal.returns
returns c =
    seal-is c.args.out.now _ c.put_le32.new.bytes c.args.size c.crc32-sum.result c.requires.low c.requires.room c.put_le32.ensures c.crc32-sum.ensures
    (blank-tail c.args.out.now c.blank.new.out c.args.size c.requires.room c.blank.ensures)
