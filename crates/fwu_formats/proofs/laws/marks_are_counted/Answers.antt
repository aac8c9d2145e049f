use Rattle.fwu_formats.proofs.Marks.{marks-are-counted}
use Rattle.fwu_formats.proofs.laws.marks_are_counted.Goals as goal

pub returns : goal.returns
returns c = marks-are-counted
