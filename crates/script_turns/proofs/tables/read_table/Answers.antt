use Rattle.std.proofs.Common.{rules}
use Rattle.host_io.proofs.Reading.{reads-then}
use Rattle.script_turns.proofs.tables.read_table.Goals as goal

pub returns-then-branch : goal.returns-then-branch
returns-then-branch g c = record {
  told = search rules;
  some = search rules;
  found = search rules;
  missing = search rules;
  reads = reads-then g.H.Files _ g.met.H.Files.joins _ _ _ c.is_capsule.ensures.reads c.capsule_table.ensures.reads;
  cause = search rules;
}

pub returns-else-branch : goal.returns-else-branch
returns-else-branch g c = record {
  told = search rules;
  some = search rules;
  found = search rules;
  missing = search rules;
  reads = reads-then g.H.Files _ g.met.H.Files.joins _ _ _ c.is_capsule.ensures.reads c.package_table.ensures.reads;
  cause = search rules;
}
