use Rattle.std.proofs.Common.{inr, rules}
use Rattle.capsule_tables.proofs.Within.{ends-within}
use Rattle.script_turns.proofs.tables.capsule_table.Goals as goal

pub returns-in-Ok : goal.returns-in-Ok
returns-in-Ok g c =
    let read = c.in-Ok.ensures in
    record {
      told = search rules;
      some = inr read.some;
      found = record {
        stored = λ file told. ends-within file c.in-Ok.toc (read.told file told);
        ends = search rules;
        there = search rules;
      };
      missing = search rules;
      reads = read.reads;
      cause = search rules;
    }
