use Rattle.std.proofs.Common.{inl, arith, rules}
use Rattle.fwu_formats.proofs.Tables.{table-of}
use Rattle.script_turns.proofs.tables.package_table.Goals as goal

pub returns-in-Ok : goal.returns-in-Ok
returns-in-Ok g c =
    let read = c.in-Ok.ensures in
    let some = read.some in
    record {
      told = search rules;
      some = inl some;
      found = record {
        stored = λ file told. (table-of file c.in-Ok.toc (read.told file told)).within;
        ends = λ k d lt. let inside = (table-of some.bytes c.in-Ok.toc some.answer).within k d lt in omega (arith, inside, some.short);
        there = search rules;
      };
      missing = search rules;
      reads = read.reads;
      cause = search rules;
    }
