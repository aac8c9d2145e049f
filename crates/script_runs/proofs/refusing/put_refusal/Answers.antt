use Rattle.std.proofs.Common.{refl}
use Rattle.host_io.specs.Printed.{nothing}
use Rattle.script_runs.proofs.Refused.{at-refusal}
use Rattle.script_runs.proofs.refusing.put_refusal.Goals as goal

pub returns-in-Usage-clause-prints : goal.returns-in-Usage-clause-prints
returns-in-Usage-clause-prints g c = at-refusal _ _ _ _ _ _ _ c.in-Usage.is c.put_usage.ensures

pub returns-in-Unread-clause-prints : goal.returns-in-Unread-clause-prints
returns-in-Unread-clause-prints g c = at-refusal _ _ _ _ _ _ _ c.in-Unread.is c.put_line.ensures

pub returns-in-TooLong-clause-prints : goal.returns-in-TooLong-clause-prints
returns-in-TooLong-clause-prints g c = at-refusal _ _ _ _ _ _ _ c.in-TooLong.is c.put_line-in-TooLong.ensures

pub returns-in-BadScript-clause-prints : goal.returns-in-BadScript-clause-prints
returns-in-BadScript-clause-prints g c = at-refusal _ _ _ _ _ _ _ c.in-BadScript.is c.put_bad_script.ensures

pub returns-in-BadList-clause-prints : goal.returns-in-BadList-clause-prints
returns-in-BadList-clause-prints g c = at-refusal _ _ _ _ _ _ _ c.in-BadList.is c.put_bad_list.ensures

pub returns-in-NoTable-clause-prints : goal.returns-in-NoTable-clause-prints
returns-in-NoTable-clause-prints g c = at-refusal _ _ _ _ _ _ _ c.in-NoTable.is c.put_no_table.ensures

pub returns-in-Stopped-clause-prints : goal.returns-in-Stopped-clause-prints
returns-in-Stopped-clause-prints g c = at-refusal _ _ _ _ _ _ _ c.in-Stopped.is c.put_line-in-Stopped.ensures

pub returns-in-NoMemory-clause-prints : goal.returns-in-NoMemory-clause-prints
returns-in-NoMemory-clause-prints g c = at-refusal _ _ _ _ _ _ _ c.in-NoMemory.is (nothing refl refl refl)
