-- The key of the view: the places, and the device as it is handed in.
use Rattle.script_runs.proofs.partitioned.run_at.Given as goal

abbrev pub ghosts-run_mapped : goal.ghosts-run_mapped
ghosts-run_mapped g a = record { at = a.opened.places; blocks = g.D.Flash.blocks a.opened.flash; was = g.D.Flash.told a.opened.flash; writes = g.D.Flash.writes a.opened.flash }
