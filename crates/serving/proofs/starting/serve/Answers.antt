use Rattle.std.proofs.Common.{◌∙◌, refl}
use Rattle.host_io.proofs.Once.{once-none}
use Rattle.serving.specs.Going.{not_started}
use Rattle.serving.proofs.{Holds.serves-holds, Starts.serves-on}
use Rattle.serving.proofs.starting.serve.Goals as goal

pub returns-in-Err-clause-serves : goal.returns-in-Err-clause-serves
returns-in-Err-clause-serves g c =
    let stop = rw c.new.ensures at c.in-Err.ensures.boots in
    not_started stop (c.boot.ensures.exchange ∙ c.new-2.ensures) refl refl

pub returns-clause-serves : goal.returns-clause-serves
returns-clause-serves g c =
    let boots = c.in_default.ensures.boots in
    let one = rw c.new.ensures at boots.1 in
    let files_same = rw c.boot.ensures.leaves.files at c.serve_all-end.ensures.goes in
    let goes = rw (c.boot.ensures.exchange ∙ c.new-2.ensures) at files_same in
    serves-on _ _ _ c.requires.not_booted boots.0 _ one boots.2 _ c.serve_all-end.result _ _ goes

-- ---- what holds however it ended

pub returns-in-Err-clause-holds : goal.returns-in-Err-clause-holds
returns-in-Err-clause-holds g c = serves-holds _ _ c.requires.not_booted _ _ _ _ _ (returns-in-Err-clause-serves g c)

pub returns-clause-holds : goal.returns-clause-holds
returns-clause-holds g c = serves-holds _ _ c.requires.not_booted _ _ _ _ _ (returns-clause-serves g c)

-- ---- what was read

pub returns-in-Err-clause-once : goal.returns-in-Err-clause-once
returns-in-Err-clause-once g c = once-none g.I.Source g.met.I.Source.at_rest c.args.source.now
