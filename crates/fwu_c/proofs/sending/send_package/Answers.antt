use Rattle.std.proofs.Common.{◌≡◌, ◌+◌, ◌≤◌, refl, sym, ap, subst, List, ℕ, length, Some, None, Result, arith}
use Rattle.std.specs.Prelude.{All, IsErrOf, IsFalse}
use Rattle.flash_core.specs.declared.flash.FlashStop.TheVariants as flash_stop
use Rattle.host_io.specs.Contents.{Directory}
use Rattle.agent_calls.specs.Shown as agent
use Rattle.update_client.specs.{declared.stops.Sent.Sent, declared.stops.SendStop.SendStop, Halts.flash_of}
use Rattle.step_flash.specs.Flash.{told_of}
use Rattle.step_flash.proofs.Causes.{never_lost}
use Rattle.fwu_c.proofs.SentPackage.{IsSent, held_there, here_after, is_sent, never_rose, package_sent, sent_end_is}
use Rattle.fwu_formats.proofs.Tables.{table-of}
use Rattle.fwu_formats.specs.Package.{Entry}
use Rattle.package_files.specs.OneFile.{one_file}
use Rattle.fwu_c.proofs.sending.send_package.Goals as goal

-- the file of the name has the bytes that were handed in
same_file : (held : Directory) (name file other : List ℕ) → held ≡ one_file name file → held name ≡ Some other → file ≡ other
same_file held name file other is told = let there = held_there held name file is in cc

is_there : (held : Directory) (name file : List ℕ) → held ≡ one_file name file → held name ≡ None → ⊥
is_there held name file is none = let there = held_there held name file is in absurd (cc)

pub send-sent-requires-clause-payloads : goal.send-sent-requires-clause-payloads
send-sent-requires-clause-payloads c =
    let within = (table-of c.args.file.now c.args.toc.now c.requires.table).within in
    record {
      ends = λ k d lt. omega (arith, within k d lt, c.requires.short);
      stored = λ file told. subst (λ (f : List ℕ). All (λ (e : Entry). e.offset + e.size ≤ length f) c.args.toc.now.entries)
          (same_file _ _ c.args.file.now file c.new-files.ensures told) within;
      there = λ lacks. is_there _ _ c.args.file.now c.new-files.ensures lacks;
    }

pub returns : goal.returns
returns c =
    let first = c.deref_mut.result.now in
    let sent = c.send-sent in
    let file = c.args.file.now in
    let request = c.args.acceptance in
    let old = agent.moment first in
    let new = agent.moment sent.new.agent in
    let here : IsFalse (agent.gone first) = rw c.deref_mut.ensures.value c.requires.here in
    let goes = sent.ensures.goes here in
    let ends : IsSent sent.result =
    is_sent sent.result (λ read. never_rose (sent.ensures.reads.failed read))
    (λ lost. never_lost (flash_of sent.result) (agent.device first) (agent.device sent.new.agent) goes.costs
    (subst (λ (r : Result Sent SendStop). IsErrOf (flash_of r) flash_stop.Lost) (sym lost) refl))
    (λ gone. let was = (sent.ensures.gone.gone.0 gone).0 in absurd (cc (was, here))) in
    rw (c.flash_from.ensures, ← c.deref_mut.ensures.value) (record {
      installs = λ b begins.
          package_sent _ file _ request b c.args.toc.now sent.result old new
          (held_there _ _ _ c.new-files.ensures) c.requires.table ends refl begins.from (sent.ensures.sends here) begins.shows
          (λ ok s x shows. (rw c.deref.ensures at c.showing.ensures.seen)
          (here_after _ sent.result _ _ here sent.ensures.gone ok) refl s x shows)
          (λ s x shows. sent.ensures.installs here s x shows) sent.ensures.faults
          (λ early. ap (λ a. told_of (agent.device a)) (sent.ensures.untouched early));
      ends = sent_end_is sent.result ends;
      touches = sent.ensures.touches;
    })
