use Rattle.std.proofs.Common.{◌∙◌, ◌<◌, ap, sym, subst, arith, rules, List, Err, map}
use Rattle.fwu_formats.specs.Package.{Part}
use Rattle.host_io.specs.Joined.{joined}
use Rattle.fip_tables.specs.{Again.ReadsAgain, Frame.chunks, declared.faults.PackStop.PackStop}
use Rattle.fip_tables.specs.Packing.{AreOutlines, pack_fault, zeroed}
use Rattle.fip_tables.proofs.{Again.fields-of-outlines, Again.passed-is-read, Plans.zeros-decide}
use Rattle.fip_tables.proofs.payloads.pack.Goals as goal

pub returns-in_err-frame-clause-fault : goal.returns-in_err-frame-clause-fault
returns-in_err-frame-clause-fault c = record {
  fits = search rules;
  err = λ f is.
      let why = rw is at c.from_residual-in_err-frame.ensures.1 in
      sym (zeros-decide c.args.parts.now.parts.items c.args.align)
      ∙ ap (λ (ps : List Part). pack_fault ps c.args.align) (sym (c.as_slice-2.ensures.value ∙ c.in_ok-all.ensures ∙ ap (map zeroed) c.as_slice.ensures.value))
      ∙ c.in_err-frame.ensures.fault.err f (ap (λ (s : PackStop). Err s) (sym why));
}

pub returns-clause-fault : goal.returns-clause-fault
returns-clause-fault c = record {
  fits =
      sym (zeros-decide c.args.parts.now.parts.items c.args.align)
      ∙ ap (λ (ps : List Part). pack_fault ps c.args.align) (sym (c.as_slice-2.ensures.value ∙ c.in_ok-all.ensures ∙ ap (map zeroed) c.as_slice.ensures.value))
      ∙ c.in_ok-frame.ensures.fault.fits;
  err = search rules;
}

pub returns-clause-ok : goal.returns-clause-ok
returns-clause-ok c =
    let items = c.args.parts.now.parts.items in
    let frame = c.in_ok-frame.frame in
    let outlined = c.as_slice-2.ensures.value ∙ c.in_ok-all.ensures ∙ ap (map zeroed) c.as_slice.ensures.value in
    c.in_ok-filled.ensures
    ∙ ap (λ (ps : List Part). joined frame.bytes.items (chunks frame.gaps.items ps)) c.as_slice-3.ensures.value
    ∙ c.in_ok-frame.ensures.frame.filled items (sym outlined)

pub returns-clause-read_again : goal.returns-clause-read_again
returns-clause-read_again c =
    let parts = c.args.parts.now in
    let items = parts.parts.items in
    let outlined = c.as_slice-2.ensures.value ∙ c.in_ok-all.ensures ∙ ap (map zeroed) c.as_slice.ensures.value in
    let fields = fields-of-outlines items (subst AreOutlines outlined c.in_ok-frame.ensures.frame.outlines) in
    let low : parts.serial < 4294967296 = omega arith in
    let small : parts.flags < 18446744073709551616 = omega arith in
    λ some. subst (ReadsAgain parts.serial parts.flags items) (sym (returns-clause-ok c))
    (passed-is-read parts.serial parts.flags items c.args.align (returns-clause-fault c).fits fields (omega (arith, some)) low small)
